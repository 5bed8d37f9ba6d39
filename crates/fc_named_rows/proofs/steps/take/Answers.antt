use Rattle.std.proofs.Common.{rules, ◌≡◌, map, subst}
use Rattle.fc_syntax.specs.View.{module_of}
use Rattle.fc_lattice.specs.View.{as_interface}
use Rattle.fc_named_rows.specs.Among.{IsMade}
use Rattle.fc_named_rows.proofs.steps.take.Goals as goal

pub returns-in-Ok-None-clause-refused : goal.returns-in-Ok-None-clause-refused
returns-in-Ok-None-clause-refused c _ of_call is left made =
    let same : c.args.imports.now.interfaces ≡ c.as_slice.result.now = search rules in
    c.in-Ok-None.ensures.none c.in-Ok-None.field-0-is is left (subst (λ is. IsMade c.args.step.now (map as_interface is) (module_of c.args.m.now) left) same made)
