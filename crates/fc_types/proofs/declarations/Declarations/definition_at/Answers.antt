use Rattle.std.proofs.Common.{Some, None}
use Rattle.fc_model.specs.NamelessView.{nty_of}
use Rattle.fc_types.proofs.ByNumber.{definition_is, value_at}
use Rattle.fc_types.specs.Listed.{definition_types}
use Rattle.fc_types.proofs.declarations.Declarations.definition_at.Goals as goal

pub returns-in-None-clause-value : goal.returns-in-None-clause-value
unfolding definition_types
returns-in-None-clause-value c = value_at (λ t. nty_of t.now) c.args.self.now.tables.definitions.entries c.args.number None c.in-None.ensures.entry

pub returns-in-Some-clause-value : goal.returns-in-Some-clause-value
unfolding definition_types
returns-in-Some-clause-value c =
    value_at (λ t. nty_of t.now) c.args.self.now.tables.definitions.entries c.args.number (Some (c.in-Some.field-0-0.now, c.in-Some.ty.now)) c.in-Some.ensures.entry

pub returns-in-Some-clause-declared : goal.returns-in-Some-clause-declared
returns-in-Some-clause-declared c = definition_is c.args.self.now c.in-Some.field-0-0.now c.in-Some.ty.now c.in-Some.ensures.value
