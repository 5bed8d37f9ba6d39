use Rattle.std.proofs.Common.{◌∙◌, ap, sym}
use Rattle.std.specs.List.{list_any}
use Rattle.fc_def_dead.proofs.Needs.{drops_none}
use Rattle.fc_def_dead.proofs.dropping.dead_definitions.Goals as goal

pub returns-then-not-any_marked-clause-none : goal.returns-then-not-any_marked-clause-none
returns-then-not-any_marked-clause-none c same k d =
    drops_none c.args.module.now c.in_ok-marks.marks.items c.in_ok-marks.ensures
    (ap (list_any (λ b. b)) (sym c.as_slice.ensures.value) ∙ sym c.any_marked.ensures ∙ c.if-not-any_marked.true) k d
