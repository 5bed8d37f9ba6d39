use Rattle.std.proofs.Common.{◌≤◌, ◌-◌, sym, subst}
use Rattle.fc_model.specs.NamelessView.{nmodules_of}
use Rattle.fc_simplify.specs.Phase.{FirstHasSpare}
use Rattle.fc_simplify.proofs.InFirst.{first_spare}
use Rattle.fc_simplify.proofs.rounds.spare_of.Goals as goal

pub overflow_sub-result : goal.overflow_sub-result
overflow_sub-result c =
    let spare = first_spare c.args.modules.now c.in-Some.module.now _ c.in_ok-measures-in-Some.measures.size c.in-Some.ensures.item.1 c.in-Some.ensures.item.0 c.requires c.in_ok-measures-in-Some.ensures.size in
    subst (λ l. c.in_ok-measures-in-Some.measures.size ≤ l.result_size) (sym c.standard-limits.ensures) spare.0

pub returns-in_ok-measures-in-Some : goal.returns-in_ok-measures-in-Some
returns-in_ok-measures-in-Some c =
    let spare = first_spare c.args.modules.now c.in-Some.module.now _ c.in_ok-measures-in-Some.measures.size c.in-Some.ensures.item.1 c.in-Some.ensures.item.0 c.requires c.in_ok-measures-in-Some.ensures.size in
    subst (λ l. FirstHasSpare (l.result_size - c.in_ok-measures-in-Some.measures.size) (nmodules_of c.args.modules.now)) (sym c.standard-limits.ensures) spare.1
