use Rattle.std.proofs.Common.{rules, ◌≡◌, Some}
use Rattle.std.specs.Prelude.{slice_get}
use Rattle.fc_model.specs.NamelessView.{nexpr_of}
use Rattle.fc_simplify.proofs.Next.{next_there, none_there, quiet_there}
use Rattle.fc_simplify.proofs.taking.next_step.Goals as goal

pub returns-in_default-clause-none : goal.returns-in_default-clause-none
returns-in_default-clause-none c = λ whole none.
    let first : slice_get c.args.modules.now 0 ≡ Some c.index-modules-0.result = search rules in
    none_there c.args.spare c.args.number c.args.modules.now c.index-modules-0.result c.at.result.now first c.at.ensures c.in_default.ensures.right

pub returns-in_ok-step-in-Some-2-clause-some : goal.returns-in_ok-step-in-Some-2-clause-some
returns-in_ok-step-in-Some-2-clause-some c =
    let first : slice_get c.args.modules.now 0 ≡ Some c.index-modules-0.result = search rules in
    next_there c.args.spare c.args.number c.args.modules.now c.index-modules-0.result c.at.result.now c.in-Some.word.now (nexpr_of c.in-Some.right.now) c.args.from.now c.in-Some-2.found c.in_ok-step-in-Some-2.step
    first c.at.ensures c.in-Some.ensures.word c.in-Some.ensures.right (search rules) c.in_ok-step-in-Some-2.ensures

pub returns-in-None-clause-none : goal.returns-in-None-clause-none
returns-in-None-clause-none c = λ whole none.
    let first : slice_get c.args.modules.now 0 ≡ Some c.index-modules-0.result = search rules in
    quiet_there c.args.spare c.args.number c.args.modules.now c.index-modules-0.result c.at.result.now (nexpr_of c.in-Some.right.now) c.args.from.now
    first c.at.ensures c.in-Some.ensures.right whole (search rules)
