use Rattle.std.proofs.Common.{map, subst, sym}
use Rattle.fc_syntax.specs.View.{module_of}
use Rattle.fc_model.specs.Planning.{plan_fault}
use Rattle.fc_plan.specs.Refusing.{Tells}
use Rattle.fc_build.specs.Acceptance.{FaultOfSet}
use Rattle.fc_build.proofs.JudgeLemmas.{unplanned_as}
use Rattle.fc_build.proofs.judge.judge_set.Goals as goal

pub returns-in-Err-Fault-clause-judged : goal.returns-in-Err-Fault-clause-judged
returns-in-Err-Fault-clause-judged c =
    let ms = map module_of c.args.modules.items in
    let tells = subst (λ xs. Tells (plan_fault (map module_of xs)) c.in-Err-Fault.field-0) c.as_slice.ensures.value c.in-Err-Fault.ensures.fault in
    subst (FaultOfSet ms) (sym c.in-Err-Fault.fault-is) (unplanned_as ms c.in-Err-Fault.field-0 c.in-Err-Fault.fault c.in-Err-Fault.field-0-is tells)
