use Rattle.std.proofs.Common.{IsTrue, sym, subst}
use Rattle.std.proofs.lemmas.Result.{IfOk-weaker}
use Rattle.fc_named_rows.proofs.steps.shrink.Goals as goal

pub returns-clause-refused : goal.returns-clause-refused
returns-clause-refused c = IfOk-weaker c.take.result _ _ (λ b h no is. h no (subst IsTrue (sym c.shrinks.ensures.shrinks) is)) c.take.ensures.refused
