use Rattle.std.proofs.Common.{IsTrue, sym, subst}
use Rattle.std.proofs.lemmas.Result.{IfOk-weaker}
use Rattle.fc_named_rows.proofs.steps.commute.Goals as goal

pub returns-clause-refused : goal.returns-clause-refused
returns-clause-refused c =
    IfOk-weaker c.take.result _ _ (λ b h no is.
    let commutes = subst IsTrue (sym c.commutes.ensures.commutes) is in
    h no commutes (c.commutes.ensures.runs commutes)) c.take.ensures.refused
