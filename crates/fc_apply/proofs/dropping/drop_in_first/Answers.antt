use Rattle.std.proofs.lemmas.Result.{IfOk-weaker}
use Rattle.fc_apply.proofs.OfTheModule.{none_drops}
use Rattle.fc_apply.proofs.dropping.drop_in_first.Goals as goal

pub returns-in-Some-clause-none : goal.returns-in-Some-clause-none
returns-in-Some-clause-none c =
    IfOk-weaker c.drop_dead.result _ _ (λ b h false. none_drops c.args.modules.now c.in-Some.module.now _ c.in-Some.ensures.item.1 (h false)) c.drop_dead.ensures.none
