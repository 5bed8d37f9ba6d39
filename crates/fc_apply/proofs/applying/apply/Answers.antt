use Rattle.std.proofs.Common.{sym, ◌∙◌}
use Rattle.std.proofs.lemmas.Result.{IfOk-weaker}
use Rattle.fc_model.specs.NamelessView.{nmodules_of}
use Rattle.fc_apply.proofs.OfTheModule.{drops_takes, taken_is_built, takes_drops}
use Rattle.fc_apply.proofs.applying.apply.Goals as goal

pub returns-then-is_of_the_module-clause-taken : goal.returns-then-is_of_the_module-clause-taken
returns-then-is_of_the_module-clause-taken c =
    IfOk-weaker c.drop_in_first.result _ _ (λ b h true. drops_takes c.args.step.now _ _ (sym c.is_of_the_module.ensures ∙ c.if-is_of_the_module.true) (h true)) c.drop_in_first.ensures.dropped

pub returns-then-is_of_the_module-clause-refused : goal.returns-then-is_of_the_module-clause-refused
returns-then-is_of_the_module-clause-refused c =
    IfOk-weaker c.drop_in_first.result _ _ (λ b h false run after takes.
    h false after (takes_drops c.args.step.now (nmodules_of c.args.modules.now) after (sym c.is_of_the_module.ensures ∙ c.if-is_of_the_module.true) takes)) c.drop_in_first.ensures.none

pub returns-else-is_of_the_module-clause-refused : goal.returns-else-is_of_the_module-clause-refused
returns-else-is_of_the_module-clause-refused c =
    IfOk-weaker c.apply_at_place.result _ _ (λ b h false run after takes.
    h false (taken_is_built c.args.step.now (nmodules_of c.args.modules.now) after (sym c.is_of_the_module.ensures ∙ c.if-is_of_the_module.false) run takes) after takes) c.apply_at_place.ensures.refused
