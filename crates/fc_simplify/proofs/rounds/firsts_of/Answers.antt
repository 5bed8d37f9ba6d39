use Rattle.std.proofs.lemmas.Result.{IfOk-weaker}
use Rattle.fc_model.specs.NamelessView.{nmodule_of, nmodules_of}
use Rattle.fc_reaching.specs.Firsts.{AreFirst}
use Rattle.fc_simplify.specs.Phase.{FirstsAre}
use Rattle.fc_simplify.proofs.InFirst.{first_marked}
use Rattle.fc_simplify.proofs.rounds.firsts_of.Goals as goal

pub returns-in-Some : goal.returns-in-Some
returns-in-Some c =
    IfOk-weaker c.first_definitions.result (λ marks. AreFirst (nmodule_of c.in-Some.module.now) marks.items) (λ marks. FirstsAre marks.items (nmodules_of c.args.modules.now))
    (λ marks are. first_marked c.args.modules.now c.in-Some.module.now _ marks.items c.in-Some.ensures.item.1 c.in-Some.ensures.item.0 are) c.first_definitions.ensures
