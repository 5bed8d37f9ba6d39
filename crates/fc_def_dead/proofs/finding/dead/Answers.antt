use Rattle.std.proofs.Common.{◌∙◌, ap, map}
use Rattle.std.proofs.lemmas.Result.{IfOk-weaker}
use Rattle.fc_model.specs.NamelessView.{nmodule_of}
use Rattle.fc_def_dead.proofs.Needs.{unreached_dead}
use Rattle.fc_def_dead.proofs.finding.dead.Goals as goal

pub returns : goal.returns
returns c =
    let roots = ap (map (λ w. w.now)) c.as_slice.ensures.value ∙ c.in_ok-words.ensures in
    IfOk-weaker c.unreached.result _ _ (λ marks are. unreached_dead (nmodule_of c.args.m.now) _ marks.items roots are) c.unreached.ensures
