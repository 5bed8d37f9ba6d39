use Rattle.std.proofs.Common.{◌≡◌, ◌∙◌, ap}
use Rattle.std.proofs.lemmas.Result.{IfOk-weaker}
use Rattle.fc_model.specs.NamelessView.{ndecls_of, nmodule_of}
use Rattle.fc_reaching.specs.DefinitionsView.{meant_by}
use Rattle.fc_reaching.specs.Numbering.{meant_in, mention_graph}
use Rattle.fc_reaching.specs.Reaching.{decls_in}
use Rattle.fc_reaching.proofs.reaching.mentions_of_each.Goals as goal

pub returns : goal.returns
returns c =
    let m = nmodule_of c.args.m.now in
    let meant = meant_by c.in_ok-definitions.definitions in
    IfOk-weaker c.graph_of.result (λ graph. graph ≡ mention_graph meant (ndecls_of c.as_slice.result.now)) (λ graph. graph ≡ mention_graph (meant_in m) (decls_in m))
    (λ graph is. is ∙ ap (λ ds. mention_graph meant (ndecls_of ds)) c.as_slice.ensures ∙ ap (λ f. mention_graph f (decls_in m)) c.in_ok-definitions.ensures.meant)
    c.graph_of.ensures
