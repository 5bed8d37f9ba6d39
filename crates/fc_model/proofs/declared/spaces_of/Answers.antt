use Rattle.std.proofs.Common.{arith, ◌≡◌, ◌+◌, ◌∷◌, drop, sym, ap, ◌∙◌}
use Rattle.std.proofs.lemmas.List.{drop_all}
use Rattle.fc_syntax.specs.View.{decls_of}
use Rattle.fc_model.specs.DeclaredWords.{all_behind, words_by_space}
use Rattle.fc_model.proofs.Lists.{drop_item}
use Rattle.fc_model.proofs.declared.spaces_of.Goals as goal

pub loop-decl-preserved : goal.loop-decl-preserved
loop-decl-preserved g c =
    let rest = drop (c.loop-decl.decl-index + 1) c.args.decls.now in
    let here : drop c.loop-decl.decl-index c.args.decls.now ≡ c.decl-item.result ∷ rest = drop_item c.args.decls.now c.loop-decl.decl-index c.decl-item.result (omega arith) c.decl-item.is in
    ap (all_behind (decls_of rest)) c.in_ok-add.ensures ∙ ap (λ ds. all_behind (decls_of ds) (words_by_space c.loop-decl.spaces)) (sym here) ∙ c.loop-decl.invariant

pub returns : goal.returns
returns g c =
    ap (λ ds. all_behind (decls_of ds) (words_by_space c.loop-decl.spaces)) (sym (drop_all c.loop-decl.decl-index c.args.decls.now (omega arith))) ∙ c.loop-decl.invariant
