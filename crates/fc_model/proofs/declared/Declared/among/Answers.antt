use Rattle.std.proofs.Common.{ap, ◌∙◌}
use Rattle.fc_syntax.specs.Tree.{Word}
use Rattle.fc_syntax.specs.View.{decls_of}
use Rattle.fc_model.specs.OfferViews.{offers_in}
use Rattle.fc_model.specs.Resolution.{Offers, Top, WordSet, Words, no_word, no_words, plus_all}
use Rattle.fc_model.specs.WordSets.{set_of}
use Rattle.fc_model.specs.DeclaredWords.{all_behind, words_by_space}
use Rattle.fc_model.proofs.Declares.{behind_all}
use Rattle.fc_model.proofs.declared.Declared.among.Goals as goal

top_with : Offers → Word → WordSet → Words → Top
top_with offers o is ws = record { own = o; imports = is; offers = offers; types = ws.types; terms = ws.terms; coercions = ws.coercions }

pub returns-clause-top : goal.returns-clause-top
unfolding words_by_space top_with
returns-clause-top g c =
    let decls = decls_of c.args.m.now.decls in
    let offers = offers_in c.args.offers in
    ap (λ o. top_with offers o (set_of c.add_all.new.self) (words_by_space c.in_ok-spaces.spaces)) c.in_ok-own.ensures
    ∙ ap (λ is. top_with offers c.args.m.now.name is (words_by_space c.in_ok-spaces.spaces)) (c.in_ok-add_all.ensures ∙ ap (λ ws. plus_all ws (set_of c.new-imports.result)) c.as_slice.ensures ∙ ap (λ s. plus_all c.args.m.now.imports s) c.new-imports.ensures)
    ∙ ap (λ ws. top_with offers c.args.m.now.name (plus_all c.args.m.now.imports no_word) ws) (c.in_ok-spaces.ensures ∙ ap (λ ds. all_behind (decls_of ds) no_words) c.as_slice-2.ensures ∙ behind_all decls no_words)
