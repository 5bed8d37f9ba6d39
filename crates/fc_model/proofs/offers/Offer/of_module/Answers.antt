use Rattle.std.proofs.Common.{ap, ◌∙◌}
use Rattle.fc_syntax.specs.View.{decls_of}
use Rattle.fc_model.specs.DeclaredWords.{all_behind, words_by_space}
use Rattle.fc_model.specs.Resolution.{no_words, plus_all}
use Rattle.fc_model.specs.WordSets.{set_of}
use Rattle.fc_model.proofs.Declares.{bare_spaces}
use Rattle.fc_model.proofs.offers.Offer.of_module.Goals as goal

pub returns : goal.returns
unfolding words_by_space
returns c =
    let m = c.args.m.now in (
      c.in_ok-add_all-2.ensures ∙ ap (λ ws. plus_all ws (set_of c.add_all.new.self)) c.as_slice-2.ensures
          ∙ ap (plus_all m.exports) (c.in_ok-add_all.ensures ∙ ap (λ ws. plus_all ws (set_of c.new-told.result)) c.as_slice.ensures ∙ ap (plus_all m.hidden) c.new-told.ensures),
      c.in_ok-declared.ensures ∙ ap (λ ds. all_behind (decls_of ds) no_words) c.as_slice-3.ensures ∙ bare_spaces (decls_of m.decls),
    )
