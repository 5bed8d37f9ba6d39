use Rattle.std.proofs.Common.{◌≡◌, ◌∙◌, ℕ, List, true, if◌then◌else◌, ap}
use Rattle.std.specs.Rc.{rc_str_bytes}
use Rattle.std.specs.Str.{bytes_eq}
use Rattle.fc_model.specs.WordSets.{set_of}
use Rattle.fc_model.proofs.SharedWords.{has_word, put_in}
use Rattle.fc_model.proofs.word_set.WordSet.add.Goals as goal

pub returns-clause-ok : goal.returns-clause-ok
unfolding set_of
returns-clause-ok c =
    let old = c.args.self.now.words in
    let at : (w : List ℕ) → has_word c.insert.new.self w ≡ (if bytes_eq c.args.word.now w then true else has_word old w) = λ w.
    put_in (rc_str_bytes c.in_ok-word.word) old c.insert.new.self c.in_ok-insert.ensures.updates w
    ∙ ap (λ (b : List ℕ). if bytes_eq b w then true else has_word old w) c.in_ok-word.ensures in
    λ i w. at w i
