-- How the text of a log is put together.
use Rattle.std.proofs.Common.{◌≡◌, ℕ, List, [], ◌∷◌, ◌++◌, sym, ap, append_assoc}
use Rattle.std.proofs.lemmas.List.{append-nil}
use Rattle.std.specs.Fmt.{decimal}
use Rattle.fc_log.specs.Dots.{dotted_text}
use Rattle.fc_log.specs.Texts.{path_text}

-- a path is its first number, and a dot before each other
pub path_by_dots : (n : ℕ) (ns : List ℕ) → path_text (n ∷ ns) ≡ decimal n ++ dotted_text ns
path_by_dots n [] = sym (append-nil (decimal n))
path_by_dots n (m ∷ ns) = ap (λ y. decimal n ++ 46 ∷ y) (path_by_dots m ns)

pub ruleset path_rules = (path_by_dots, append_assoc, append-nil)
