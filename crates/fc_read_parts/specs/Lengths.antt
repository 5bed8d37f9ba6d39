-- The words of the forms by their length.
use Rattle.std.specs.Prelude.{◌==◌, ℕ, List, [], ◌∷◌, length, if◌then◌else◌}
use Rattle.fc_syntax.specs.declared.keyword.Keyword.{Keyword}
use Rattle.fc_syntax.specs.Keywords.{keyword_text}

-- those of so many bytes among these
abbrev pub of_length : ℕ → List Keyword → List Keyword
of_length n [] = []
of_length n (k ∷ ks) = if length (keyword_text k) == n then k ∷ of_length n ks else of_length n ks
