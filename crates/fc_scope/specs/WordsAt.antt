-- The word of the binder at a distance, among binders of values and of join points, the innermost first.
use Rattle.std.specs.Prelude.{ℕ, zero, suc, List, [], ◌∷◌, Option, Some, None}
use Rattle.fc_syntax.specs.Tree.{Word}
use Rattle.fc_model.specs.Resolution.{TermWord, Value, Join}

abbrev pub value_word : List TermWord → ℕ → Option Word
value_word [] i = None
value_word (Value w ∷ xs) zero = Some w
value_word (Value w ∷ xs) (suc i) = value_word xs i
value_word (Join w ∷ xs) i = value_word xs i

abbrev pub join_word : List TermWord → ℕ → Option Word
join_word [] i = None
join_word (Value w ∷ xs) i = join_word xs i
join_word (Join w ∷ xs) zero = Some w
join_word (Join w ∷ xs) (suc i) = join_word xs i
