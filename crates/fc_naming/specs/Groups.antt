-- The words of a group of binds, join points or parameters.
use Rattle.std.specs.Prelude.{◌≡◌, true, List, length}
use Rattle.std.specs.List.{list_all}
use Rattle.fc_syntax.specs.Tree.{Word}
use Rattle.fc_model.specs.Formed.{is_lower_word}
use Rattle.fc_model.specs.Resolution.{Locals, WordSet, enter_joins, enter_values, plus_all}
use Rattle.fc_model.specs.ResolutionRules.{AreDistinct}
use Rattle.fc_scope.specs.ScopeWords.{with_joins, with_values}

-- For each item a lower word that is not taken and differs from those before, and the same words for look-ups; then they are taken.
pub record IsGroup {X : Type 0} (taken : WordSet) (items : List X) (words names : List Word) (more : WordSet) : Type 0 where
  pub distinct : AreDistinct taken words
  pub counted : length words ≡ length items
  pub lower : list_all is_lower_word words ≡ true
  pub values : (s : Locals) → with_values names s ≡ enter_values words s
  pub joins : (s : Locals) → with_joins names s ≡ enter_joins words s
  pub taken_then : more ≡ plus_all words taken
