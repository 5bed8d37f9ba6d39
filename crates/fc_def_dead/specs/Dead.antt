-- The definitions of a module that nothing needs, and lists without what is marked.
use Rattle.std.specs.Prelude.{◌≡◌, ◌↔◌, Bool, true, false, List, [], ◌∷◌, ◌++◌, map}
use Rattle.fc_syntax.specs.Tree.{Word}
use Rattle.fc_model.specs.Nameless.{NModule, NModuleOf}
use Rattle.fc_reaching.specs.Reaching.{decls_in}
use Rattle.fc_reaching.specs.Remaining.{defines_other}
use Rattle.fc_rows.specs.Dropping.{IsNeeded}

-- the words that others may use: the exported and the hidden ones
abbrev pub offered_words : NModule → List Word
offered_words (NModuleOf m imports exports hidden ds) = exports ++ hidden

-- for each declaration, in declared order, whether it is a definition that is not needed
pub record AreDead (n : NModule) (marks : List Bool) : Type 0 where
  pub keep : Word → Bool
  pub needed : (w : Word) → (keep w ≡ true) ↔ IsNeeded n w
  pub in_order : marks ≡ map (defines_other keep) (decls_in n)

-- a list without the items whose marks are true
abbrev pub without_marked : {X : Type 0} → List Bool → List X → List X
without_marked [] xs = []
without_marked (b ∷ bs) [] = []
without_marked (true ∷ bs) (x ∷ xs) = without_marked bs xs
without_marked (false ∷ bs) (x ∷ xs) = x ∷ without_marked bs xs
