-- The definitions of a module that reach themselves.
use Rattle.std.specs.Prelude.{◌≡◌, ◌↔◌, ℕ, Bool, true, List, length, Some}
use Rattle.fc_syntax.specs.Tree.{Word}
use Rattle.fc_model.specs.Nameless.{NModule}
use Rattle.fc_graph.specs.Graphs.{is_marked}
use Rattle.fc_reaching.specs.Numbering.{number_in}
use Rattle.fc_reaching.specs.Reaching.{ReachesDefinition, decls_in}

-- the declaration of a number is the first definition of a word, and that word is reached from itself
pub record IsRecursive (m : NModule) (k : ℕ) : Type 0 where
  pub word : Word
  pub first : number_in m word ≡ Some k
  pub reached : ReachesDefinition m word word

-- for each declaration whether it is a definition that reaches itself
pub record AreRecursive (m : NModule) (marks : List Bool) : Type 0 where
  pub count : length marks ≡ length (decls_in m)
  pub recursive : (k : ℕ) → (is_marked marks k ≡ true) ↔ IsRecursive m k
