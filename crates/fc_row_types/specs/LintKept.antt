-- Rows keep Lint: a module that lints with its imports lints after each, and each definition is of its old type.
use Rattle.std.specs.Prelude.{◌≡◌, ℕ, All, List, ◌∷◌, Some}
use Rattle.fc_syntax.specs.Tree.{Word}
use Rattle.fc_log.specs.declared.log.Row.{Row}
use Rattle.fc_model.specs.Headers.{ndecls_in}
use Rattle.fc_model.specs.Kinding.{decls_at}
use Rattle.fc_model.specs.LintingRules.{ModuleHolds}
use Rattle.fc_model.specs.Nameless.{NModule}
use Rattle.fc_model.specs.Typing.{def_type}
use Rattle.fc_model.specs.TypingLaws.{HasDistinctTypes}
use Rattle.fc_rows.specs.Rewriting.{rewritten}

-- a module and the modules of its imports hold against all of them
pub record LintsWith (xs : List NModule) (n : NModule) : Type 0 where
  pub distinct : All HasDistinctTypes (n ∷ xs)
  pub hold : All (ModuleHolds (decls_at (n ∷ xs))) (n ∷ xs)

-- each definition of one has in the other the same type
abbrev pub DefinesAlike : NModule → NModule → Type 0
DefinesAlike m n = (w : Word) → def_type (ndecls_in n) w ≡ def_type (ndecls_in m) w

-- each row, at any place of the definition of any word
abbrev pub RowsKeepLint : Type 0
RowsKeepLint = (xs : List NModule) (r : Row) (w : Word) (p : List ℕ) (n k : NModule) → LintsWith xs n → rewritten xs r w p n ≡ Some k → LintsWith xs k × DefinesAlike n k
