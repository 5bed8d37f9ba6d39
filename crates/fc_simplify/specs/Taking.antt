-- A row that is found in a definition, and what it made in its place.
use Rattle.std.specs.Prelude.{◌≡◌, ◌≤◌, ⊤, ℕ, List, [], ◌∷◌, Option, Some, None, slice_get, slice_set}
use Rattle.fc_syntax.specs.Tree.{Word}
use Rattle.fc_syntax.specs.View.{decl_of}
use Rattle.fc_syntax.specs.declared.module.Decl as RustDecl
use Rattle.fc_syntax.specs.declared.module.Module as RustModule
use Rattle.fc_syntax.specs.declared.ty.Ref.{Ref}
use Rattle.fc_log.specs.declared.log.Row.{Row}
use Rattle.fc_log.specs.declared.log.Row.TheVariants as row
use Rattle.fc_log.specs.declared.log.Step.{Step}
use Rattle.fc_model.specs.Kinding.{decls_at}
use Rattle.fc_model.specs.Nameless.{NDecl, NData, NNew, NFamily, NAxiom, NDef, NWrap, NExpr, NModule}
use Rattle.fc_model.specs.Worded.{WExpr}
use Rattle.fc_reaching.specs.Reaching.{decls_in}
use Rattle.fc_rows.specs.Surroundings.{outside}
use Rattle.fc_search_laws.specs.Searching.{searched}
use Rattle.fc_apply.specs.Definitions.{exchanged_in_decl, right_side}
use Rattle.fc_let_runs.specs.Runs.{IsRun}
use Rattle.fc_row_search.specs.Spots.{applying_of}
use Rattle.fc_row_search.specs.declared.spots.Applying.{Applying}
use Rattle.fc_simplify.specs.Phase.{room}
use Rattle.fc_simplify.specs.Steps.{step_of}

-- the word of a definition
abbrev pub word_of : NDecl → Option Word
word_of (NDef n t e) = Some n
word_of (NWrap n t e) = Some n
word_of (NData n ps cs) = None
word_of (NNew n ps t con) = None
word_of (NFamily n ps k) = None
word_of (NAxiom n ps t u) = None

-- a search of the right side of the declaration of a number finds this, of which this is the step
pub record IsFound (spare i : ℕ) (a : Applying) (s : Step) (n : NModule) (xs : List NModule) : Type 0 where
  pub decl : NDecl
  pub word : Word
  pub right : NExpr
  pub from : List ℕ
  pub there : slice_get (decls_in n) i ≡ Some decl
  pub word_is : word_of decl ≡ Some word
  pub right_is : right_side decl ≡ Some right
  pub found : searched (decls_at (n ∷ xs)) spare room from (outside (decls_at (n ∷ xs))) right ≡ Some (applying_of a)
  pub step : s ≡ step_of word a

abbrev pub IsNext : ℕ → ℕ → Applying → Step → List NModule → Type 0
IsNext spare i a s [] = ⊥
IsNext spare i a s (n ∷ xs) = IsFound spare i a s n xs

-- what a row made becomes another by so many lets of a run, where the row is let-atom; any row has a run of none
pub record HasRun (r : Row) (first : NExpr) (count : ℕ) (new : NExpr) : Type 0 where
  pub run : IsRun count first new
  pub row_is : 1 ≤ count → r ≡ row.LetAtom

-- an expression was put at a place of the right side of the declaration of a number of the first module, where another stood
pub record IsExchanged (i : ℕ) (p : List ℕ) (by old : WExpr) (m k : RustModule.Module ℕ Ref) : Type 0 where
  pub before : RustDecl.Decl ℕ Ref
  pub after : RustDecl.Decl ℕ Ref
  pub there : slice_get m.decls i ≡ Some before
  pub put : exchanged_in_decl by (1 ∷ p) (decl_of before) ≡ Some (old, decl_of after)
  pub set : k ≡ record m { decls = slice_set m.decls i after }

abbrev pub IsPut : ℕ → List ℕ → WExpr → WExpr → List (RustModule.Module ℕ Ref) → List (RustModule.Module ℕ Ref) → Type 0
IsPut i p by old [] after = ⊥
IsPut i p by old (m ∷ ms) [] = ⊥
IsPut i p by old (m ∷ ms) (k ∷ ks) = (ks ≡ ms) × IsExchanged i p by old m k

-- nothing stands at that place, and nothing has changed
abbrev pub IsNowhere : ℕ → List ℕ → WExpr → List (RustModule.Module ℕ Ref) → Type 0
IsNowhere i p by [] = ⊤
IsNowhere i p by (m ∷ ms) = (d : RustDecl.Decl ℕ Ref) → slice_get m.decls i ≡ Some d → exchanged_in_decl by (1 ∷ p) (decl_of d) ≡ None
