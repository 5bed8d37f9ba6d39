-- Rows keep what programs show: a change by a row at a place of a module, and each row of the table.
use Rattle.std.specs.Prelude.{◌≡◌, All, ℕ, List, [], ◌∷◌, Some}
use Rattle.fc_syntax.specs.Tree.{Word}
use Rattle.fc_log.specs.declared.log.Row.{Row}
use Rattle.fc_model.specs.Headers.{ndecls_in}
use Rattle.fc_model.specs.Kinding.{Modules, decls_at}
use Rattle.fc_model.specs.Nameless.{NTy, NExpr, NModule}
use Rattle.fc_model.specs.Programs.{Mentions}
use Rattle.fc_model.specs.Stepping.{Program}
use Rattle.fc_model.specs.Terms.{Term, IsSorted}
use Rattle.fc_model.specs.TypingLaws.{AreDeclaredKinded}
use Rattle.fc_model.specs.TypingRules.{HasType}
use Rattle.fc_rows.specs.Changing.{changed}
use Rattle.fc_rows.specs.ChangingCoercions.{as_they_are}
use Rattle.fc_rows.specs.Rewriting.{changed_module, rewritten}
use Rattle.fc_rows.specs.Surroundings.{Surroundings}
use Rattle.fc_row_types.specs.LintKept.{LintsWith}
use Rattle.fc_row_types.specs.TypesKept.{ExpressionRow, Holds, KeepsTypes, SparesAtoms}
use Rattle.fc_meaning.specs.Laws.{SortedProgram}
use Rattle.fc_meaning.proofs.HeldDeclarations.{AreHeld}
use Rattle.fc_meaning.proofs.WrittenExpressions.{AreDeclsWritten, IsWritten}
use Rattle.fc_counted.specs.CountingLaws.{SeesSame}
use Rattle.fc_row_places.specs.NamelessPlaces.{NPlace}
use Rattle.fc_kept_meaning.specs.FairImports.{TellTruth}
use Rattle.fc_kept_meaning.specs.MeaningKept.{HoldsModule, MayBeAsked, OthersKeepOut, with_module}
use Rattle.fc_kept_meaning.specs.OnePlace.{AtOnePlace}
use Rattle.fc_row_meaning.specs.PlacedRows.{Around, RowAs}
use Rattle.fc_row_meaning.specs.SharedRights.{KeepsValues}

-- CHANGES

-- A change at a place by a row that is a function and keeps types and values is a change at one place by the row as a relation.
abbrev pub ChangesArePlaced : Type 0
ChangesArePlaced = (ms : Modules) → AreDeclaredKinded ms → AreHeld ms → (row : ExpressionRow) → SparesAtoms row → KeepsTypes ms row → KeepsValues row → (s : Surroundings) (c : NPlace) → Around ms s c → Holds ms s
    → (p : List ℕ) (e f : NExpr) → changed row as_they_are s p e ≡ Some f → (t : NTy) → HasType ms s.context e t → IsWritten e → AtOnePlace (RowAs ms row) c e f

-- MODULES

-- In each program that holds the one module, and of which its imports tell the right sides, the other shows the same in its place: each closed sorted term over what
-- the module offers and over the names of other modules sees the same observations.
abbrev pub MeansTheSame : List NModule → NModule → NModule → Type 0
MeansTheSame xs m k = (P : Program) → SortedProgram P → TellTruth P xs → HoldsModule P m → OthersKeepOut P m → (t : Term) → IsSorted [] t
    → Mentions (MayBeAsked m) t → SeesSame P (with_module k P) t

-- a row, against what modules declare
abbrev pub RowAgainst : Type 0
RowAgainst = Modules → ExpressionRow

-- what a row makes of a module that lints, at a place of the definition of a word, means the same
abbrev pub RowKeepsMeaning : RowAgainst → Type 0
RowKeepsMeaning row = (xs : List NModule) (w : Word) (p : List ℕ) (m k : NModule) → LintsWith xs m
    → changed_module (row (decls_at (m ∷ xs))) as_they_are xs w p m ≡ Some k → All (λ x. AreDeclsWritten (ndecls_in x)) (m ∷ xs) → AreDeclsWritten (ndecls_in k)
    → MeansTheSame xs m k

-- ROWS

-- what a row of the table makes of a module that lints, at a place of the definition of a word, means the same, if all right sides are written
abbrev pub RowsKeepMeaning : Type 0
RowsKeepMeaning = (r : Row) (xs : List NModule) (w : Word) (p : List ℕ) (m k : NModule) → LintsWith xs m → rewritten xs r w p m ≡ Some k
    → All (λ x. AreDeclsWritten (ndecls_in x)) (m ∷ xs) → MeansTheSame xs m k
