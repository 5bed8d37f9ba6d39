-- What simplifying does to the first of some modules, and to its log.
use Rattle.std.specs.Prelude.{◌≡◌, ◌↔◌, ⊤, ◌+◌, ℕ, Bool, true, List, [], ◌∷◌, ◌++◌, Some, slice_get}
use Rattle.fc_syntax.specs.Limits.{standard_limits}
use Rattle.fc_syntax.specs.Tree.{Word}
use Rattle.fc_log.specs.Shapes.{phase_of_row}
use Rattle.fc_log.specs.declared.log.Entry.{Entry}
use Rattle.fc_log.specs.declared.log.Entry.TheVariants as entry
use Rattle.fc_log.specs.declared.log.Phase.TheVariants as phase
use Rattle.fc_log.specs.declared.log.Step.{Step}
use Rattle.fc_model.specs.Kinding.{decls_at}
use Rattle.fc_model.specs.Nameless.{NDecl, NExpr, NModule}
use Rattle.fc_reaching.specs.Numbering.{number_in}
use Rattle.fc_reaching.specs.Reaching.{decls_in}
use Rattle.fc_outlines.specs.Headers.{SameHeaders}
use Rattle.fc_definition_places.specs.Places.{place_in}
use Rattle.fc_rows.specs.NormalForms.{IsQuiet}
use Rattle.fc_rows.specs.Replaying.{Rewrites}
use Rattle.fc_rows.specs.ResultLimits.{IsWithinLimits}
use Rattle.fc_rows.specs.Surroundings.{outside}
use Rattle.fc_limits_at_places.specs.Fitting.{nmodule_size}
use Rattle.fc_search_laws.specs.Searching.{Quiet, searched}
use Rattle.fc_apply.specs.Definitions.{right_side}

-- THE LOG

-- the lines of a log are steps of rows that the phase takes, which make one module of another, one after the other
pub data Simplifies (xs : List NModule) : List Entry → NModule → NModule → Type 0 where
  no_step : {n : NModule} → Simplifies xs [] n n
  takes_step : {es : List Entry} {m n k : NModule} (s : Step) → phase_of_row s.row ≡ phase.Simplify → Rewrites xs s n m → Simplifies xs es m k → Simplifies xs (entry.Step s ∷ es) n k

-- the first module became another, the others stayed, and the lines that the log got are the steps from the one to the other
abbrev pub Continues : List NModule → List NModule → List Entry → List Entry → Type 0
Continues [] after es fs = (after ≡ []) × (fs ≡ es)
Continues (n ∷ xs) [] es fs = ⊥
Continues (n ∷ xs) (k ∷ ys) es fs = (ys ≡ xs) × ((gs : List Entry) × ((fs ≡ es ++ gs) × Simplifies xs gs n k))

-- no shrinking and no commuting row applies in the first module
abbrev pub FirstIsQuiet : List NModule → Type 0
FirstIsQuiet [] = ⊤
FirstIsQuiet (n ∷ xs) = IsQuiet xs n

-- LIMITS

-- a module is within the limits, and may grow by so many pieces
pub record HasSpare (spare : ℕ) (n : NModule) : Type 0 where
  pub within : IsWithinLimits n
  pub sum : spare + nmodule_size n ≡ standard_limits.result_size

abbrev pub FirstHasSpare : ℕ → List NModule → Type 0
FirstHasSpare spare [] = ⊤
FirstHasSpare spare (n ∷ xs) = HasSpare spare n

-- how deep a right side may be, which is a part of its definition
abbrev pub room : ℕ
room = 499

-- DEFINITIONS

-- words are defined first where they were
abbrev pub KeepsWords : List NModule → List NModule → Type 0
KeepsWords [] after = after ≡ []
KeepsWords (n ∷ xs) [] = ⊥
KeepsWords (n ∷ xs) (k ∷ ys) = (w : Word) → number_in k w ≡ number_in n w

-- and the same is declared, but for right sides, and each word is defined where it was
pub record KeepsHeaders (before after : List NModule) : Type 0 where
  pub words : KeepsWords before after
  pub headers : SameHeaders (decls_at before) (decls_at after)
  pub places : (m w : Word) → place_in after m w ≡ place_in before m w

-- the declaration of a number is the first definition of its word
abbrev pub FirstDefines : ℕ → List NModule → Type 0
FirstDefines i [] = ⊥
FirstDefines i (n ∷ xs) = (w : Word) × (number_in n w ≡ Some i)

-- no row applies in the right side of the declaration of a number, where the module may grow by so much
abbrev pub IsSettled : ℕ → ℕ → List NModule → Type 0
IsSettled spare i [] = ⊤
IsSettled spare i (n ∷ xs) =
    (d : NDecl) (e : NExpr) → slice_get (decls_in n) i ≡ Some d → right_side d ≡ Some e → searched (decls_at (n ∷ xs)) spare room [] (outside (decls_at (n ∷ xs))) e ≡ Some Quiet

-- the marks tell of each declaration of the first module whether it is the first definition of its word
abbrev pub FirstsAre : List Bool → List NModule → Type 0
FirstsAre marks ms = (i : ℕ) → slice_get marks i ≡ Some true ↔ FirstDefines i ms

-- no row applies in the declarations that are marked
abbrev pub AreSettled : ℕ → List Bool → List NModule → Type 0
AreSettled spare marks ms = (i : ℕ) → slice_get marks i ≡ Some true → IsSettled spare i ms

-- no row applies in any definition that is the first of its word
pub record AllSettled (ms : List NModule) : Type 0 where
  pub spare : ℕ
  pub has : FirstHasSpare spare ms
  pub settled : (i : ℕ) → FirstDefines i ms → IsSettled spare i ms
