-- Steps on the first of some modules.
use Rattle.std.specs.Prelude.{◌≡◌, ⊤, ℕ, Bool, true, false, List, [], ◌∷◌, Option, Some, None}
use Rattle.fc_syntax.specs.Tree.{Word}
use Rattle.fc_syntax.specs.declared.fault.Place.{Place}
use Rattle.fc_syntax.specs.declared.fault.Place.TheVariants as place
use Rattle.fc_log.specs.declared.log.Answer.{Answer}
use Rattle.fc_log.specs.declared.log.Row.{Row}
use Rattle.fc_log.specs.declared.log.Row.TheVariants as row
use Rattle.fc_log.specs.declared.log.Step.{Step}
use Rattle.fc_model.specs.Calling.{from_some}
use Rattle.fc_model.specs.Kinding.{decls_at}
use Rattle.fc_model.specs.Nameless.{NModule}
use Rattle.fc_rows.specs.Changing.{made}
use Rattle.fc_rows.specs.ChangingCoercions.{as_they_are}
use Rattle.fc_rows.specs.Dropping.{DropsDead}
use Rattle.fc_rows.specs.Replaying.{Rewrites}
use Rattle.fc_rows.specs.ResultLimits.{IsWithinLimits}
use Rattle.fc_rows.specs.Rewriting.{alternative_number, changed_module, last_part, looked_at}
use Rattle.fc_row_at_place.specs.Rows.{built_row, is_built}

-- ROWS

-- the rows whose steps are run: those that are built at a place, and def-dead
abbrev pub is_run : Row → Bool
is_run row.DefDead = true
is_run r = is_built r

-- WHAT A STEP NAMES

abbrev placed_by : Option Word → Place → Option Answer → Option (Word × List ℕ)
placed_by (Some w) (place.Parts p) None = Some (w, p)
placed_by w p a = None

-- the definition and the place that a step names, where it is one of a row at a place
abbrev pub placed : Step → Option (Word × List ℕ)
placed s = placed_by s.def s.path s.answer

abbrev of_the_module_by : Option Word → Place → Option Answer → Row → Bool
of_the_module_by None place.Nowhere None row.DefDead = true
of_the_module_by w p a r = false

-- whether a step is the def-dead of a module as a whole: it names no definition, no place and no answer
abbrev pub is_of_the_module : Step → Bool
is_of_the_module s = of_the_module_by s.def s.path s.answer s.row

-- the place of the case around an alternative, and the number of the alternative
abbrev pub case_around : List ℕ → Option (List ℕ × ℕ)
case_around p = from_some (λ q. made (λ i. (q.0, i)) (alternative_number q.1)) (last_part p)

-- WHAT A STEP MAKES

-- what a row that is built makes of a module at a place of the definition of a word, among the modules of its imports, where that may be within the limits
abbrev pub built_at : List NModule → Row → Word → List ℕ → NModule → Option NModule
built_at xs r w p n = from_some (λ q. changed_module (built_row (decls_at (n ∷ xs)) r q.1) as_they_are xs w q.0 n) (looked_at r p)

-- what the row of a step makes of the first module, among the others, which stay; within the limits or not
abbrev pub Makes : Step → List NModule → List NModule → Type 0
Makes s [] after = ⊥
Makes s (n ∷ xs) [] = ⊥
Makes s (n ∷ xs) (k ∷ ys) = (ys ≡ xs) × ((is_built s.row ≡ true) × ((w : Word) × ((p : List ℕ) × ((placed s ≡ Some (w, p)) × (built_at xs s.row w p n ≡ Some k)))))

-- the first module is within the limits on what is made
abbrev pub FirstFits : List NModule → Type 0
FirstFits [] = ⊤
FirstFits (n ∷ xs) = IsWithinLimits n

-- all definitions of the first module go that are not needed, and there is one at least; the others stay
abbrev pub FirstDrops : List NModule → List NModule → Type 0
FirstDrops [] after = ⊥
FirstDrops (n ∷ xs) [] = ⊥
FirstDrops (n ∷ xs) (k ∷ ys) = (ys ≡ xs) × DropsDead n k

-- a step makes the first module another, among the others, which stay
abbrev pub Takes : Step → List NModule → List NModule → Type 0
Takes s [] after = ⊥
Takes s (n ∷ xs) [] = ⊥
Takes s (n ∷ xs) (k ∷ ys) = (ys ≡ xs) × Rewrites xs s n k
