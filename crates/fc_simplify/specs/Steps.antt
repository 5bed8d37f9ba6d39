-- The steps that a log tells.
use Rattle.std.specs.Prelude.{ℕ, zero, suc, ◌+◌, List, [], ◌∷◌, ◌++◌, Some, None}
use Rattle.fc_syntax.specs.Tree.{Word}
use Rattle.fc_syntax.specs.declared.fault.Place.TheVariants as place
use Rattle.fc_log.specs.declared.log.Entry.{Entry}
use Rattle.fc_log.specs.declared.log.Entry.TheVariants as entry
use Rattle.fc_log.specs.declared.log.Row.{Row}
use Rattle.fc_log.specs.declared.log.Row.TheVariants as row
use Rattle.fc_log.specs.declared.log.Step.{Step}
use Rattle.fc_row_search.specs.declared.spots.Applying.{Applying}

-- the place that is told: the place of alt-dead is that of the alternative, and alternatives are the parts of a case from the fourth on
abbrev pub path_told : Row → ℕ → List ℕ → List ℕ
path_told row.AltDead i p = (1 ∷ p) ++ (i + 3) ∷ []
path_told r i p = 1 ∷ p

abbrev pub path_of : Applying → List ℕ
path_of a = path_told a.row a.alternative a.place.items

abbrev pub step_of : Word → Applying → Step
step_of w a = record { row = a.row; def = Some w; path = place.Parts (path_of a); answer = None }

abbrev pub dead_step : Step
dead_step = record { row = row.DefDead; def = None; path = place.Nowhere; answer = None }

-- so many lines of one step
abbrev pub lines_of : ℕ → Step → List Entry
lines_of zero s = []
lines_of (suc n) s = entry.Step s ∷ lines_of n s
