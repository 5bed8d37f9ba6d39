-- The phases of a build, and the logs that go through them.
use Rattle.std.specs.Prelude.{List, [], ◌∷◌}
use Rattle.fc_log.specs.declared.log.Entry.{Entry}
use Rattle.fc_log.specs.declared.log.Entry.TheVariants as entry
use Rattle.fc_log.specs.declared.log.Log.{Log}
use Rattle.fc_log.specs.declared.log.Phase.{Phase}
use Rattle.fc_log.specs.declared.log.Phase.TheVariants as phase
use Rattle.fc_log.specs.declared.log.Row.{Row}
use Rattle.fc_log.specs.declared.log.Row.TheVariants as row
use Rattle.fc_log.specs.declared.log.Step.{Step}

-- what a build does to a module, in this order
abbrev pub phases_of_build : List Phase
phases_of_build =
    phase.Simplify ∷ phase.Special ∷ phase.Simplify ∷ phase.FloatOut ∷ phase.Simplify ∷ phase.FloatIn ∷ phase.Strict ∷ phase.Split ∷ phase.Simplify ∷ []

-- the phase that takes steps of a row
abbrev pub phase_of_row : Row → Phase
phase_of_row row.Special = phase.Special
phase_of_row row.FloatOut = phase.FloatOut
phase_of_row row.FloatIn = phase.FloatIn
phase_of_row row.StrictLet = phase.Strict
phase_of_row row.Split = phase.Split
phase_of_row r = phase.Simplify

-- entries go through phases, one after the other: each step is of a row that the phase takes, and a mark ends it
pub data GoesThrough : List Phase → List Entry → Type 0 where
  all_ended : GoesThrough [] []
  takes_step : {ps : List Phase} {es : List Entry} (s : Step) → GoesThrough (phase_of_row s.row ∷ ps) es → GoesThrough (phase_of_row s.row ∷ ps) (entry.Step s ∷ es)
  ends_phase : {ps : List Phase} {es : List Entry} (p : Phase) → GoesThrough ps es → GoesThrough (p ∷ ps) (entry.Mark p ∷ es)

abbrev pub IsShaped : Log → Type 0
IsShaped l = GoesThrough phases_of_build l.entries
