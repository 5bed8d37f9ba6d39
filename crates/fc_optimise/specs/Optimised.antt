-- What the phases of a build make of the first of some modules.
use Rattle.std.specs.Prelude.{◌≡◌, List, [], ◌∷◌}
use Rattle.fc_log.specs.Shapes.{GoesThrough, phases_of_build}
use Rattle.fc_log.specs.declared.log.Entry.{Entry}
use Rattle.fc_log.specs.declared.log.Phase.{Phase}
use Rattle.fc_model.specs.Nameless.{NModule}
use Rattle.fc_phases.specs.Optimising.{Optimises}

-- the first module became another, and the others stayed: these entries, which go through these phases, are what was done to it
abbrev pub FirstIsMadeBy : List Phase → List Entry → List NModule → List NModule → Type 0
FirstIsMadeBy ps es [] after = (after ≡ []) × GoesThrough ps es
FirstIsMadeBy ps es (n ∷ xs) [] = ⊥
FirstIsMadeBy ps es (n ∷ xs) (k ∷ ys) = (ys ≡ xs) × (GoesThrough ps es × Optimises xs es n k)

-- A module went through all phases of a build, and these entries are what was done to it.
abbrev pub IsOptimised : List NModule → List Entry → NModule → NModule → Type 0
IsOptimised xs es n k = GoesThrough phases_of_build es × Optimises xs es n k

-- so did the first module, and the others stayed
abbrev pub FirstIsOptimised : List Entry → List NModule → List NModule → Type 0
FirstIsOptimised = FirstIsMadeBy phases_of_build
