-- One phase on the first of some modules.
use Rattle.std.specs.Prelude.{◌≡◌, List, [], ◌∷◌, ◌++◌}
use Rattle.fc_log.specs.declared.log.Entry.{Entry}
use Rattle.fc_log.specs.declared.log.Phase.{Phase}
use Rattle.fc_model.specs.Nameless.{NModule}
use Rattle.fc_optimise.specs.Optimised.{FirstIsMadeBy}

-- the log got these entries, which are what the phase did to the first module
pub record RunsPhase (p : Phase) (before after : List NModule) (old new : List Entry) : Type 0 where
  pub entries : List Entry
  pub more : new ≡ old ++ entries
  pub made : FirstIsMadeBy (p ∷ []) entries before after
