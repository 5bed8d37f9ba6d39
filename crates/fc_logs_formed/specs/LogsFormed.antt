-- The lines of a log that replays can be written.
use Rattle.std.specs.Prelude.{All, List, ◌∷◌}
use Rattle.fc_log.specs.Texts.{IsFormedEntry, IsFormedStep}
use Rattle.fc_log.specs.declared.log.Entry.{Entry}
use Rattle.fc_log.specs.declared.log.Step.{Step}
use Rattle.fc_model.specs.Nameless.{NModule}
use Rattle.fc_formed.specs.FormedTrees.{IsFormedModule}
use Rattle.fc_rows.specs.Replaying.{Replays, Rewrites}
use Rattle.fc_rows.specs.ResultLimits.{IsWithinLimits}

-- a step of a formed module names a definition by a word of its form, and a place by numbers that can be written, as no part within the limits has a number of ten digits
abbrev pub StepsAreFormed : Type 0
StepsAreFormed = (xs : List NModule) (s : Step) (n k : NModule) → IsFormedModule n → IsWithinLimits n → Rewrites xs s n k → IsFormedStep s

-- so are all lines of a log that replays from it, among formed imports
abbrev pub LogsAreFormed : Type 0
LogsAreFormed = (xs : List NModule) (es : List Entry) (n k : NModule) → All IsFormedModule (n ∷ xs) → IsWithinLimits n → Replays xs es n k → All IsFormedEntry es
