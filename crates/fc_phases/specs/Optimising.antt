-- What the phases of a build make of a module, among modules as the interfaces of its imports tell them.
use Rattle.std.specs.Prelude.{◌≡◌, List, [], ◌∷◌}
use Rattle.fc_log.specs.declared.log.Entry.{Entry}
use Rattle.fc_log.specs.declared.log.Entry.TheVariants as entry
use Rattle.fc_log.specs.declared.log.Phase.{Phase}
use Rattle.fc_log.specs.declared.log.Phase.TheVariants as phase
use Rattle.fc_log.specs.declared.log.Step.{Step}
use Rattle.fc_model.specs.Nameless.{NModule}
use Rattle.fc_rows.specs.NormalForms.{IsQuiet}
use Rattle.fc_rows.specs.Replaying.{Replays, Rewrites}

-- what the steps of a log make of a module, one after the other; where a simplify phase ends, no shrinking and no commuting row applies any more
pub data Optimises (xs : List NModule) : List Entry → NModule → NModule → Type 0 where
  all_done : {n : NModule} → Optimises xs [] n n
  ends_phase : {es : List Entry} {n k : NModule} (p : Phase) → (p ≡ phase.Simplify → IsQuiet xs n) → Optimises xs es n k → Optimises xs (entry.Mark p ∷ es) n k
  takes_step : {es : List Entry} {n m k : NModule} (s : Step) → Rewrites xs s n m → Optimises xs es m k → Optimises xs (entry.Step s ∷ es) n k

-- THE LAW: the log replays what was made

abbrev pub OptimisedAreReplayed : Type 0
OptimisedAreReplayed = (xs : List NModule) (es : List Entry) (n k : NModule) → Optimises xs es n k → Replays xs es n k
