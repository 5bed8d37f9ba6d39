-- What the steps of a log make of a module, among modules as the interfaces of its imports tell them.
use Rattle.std.specs.Prelude.{◌≡◌, ℕ, List, [], ◌∷◌, Some, None}
use Rattle.fc_syntax.specs.Tree.{Word}
use Rattle.fc_syntax.specs.declared.fault.Place.TheVariants as place
use Rattle.fc_log.specs.declared.log.Entry.{Entry}
use Rattle.fc_log.specs.declared.log.Entry.TheVariants as entry
use Rattle.fc_log.specs.declared.log.Phase.{Phase}
use Rattle.fc_log.specs.declared.log.Row.{Row}
use Rattle.fc_log.specs.declared.log.Row.TheVariants as row
use Rattle.fc_log.specs.declared.log.Step.{Step}
use Rattle.fc_model.specs.Nameless.{NModule}
use Rattle.fc_rows.specs.Dropping.{DropsDead}
use Rattle.fc_rows.specs.ResultLimits.{IsWithinLimits}
use Rattle.fc_rows.specs.Rewriting.{rewritten}

-- A step makes one module of another, by its row at its place of a definition, or of the module as a whole. A result beyond the limits is none. Of a row
-- that is not defined yet there is no step.
pub data Rewrites (xs : List NModule) : Step → NModule → NModule → Type 0 where
  at_a_place : {n k : NModule} (r : Row) (w : Word) (p : List ℕ) → rewritten xs r w p n ≡ Some k → IsWithinLimits k
      → Rewrites xs (record { row = r; def = Some w; path = place.Parts p; answer = None }) n k
  of_the_module : {n k : NModule} → DropsDead n k → Rewrites xs (record { row = row.DefDead; def = None; path = place.Nowhere; answer = None }) n k

-- what is left of a module after the steps of a log, one after the other; marks change nothing
pub data Replays (xs : List NModule) : List Entry → NModule → NModule → Type 0 where
  at_end : {m : NModule} → Replays xs [] m m
  past_mark : {es : List Entry} {m n : NModule} (p : Phase) → Replays xs es m n → Replays xs (entry.Mark p ∷ es) m n
  past_step : {es : List Entry} {m k n : NModule} (s : Step) → Rewrites xs s m k → Replays xs es k n → Replays xs (entry.Step s ∷ es) m n
