-- Modules that are made of those of a set, one after the other, each with the log of what was done to it.
use Rattle.std.specs.Prelude.{◌≡◌, ◌≤◌, ⊤, Bool, List, [], ◌∷◌}
use Rattle.fc_syntax.specs.Tree.{Word}
use Rattle.fc_headers.specs.NamelessHeaders.{form_written_among}
use Rattle.fc_log.specs.Shapes.{IsShaped}
use Rattle.fc_log.specs.Texts.{IsFormedLog}
use Rattle.fc_log.specs.declared.log.Log.{Log}
use Rattle.fc_model.specs.Nameless.{NModule}
use Rattle.fc_phases.specs.Optimising.{Optimises}
use Rattle.fc_reaching.specs.Numbering.{word_of}
use Rattle.fc_row_nodes.specs.Nodes.{module_nodes}
use Rattle.fc_rows.specs.Replaying.{Replays}
use Rattle.fc_rows.specs.Telling.{reached_by_imports, told_module}

-- which right sides of a module later modules are told: truth values, one for each of its definitions
abbrev pub Telling : Type 1
Telling = NModule → List Bool → Type 0

-- any of them
abbrev pub TellsAnything : Telling
TellsAnything n told = ⊤

-- One module is what the log of another leaves of it, among modules as those built before are told, under the written header among modules of these names:
-- the log is formed and of that module, and goes through the phases of a build.
pub record IsReplay (order : List Word) (before : List NModule) (log : Log) (read written : NModule) : Type 0 where
  pub formed : IsFormedLog log
  pub of_module : log.«module» ≡ word_of read
  pub shaped : IsShaped log
  pub left : NModule
  pub replays : Replays (reached_by_imports read before) log.entries read left
  pub headed : written ≡ form_written_among order left

-- Modules are replays one after the other; each stands before those behind it, as it is told. Of those before them the last built comes first.
pub data AreReplays (order : List Word) (Tells : Telling) : List NModule → List Log → List NModule → List NModule → Type 0 where
  no_replays : {before : List NModule} → AreReplays order Tells before [] [] []
  one_replay : {before : List NModule} {l : Log} {n k : NModule} {ls : List Log} {ns ks : List NModule} (told : List Bool) → IsReplay order before l n k → Tells k told
      → AreReplays order Tells (told_module told k ∷ before) ls ns ks → AreReplays order Tells before (l ∷ ls) (n ∷ ns) (k ∷ ks)

-- No shrinking and no commuting row applies to what stands where a simplify phase of one of these logs ends.
abbrev pub AreOptimised : {order : List Word} {Tells : Telling} {before : List NModule} {ls : List Log} {ns ks : List NModule} → AreReplays order Tells before ls ns ks → Type 0
AreOptimised no_replays = ⊤
AreOptimised (one_replay {before = before} {l = l} {n = n} told is tells rest) = Optimises (reached_by_imports n before) l.entries n is.left × AreOptimised rest

-- Each of the second modules has at most as many nodes as the first in its place, which are those of its definitions.
abbrev pub NoneIsLarger : List NModule → List NModule → Type 0
NoneIsLarger [] ks = ⊤
NoneIsLarger (n ∷ ns) [] = ⊤
NoneIsLarger (n ∷ ns) (k ∷ ks) = (module_nodes k ≤ module_nodes n) × NoneIsLarger ns ks
