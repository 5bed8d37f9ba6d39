-- What holds of every log and of every text of one.
use Rattle.std.specs.Prelude.{◌≡◌, ℕ, List}
use Rattle.fc_log.specs.declared.log.Log.{Log}
use Rattle.fc_log.specs.Grammar.{LogToken, Stand, Got, reads}
use Rattle.fc_syntax.specs.Tokens.{ByteFault}
use Rattle.fc_log.specs.Texts.{FirstLogFault, IsFormedLog, SpellsLog, log_text}

-- the text of a formed log spells that log
abbrev pub ReadsBack : Type 0
ReadsBack = (l : Log) → IsFormedLog l → SpellsLog (log_text l) l

-- what a text spells is formed
abbrev pub SpellsFormed : Type 0
SpellsFormed = (bytes : List ℕ) (l : Log) → SpellsLog bytes l → IsFormedLog l

-- a log that is read up to anywhere can be completed, so that the first token that cannot stand where it stands is the fault
abbrev pub GoesOn : Type 0
GoesOn = (s : Stand) → (ts : List LogToken) × ((l : Log) × (reads s ts ≡ Got l))

-- a text that spells a log has no fault
abbrev pub NoFault : Type 0
NoFault = (bytes : List ℕ) (l : Log) (e : ByteFault) → SpellsLog bytes l → FirstLogFault bytes e → ⊥

-- a text has at most one first fault
abbrev pub OneFirstFault : Type 0
OneFirstFault = (bytes : List ℕ) (e f : ByteFault) → FirstLogFault bytes e → FirstLogFault bytes f → e ≡ f
