-- What a reader answers, and what it says where it stops.
use Rattle.std.specs.Prelude.{◌≡◌, ⊤, ℕ, Bool, true, false, if◌then◌else◌, List, [], ◌∷◌, map, Option, Some, None}
use Rattle.std.specs.Str.{bytes_eq}
use denote.Ref.{Bor}
use Rattle.fc_syntax.specs.Tree.{Word}
use Rattle.fc_syntax.specs.declared.fault.Place.{Place}
use Rattle.fc_syntax.specs.declared.fault.Place.TheVariants as place
use Rattle.fc_log.specs.declared.log.Entry.{Entry}
use Rattle.fc_log.specs.declared.log.Row.{Row}
use Rattle.fc_log.specs.declared.reading.Line.{Line}
use Rattle.fc_log.specs.declared.reading.Line.TheVariants as line
use Rattle.fc_log.specs.declared.tokens.Stop.{Stop}
use Rattle.fc_log.specs.declared.tokens.Stop.TheVariants as stop
use Rattle.fc_log.specs.declared.tokens.Tokens.{Tokens}
use Rattle.fc_log.specs.Grammar.{LogToken, AWord, ALineEnd, Stand, BehindMark, BehindStep, BehindPath, BehindEntry, Outcome, Got, Stuck, is_fold, is_path, path_of, reads, step_at}
use Rattle.fc_log.specs.Seen.{seen_all}
use Rattle.fc_log.specs.Texts.{Cut}

-- the tokens of cuts
abbrev pub tokens_in : List Cut → List LogToken
tokens_in cs = map (λ c. c.token) cs

-- the tokens that are still to be read
abbrev pub ahead : Tokens → List LogToken
ahead t = tokens_in (seen_all t.rest.now)

-- no word comes first
abbrev pub NoWord : List LogToken → Type 0
NoWord [] = ⊤
NoWord (AWord w ∷ ts) = ⊥
NoWord (ALineEnd ∷ ts) = ⊤

-- no line ends next
abbrev pub NoLineEnd : List LogToken → Type 0
NoLineEnd [] = ⊤
NoLineEnd (AWord w ∷ ts) = ⊤
NoLineEnd (ALineEnd ∷ ts) = ⊥

-- another word than this one comes first, or none
abbrev pub Other : List ℕ → List LogToken → Type 0
Other word [] = ⊤
Other word (AWord w ∷ ts) = bytes_eq w word ≡ false
Other word (ALineEnd ∷ ts) = ⊤

-- the answer of a fold stands next
abbrev pub wants_answer : Stand → Bool
wants_answer (BehindPath m es d p) = true
wants_answer s = false

abbrev pub stop_of : Outcome → Option Stop
stop_of (Got l) = None
stop_of (Stuck s left) = Some (if wants_answer s then stop.Answer left else stop.Form left)

-- what is told is where reading stopped; out of memory tells nothing
abbrev pub Tells : Outcome → Stop → Type 0
Tells o stop.Memory = ⊤
Tells o (stop.Form left) = stop_of o ≡ Some (stop.Form left)
Tells o (stop.Answer left) = stop_of o ≡ Some (stop.Answer left)

abbrev pub StopsAt : Stand → List LogToken → Stop → Type 0
StopsAt s ts e = Tells (reads s ts) e

-- a place that was read, and what is read behind it
abbrev pub place_read : Option (List ℕ) → Place
place_read None = place.Nowhere
place_read (Some w) = place.Parts (path_of w)

-- the word of a place is a path
abbrev pub IsPathRead : Option (Bor (List ℕ)) → Type 0
IsPathRead None = ⊤
IsPathRead (Some w) = is_path w.now ≡ true

unfoldable pub behind_place : Word → List Entry → Row → Option Word → Place → Stand
behind_place m es r d p = if is_fold r then BehindPath m es d p else BehindEntry m es (step_at r d p None)

-- behind the first word of a line
abbrev pub in_line : Word → List Entry → Line → Stand
in_line m es line.Mark = BehindMark m es
in_line m es line.Step = BehindStep m es
