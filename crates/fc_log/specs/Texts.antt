-- What the bytes of a log spell, the first fault of those that spell none, and the text of a log.
use Rattle.std.specs.Prelude.{◌≡◌, ◌<◌, ⊤, All, ℕ, ◌+◌, ◌-◌, ◌^◌, Bool, true, false, ◌&&◌, ◌||◌, ◌==◌, nat_le, if◌then◌else◌, List, [], ◌∷◌, ◌++◌, codes, drop, length, map, Option, Some, None, FitsSigned}
use Rattle.std.specs.Fmt.{decimal, signed_decimal}
use mir.Syntax.{w64}
use Rattle.fc_syntax.specs.Tokens.{ByteFault, is_lower_name, is_module_name}
use Rattle.fc_syntax.specs.Tree.{Word}
use Rattle.fc_syntax.specs.declared.fault.FaultKind.{FaultKind}
use Rattle.fc_syntax.specs.declared.fault.FaultKind.TheVariants as fault
use Rattle.fc_syntax.specs.declared.fault.Place.{Place}
use Rattle.fc_syntax.specs.declared.fault.Place.TheVariants as place
use Rattle.fc_syntax.specs.declared.fault.Refusal.{Refusal}
use Rattle.fc_syntax.specs.declared.fault.Refusal.TheVariants as refusal
use Rattle.fc_log.specs.Grammar.{LogToken, AWord, ALineEnd, Stand, AtStart, BehindPath, Got, Stuck, is_def_dead, is_fold, is_written_literal, reads}
use Rattle.fc_log.specs.Names.{phase_text, row_text}
use Rattle.fc_log.specs.declared.log.Answer.{Answer}
use Rattle.fc_log.specs.declared.log.Answer.TheVariants as answer
use Rattle.fc_log.specs.declared.log.Entry.{Entry}
use Rattle.fc_log.specs.declared.log.Entry.TheVariants as entry
use Rattle.fc_log.specs.declared.log.Log.{Log}
use Rattle.fc_log.specs.declared.log.Row.{Row}
use Rattle.fc_log.specs.declared.log.Row.TheVariants as row
use Rattle.fc_log.specs.declared.log.Step.{Step}

-- TOKENS

-- a token, and the byte at which it begins: of the end of a line, its line feed
pub record Cut : Type 0 where
  pub at : ℕ
  pub token : LogToken

-- The tokens of bytes, of which a word has begun at a byte and has these bytes so far. A space ends a word and begins the next, a line feed ends a word
-- and the line. Behind a line feed a word begins only where there are more bytes.
abbrev pub cut_on : (fresh : Bool) (begun at : ℕ) (so_far : List ℕ) → List ℕ → List Cut
cut_on true begun at w [] = []
cut_on false begun at w [] = record { at = begun; token = AWord w } ∷ []
cut_on fresh begun at w (b ∷ bs) =
    if b == 32 then record { at = begun; token = AWord w } ∷ cut_on false (at + 1) (at + 1) [] bs else
    if b == 10 then record { at = begun; token = AWord w } ∷ record { at = at; token = ALineEnd } ∷ cut_on true (at + 1) (at + 1) [] bs else
    cut_on false begun (at + 1) (w ++ b ∷ []) bs

abbrev pub cuts_of : List ℕ → List Cut
cuts_of bytes = cut_on true 0 0 [] bytes

abbrev pub log_tokens_of : List ℕ → List LogToken
log_tokens_of bytes = map (λ c. c.token) (cuts_of bytes)

-- WHAT BYTES SPELL

-- the bytes are a text of the log
abbrev pub SpellsLog : List ℕ → Log → Type 0
SpellsLog bytes l = reads AtStart (log_tokens_of bytes) ≡ Got l

-- THE FIRST FAULT

-- a byte from 0x20 to 0x7E, or a line feed
abbrev pub is_log_byte : ℕ → Bool
is_log_byte b = (nat_le 32 b && nat_le b 126) || b == 10

-- the first byte that is none of these, counted from a byte on
abbrev pub bad_byte_from : ℕ → List ℕ → Option ℕ
bad_byte_from at [] = None
bad_byte_from at (b ∷ bs) = if is_log_byte b then bad_byte_from (at + 1) bs else Some at

-- where the answer of a fold stands next, a literal in shape that is out of range is a fault of its own
abbrev pub answer_kind : List LogToken → FaultKind
answer_kind [] = fault.BadForm
answer_kind (AWord w ∷ ts) = if is_written_literal w then fault.LiteralRange else fault.BadForm
answer_kind (ALineEnd ∷ ts) = fault.BadForm

-- what is wrong with the first token that cannot stand where it stands
abbrev pub stuck_kind : Stand → List LogToken → FaultKind
stuck_kind (BehindPath m es d p) ts = answer_kind ts
stuck_kind s ts = fault.BadForm

-- the byte of the first of these, or the length of the bytes where there is none
abbrev pub byte_of : List ℕ → List Cut → ℕ
byte_of bytes [] = length bytes
byte_of bytes (c ∷ cs) = c.at

-- the tokens from where reading stopped on: the last so many
abbrev pub stuck_at : ℕ → List Cut → List Cut
stuck_at left cs = drop (length cs - left) cs

-- The first fault of bytes: a byte that may not stand in a log; else the first token that cannot stand where it stands, or the length of the bytes.
pub data FirstLogFault (bytes : List ℕ) : ByteFault → Type 0 where
  of_byte : {at : ℕ} → bad_byte_from 0 bytes ≡ Some at → FirstLogFault bytes (record { kind = fault.BadByte; at = at })
  of_form : (s : Stand) (left : ℕ) → bad_byte_from 0 bytes ≡ None → reads AtStart (log_tokens_of bytes) ≡ Stuck s left
      → FirstLogFault bytes (record { kind = stuck_kind s (map (λ c. c.token) (stuck_at left (cuts_of bytes))); at = byte_of bytes (stuck_at left (cuts_of bytes)) })

-- no fault of its own: the refusal names the file, no declaration and the byte
abbrev pub IsLogRefusal : List ℕ → List ℕ → Refusal → Type 0
IsLogRefusal file bytes refusal.Memory = ⊤
IsLogRefusal file bytes (refusal.Fault f) = (e : ByteFault) × FirstLogFault bytes e × (f.kind ≡ e.kind) × (f.«module» ≡ file) × (f.def ≡ None) × (f.path ≡ place.Byte e.at)

-- THE TEXT OF A LOG

-- the words of a line
abbrev pub line_text : List (List ℕ) → List ℕ
line_text [] = 10 ∷ []
line_text (w ∷ []) = w ++ 10 ∷ []
line_text (w ∷ v ∷ ws) = w ++ 32 ∷ line_text (v ∷ ws)

abbrev pub path_text : List ℕ → List ℕ
path_text [] = []
path_text (n ∷ []) = decimal n
path_text (n ∷ m ∷ ns) = decimal n ++ 46 ∷ path_text (m ∷ ns)

abbrev pub def_text : Option Word → List ℕ
def_text (Some w) = w
def_text None = codes "-"

abbrev pub place_text : Place → List ℕ
place_text (place.Parts ns) = path_text ns
place_text p = codes "-"

abbrev pub answer_words : Option Answer → List (List ℕ)
answer_words None = []
answer_words (Some (answer.Literal n)) = (signed_decimal n ++ 35 ∷ []) ∷ []
answer_words (Some answer.First) = codes "first" ∷ []
answer_words (Some answer.Second) = codes "second" ∷ []

abbrev pub entry_words : Entry → List (List ℕ)
entry_words (entry.Mark p) = codes "mark" ∷ phase_text p ∷ []
entry_words (entry.Step s) = codes "step" ∷ row_text s.row ∷ def_text s.def ∷ place_text s.path ∷ answer_words s.answer

abbrev pub entries_text : List Entry → List ℕ
entries_text [] = []
entries_text (e ∷ es) = line_text (entry_words e) ++ entries_text es

abbrev pub log_text : Log → List ℕ
log_text l = line_text (codes "log" ∷ codes "1" ∷ l.«module» ∷ []) ++ entries_text l.entries

-- FORMED LOGS

-- one part number at least, each of at most nine digits
pub record IsPath (ns : List ℕ) : Type 0 where
  pub some_part : 0 < length ns
  pub each : All (λ n. n < 10 ^ 9) ns

-- a literal fits 64 bits
abbrev pub IsAnswer : Answer → Type 0
IsAnswer (answer.Literal n) = FitsSigned w64 n
IsAnswer a = ⊤

-- a step of def-dead stands nowhere, every other at a place of a definition; exactly the steps of fold have an answer
pub data IsFormedStep : Step → Type 0 where
  of_module : IsFormedStep (record { row = row.DefDead; def = None; path = place.Nowhere; answer = None })
  of_fold : (w : Word) (ns : List ℕ) (a : Answer) → is_lower_name w ≡ true → IsPath ns → IsAnswer a → IsFormedStep (record { row = row.Fold; def = Some w; path = place.Parts ns; answer = Some a })
  of_part : (r : Row) (w : Word) (ns : List ℕ) → is_def_dead r ≡ false → is_fold r ≡ false → is_lower_name w ≡ true → IsPath ns
      → IsFormedStep (record { row = r; def = Some w; path = place.Parts ns; answer = None })

abbrev pub IsFormedEntry : Entry → Type 0
IsFormedEntry (entry.Mark p) = ⊤
IsFormedEntry (entry.Step s) = IsFormedStep s

pub record IsFormedLog (l : Log) : Type 0 where
  pub named : is_module_name l.«module» ≡ true
  pub entries : All IsFormedEntry l.entries
