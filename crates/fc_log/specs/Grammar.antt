-- The grammar of a log as a table: what may stand next, and what is read then. A log is lines of words; the words of a line are parted by
-- one space, and a line feed ends each line.
use Rattle.std.specs.Prelude.{ℕ, suc, Bool, true, false, not, ◌&&◌, ◌==◌, if◌then◌else◌, List, [], ◌∷◌, ◌++◌, length, map, codes, Option, Some, None, option_map}
use Rattle.std.specs.List.{list_all, slice_split}
use Rattle.std.specs.Str.{bytes_eq}
use Rattle.std.specs.Str.Parse.{digits_value}
use Rattle.fc_syntax.specs.Tree.{Word}
use Rattle.fc_syntax.specs.Tokens.{is_dot, is_in_range, is_literal, is_lower_name, is_module_name, is_number, literal_value, without_hash, without_minus}
use Rattle.fc_syntax.specs.declared.fault.Place.{Place}
use Rattle.fc_syntax.specs.declared.fault.Place.TheVariants as place
use Rattle.fc_log.specs.Names.{phase_of, row_of}
use Rattle.fc_log.specs.declared.log.Answer.{Answer}
use Rattle.fc_log.specs.declared.log.Answer.TheVariants as answer
use Rattle.fc_log.specs.declared.log.Entry.{Entry}
use Rattle.fc_log.specs.declared.log.Entry.TheVariants as entry
use Rattle.fc_log.specs.declared.log.Log.{Log}
use Rattle.fc_log.specs.declared.log.Row.{Row}
use Rattle.fc_log.specs.declared.log.Row.TheVariants as row

-- a word, or the end of a line
pub data LogToken : Type 0 where
  AWord : (w : List ℕ) → LogToken
  ALineEnd : LogToken

-- NUMBERS

-- decimal digits without leading zeros
abbrev pub no_leading_zero : List ℕ → Bool
no_leading_zero [] = true
no_leading_zero (b ∷ []) = true
no_leading_zero (b ∷ c ∷ bs) = not (b == 48)

-- a part number: one to nine digits without leading zeros
abbrev pub is_part_number : List ℕ → Bool
is_part_number w = is_number w && no_leading_zero w

abbrev pub is_path : List ℕ → Bool
is_path w = list_all is_part_number (slice_split is_dot w)

abbrev pub path_of : List ℕ → List ℕ
path_of w = map (digits_value 10) (slice_split is_dot w)

-- a literal without leading zeros, which is not `-0#`
abbrev pub is_written_literal : List ℕ → Bool
is_written_literal w = is_literal w && (no_leading_zero (without_minus (without_hash w)) && not (bytes_eq w (codes "-0#")))

-- WHAT A WORD IS WHERE IT STANDS

abbrev pub is_def_dead : Row → Bool
is_def_dead row.DefDead = true
is_def_dead r = false

abbrev pub is_fold : Row → Bool
is_fold row.Fold = true
is_fold r = false

-- the definition of a step, which def-dead has none of
abbrev pub def_of : Row → List ℕ → Option (Option Word)
def_of r w = if is_def_dead r then (if bytes_eq w (codes "-") then Some None else None) else (if is_lower_name w then Some (Some w) else None)

abbrev pub place_of : Row → List ℕ → Option Place
place_of r w = if is_def_dead r then (if bytes_eq w (codes "-") then Some place.Nowhere else None) else (if is_path w then Some (place.Parts (path_of w)) else None)

abbrev pub answer_of : List ℕ → Option Answer
answer_of w =
    if bytes_eq w (codes "first") then Some answer.First else
    if bytes_eq w (codes "second") then Some answer.Second else
    if is_written_literal w && is_in_range w then Some (answer.Literal (literal_value w)) else None

-- THE TABLE

-- where a log is read up to
pub data Stand : Type 0 where
  AtStart : Stand
  BehindLog : Stand
  BehindOne : Stand
  BehindModule : (m : Word) → Stand
  -- a line begins, or the log ends
  AtLine : (m : Word) (before : List Entry) → Stand
  BehindMark : (m : Word) (before : List Entry) → Stand
  BehindStep : (m : Word) (before : List Entry) → Stand
  BehindRow : (m : Word) (before : List Entry) (r : Row) → Stand
  BehindDef : (m : Word) (before : List Entry) (r : Row) (d : Option Word) → Stand
  -- the answer of a fold stands next
  BehindPath : (m : Word) (before : List Entry) (d : Option Word) (p : Place) → Stand
  -- the line ends next
  BehindEntry : (m : Word) (before : List Entry) (e : Entry) → Stand

abbrev pub step_at : Row → Option Word → Place → Option Answer → Entry
step_at r d p a = entry.Step (record { row = r; def = d; path = p; answer = a })

-- what is read of this
abbrev pub next : Stand → LogToken → Option Stand
next AtStart (AWord w) = if bytes_eq w (codes "log") then Some BehindLog else None
next BehindLog (AWord w) = if bytes_eq w (codes "1") then Some BehindOne else None
next BehindOne (AWord w) = if is_module_name w then Some (BehindModule w) else None
next (BehindModule m) ALineEnd = Some (AtLine m [])
next (AtLine m es) (AWord w) = if bytes_eq w (codes "mark") then Some (BehindMark m es) else (if bytes_eq w (codes "step") then Some (BehindStep m es) else None)
next (BehindMark m es) (AWord w) = option_map (λ p. BehindEntry m es (entry.Mark p)) (phase_of w)
next (BehindStep m es) (AWord w) = option_map (λ r. BehindRow m es r) (row_of w)
next (BehindRow m es r) (AWord w) = option_map (λ d. BehindDef m es r d) (def_of r w)
next (BehindDef m es r d) (AWord w) = option_map (λ p. if is_fold r then BehindPath m es d p else BehindEntry m es (step_at r d p None)) (place_of r w)
next (BehindPath m es d p) (AWord w) = option_map (λ a. BehindEntry m es (step_at row.Fold d p (Some a))) (answer_of w)
next (BehindEntry m es e) ALineEnd = Some (AtLine m (es ++ e ∷ []))
next s t = None

-- a log ends where a line could begin
abbrev pub whole : Stand → Option Log
whole (AtLine m es) = Some (record { «module» = m; entries = es })
whole s = None

-- what comes of reading: a log, or how many tokens are left from the first on that cannot stand where it stands, which are none at the end
pub data Outcome : Type 0 where
  Got : (l : Log) → Outcome
  Stuck : (at : Stand) (left : ℕ) → Outcome

abbrev pub ended : Stand → Option Log → Outcome
ended s (Some l) = Got l
ended s None = Stuck s 0

abbrev pub reads : Stand → List LogToken → Outcome
reads s [] = ended s (whole s)
reads s (t ∷ ts) = elim (next s t) [ None ↦ Stuck s (suc (length ts)) | Some u ↦ reads u ts ]
