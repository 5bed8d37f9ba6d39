-- The files, which stand behind everything else.
use Rattle.std.proofs.Common.{◌≡◌, ◌∙◌, ℕ, Bool, false, List, [], ◌∷◌, ◌++◌, refl, ap, append-nil, append_assoc, sym, subst, codes, Option, Some, None, nat_eq}
use Rattle.std.specs.Prelude.{◌&&◌, ⊤, if◌then◌else◌}
use Rattle.std.specs.Option.{option_map_or}
use Rattle.std.proofs.Math.Bool.{and-false}
use Rattle.clap.specs.Faults.{positional_fault, settle_fault, step_fault, stray_fault, turn_fault, use_fault, walk_fault}
use Rattle.clap.specs.Kinds.{Kinds}
use Rattle.clap.specs.Walk.{Held, arg_by_id, arg_by_index, is_pending, positional_held, Row, Rule, Text, to_positional, Waiting, Walk, has_row, idle, more_values, option, positional, pushed, settled, settled_rows, used, used_by_id, value, walked}
use Rattle.clap.specs.declared.builder.value_parser.Reading.TheVariants.{AsWritten}
use Rattle.clap.specs.declared.parser.matches.ValueSource.TheVariants.{CommandLine}
use Rattle.fc_words.specs.Plain.{ArePlainTexts}
use Rattle.fc_words.proofs.Hyphens.{is_other, plain_met, plain_turn, step_to}
use Rattle.fc_words.proofs.Levels.{Ends, Level, build, ends_from, lint, numbered, rules_at, shape_at, the_rule, why}
use Rattle.fc_words.proofs.RowLists.{at_absent, at_past}

-- between two words, with this argument still to be used
abbrev pub state : Waiting → List Row → Option (Text × List Text) → Walk
state waiting rows p = record { held = record { rows = rows; pending = p; skip = 0 }; waiting = waiting; position = 1; is_trailing = false; stopped = None }

-- the walk waits for no value of an option
abbrev pub IsOpen : Waiting → Type 0
IsOpen (option id) = ⊥
IsOpen _ = ⊤

abbrev pub file_row : List Text → Row
file_row files = record { id = codes "files"; values = files; count = None; source = Some CommandLine; reading = AsWritten }

-- the rows, and behind them the one of the files
abbrev pub rows_with : List Row → List Text → List Row
rows_with rows [] = rows
rows_with rows (f ∷ fs) = rows ++ file_row (f ∷ fs) ∷ []

-- the file is held, once what was pending is used
held_by : (b : Bool) (f : Text) (h s : Held) → pushed (codes "files") f (if b && false then h else s) ≡ pushed (codes "files") f s
held_by b f h s = ap (λ c. pushed (codes "files") f (if c then h else s)) (and-false b)

file_held : (c : List Rule) (rows : List Row) (p : Option (Text × List Text)) (f : Text) → positional_held c the_rule f (state idle rows p).held
    ≡ (state idle (settled_rows c p rows) (Some (codes "files", f ∷ []))).held
file_held c rows p f = held_by (is_pending the_rule p) f (state idle rows p).held (settled c (state idle rows p).held)

abbrev open_with : Held → Walk
open_with h = record { held = h; waiting = positional; position = 1; is_trailing = false; stopped = None }

-- the argument is found by its place and by its name
files_at : (l : Level) → (arg_by_index (rules_at l) 1 ≡ Some the_rule) × (arg_by_id (rules_at l) (codes "files") ≡ Some the_rule)
files_at (numbered build) = (refl, refl)
files_at (numbered why) = (refl, refl)
files_at lint = (refl, refl)

pub file_step : (l : Level) (w : Waiting) (rows : List Row) (p : Option (Text × List Text)) (x : ℕ) (xs : Text) → IsOpen w → nat_eq x 45 ≡ false
    → walked (rules_at l) [] (state w rows p) (x ∷ xs) ≡ state positional (settled_rows (rules_at l) p rows) (Some (codes "files", (x ∷ xs) ∷ []))
unfolding walked
file_step l idle rows p x xs o e =
    ap (step_to (rules_at l) (x ∷ xs) (state idle rows p)) (plain_met (rules_at l) idle 1 x xs (state idle rows p).held e)
    ∙ ap (λ a. to_positional (rules_at l) a (x ∷ xs) (state idle rows p) (state idle rows p).held) (files_at l).0
    ∙ ap open_with (file_held (rules_at l) rows p (x ∷ xs))
file_step l positional rows p x xs o e =
    ap (step_to (rules_at l) (x ∷ xs) (state positional rows p)) (plain_met (rules_at l) positional 1 x xs (state positional rows p).held e)
    ∙ ap (λ a. to_positional (rules_at l) a (x ∷ xs) (state positional rows p) (state positional rows p).held) (files_at l).0
    ∙ ap open_with (file_held (rules_at l) rows p (x ∷ xs))
file_step l (option id) rows p x xs o e = absurd o

-- what was pending may be used, so the word does not fail
fault_by : (b : Bool) (k : Kinds) → k ≡ [] → (if b && false then [] else k) ≡ []
fault_by b k e = ap (λ c. if c then [] else k) (and-false b) ∙ e

-- nor does the argument that takes it
place_passes : (l : Level) (rows : List Row) (p : Option (Text × List Text)) → settle_fault (rules_at l) false (state idle rows p).held ≡ []
    → step_fault (shape_at l) 1 (state idle rows p).held value ≡ []
place_passes l rows p settles =
    ap (λ o. option_map_or (λ a. positional_fault (rules_at l) false a (state idle rows p).held) o (stray_fault (shape_at l))) (files_at l).0
    ∙ fault_by (is_pending the_rule p) _ settles

file_turn : (l : Level) (w : Waiting) (rows : List Row) (p : Option (Text × List Text)) (x : ℕ) (xs : Text) → IsOpen w → nat_eq x 45 ≡ false
    → settle_fault (rules_at l) false (state w rows p).held ≡ [] → turn_fault (shape_at l) [] (state w rows p) (x ∷ xs) ≡ []
file_turn l idle rows p x xs o e settles = plain_turn (shape_at l) idle 1 x xs (state idle rows p).held e (place_passes l rows p settles)
file_turn l positional rows p x xs o e settles = plain_turn (shape_at l) positional 1 x xs (state positional rows p).held e (place_passes l rows p settles)
file_turn l (option id) rows p x xs o e settles = absurd o

-- one more file is used
used_file : (rows : List Row) (files : List Text) (f : Text) → has_row (codes "files") rows ≡ false → used the_rule (f ∷ []) (rows_with rows files) ≡ rows_with rows (files ++ f ∷ [])
used_file rows [] f absent = at_absent (codes "files") (more_values CommandLine (f ∷ [])) _ rows absent
used_file rows (g ∷ gs) f absent = at_past (codes "files") (more_values CommandLine (f ∷ [])) _ rows (file_row (g ∷ gs) ∷ []) absent

settled_file : (l : Level) (f : Text) (rows : List Row) → settled_rows (rules_at l) (Some (codes "files", f ∷ [])) rows ≡ used the_rule (f ∷ []) rows
settled_file l f rows = ap (λ a. used_by_id a (f ∷ []) rows) (files_at l).1

settle_file : (l : Level) (f : Text) (rows : List Row) → settle_fault (rules_at l) false (state positional rows (Some (codes "files", f ∷ []))).held ≡ []
settle_file l f rows = ap (λ o. option_map_or (λ a. use_fault false a (f ∷ []) rows) o []) (files_at l).1

-- the walk over files, behind these rows and files
pub files_end : (l : Level) (w : Waiting) (before : List Row) (files more : List Text) → IsOpen w → has_row (codes "files") before ≡ false → ArePlainTexts more
    → (rows : List Row) (p : Option (Text × List Text)) → settled_rows (rules_at l) p rows ≡ rows_with before files
    → settle_fault (rules_at l) false (state w rows p).held ≡ [] → Ends l (state w rows p) more (rows_with before (files ++ more))
unfolding walk_fault
files_end l w before files [] o absent plain rows p e settles = record { walks = refl; rows_are = e ∙ ap (rows_with before) (sym (append-nil files)); settles = settles }
files_end l w before files ([] ∷ gs) o absent plain rows p e settles = absurd plain.0
files_end l w before files ((x ∷ xs) ∷ gs) o absent plain rows p e settles =
    let other : nat_eq x 45 ≡ false = is_other x plain.0 in
    let S : List Row = settled_rows (rules_at l) p rows in
    let q : Option (Text × List Text) = Some (codes "files", (x ∷ xs) ∷ []) in
    let rest : Ends l (state positional S q) gs (rows_with before ((files ++ (x ∷ xs) ∷ []) ++ gs)) =
    files_end l positional before (files ++ (x ∷ xs) ∷ []) gs tt absent plain.1 S q
    (settled_file l (x ∷ xs) S ∙ ap (used the_rule ((x ∷ xs) ∷ [])) e ∙ used_file before files (x ∷ xs) absent)
    (settle_file l (x ∷ xs) S) in
    ends_from l (state w rows p) (state positional S q) (x ∷ xs) gs _ (file_turn l w rows p x xs o other settles) (file_step l w rows p x xs o other)
    (subst (λ fs. Ends l (state positional S q) gs (rows_with before fs)) (append_assoc files ((x ∷ xs) ∷ []) gs) rest)
