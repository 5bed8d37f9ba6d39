-- Options with their values, as a command reads them before its files.
use Rattle.std.proofs.Common.{◌≡◌, ◌≢◌, ◌∙◌, ℕ, Bool, true, false, List, [], ◌∷◌, ◌++◌, refl, ap, append-nil, codes, Option, Some, None, nat_eq, nat_lt}
use Rattle.std.specs.Prelude.{if◌then◌else◌}
use Rattle.std.specs.Option.{option_map_or}
use Rattle.clap.specs.Facts.{parser_of_value}
use Rattle.clap.specs.Faults.{settle_fault, turn_fault, use_fault}
use Rattle.clap.specs.Simple.{filled}
use Rattle.clap.specs.ValueTests.{accepts}
use Rattle.clap.specs.Walk.{Held, Row, Rule, Text, Waiting, Walk, arg_by_id, arg_by_long, has_row, idle, more_values, most_values, option, option_word, pending_count, reading_by, settled_rows, used, used_by_id, walked, with_values, without}
use Rattle.clap.specs.declared.parser.matches.ValueSource.TheVariants.{CommandLine}
use Rattle.fc_words.specs.Commands.{grow_rule, out_rule, small_rule, ticks_rule}
use Rattle.fc_words.specs.Plain.{Grow, IsPlainText, Out, Setting, Small, Ticks, setting_name}
use Rattle.fc_words.proofs.Files.{state}
use Rattle.fc_words.proofs.Hyphens.{is_other, plain_met, plain_turn, step_to}
use Rattle.fc_words.proofs.Levels.{Ends, Level, build, ends_from, numbered, rules_at, shape_at, why}
use Rattle.fc_words.proofs.RowLists.{at_absent}

abbrev pub rule_at : Setting → Rule
rule_at (Ticks n) = filled ticks_rule
rule_at (Small n) = filled small_rule
rule_at (Grow n) = filled grow_rule
rule_at (Out prefix) = filled out_rule

-- the command has this option
abbrev pub Takes : Level → Setting → Type 0
Takes l s = (arg_by_long (rules_at l) (setting_name s) ≡ Some (rule_at s)) × (arg_by_id (rules_at l) (setting_name s) ≡ Some (rule_at s))

pub build_takes : (s : Setting) → Takes (numbered build) s
build_takes (Ticks n) = (refl, refl)
build_takes (Small n) = (refl, refl)
build_takes (Grow n) = (refl, refl)
build_takes (Out prefix) = (refl, refl)

pub why_takes : (s : Setting) → codes "out" ≢ setting_name s → Takes (numbered why) s
why_takes (Out prefix) other = absurd (other refl)
why_takes s other = (refl, refl)

-- `--name=value` and `--name`
abbrev joined : Setting → Text → Text
joined s v = 45 ∷ 45 ∷ (setting_name s ++ 61 ∷ v)

abbrev named : Setting → Text
named s = 45 ∷ 45 ∷ setting_name s

-- ONE USE

abbrev pub Passes : Setting → Text → Type 0
Passes s v = accepts false (parser_of_value (rule_at s).parser) v ≡ true

abbrev pub row_with : Setting → Text → Row
row_with s v = record { id = setting_name s; values = v ∷ []; count = None; source = Some CommandLine; reading = reading_by (rule_at s) }

use_passes : (s : Setting) (v : Text) (rows : List Row) → has_row (setting_name s) rows ≡ false → Passes s v → use_fault false (rule_at s) (v ∷ []) rows ≡ []
use_passes (Out prefix) v rows absent passes = rw absent refl
use_passes s v rows absent passes = rw (absent, passes) refl

-- an argument of this id gets its first values
set_once : (id : Text) (r : Rule) (v : Text) (rows : List Row) → has_row id rows ≡ false
    → with_values id (reading_by r) CommandLine (v ∷ []) (without id rows)
    ≡ rows ++ record { id = id; values = v ∷ []; count = None; source = Some CommandLine; reading = reading_by r } ∷ []
set_once id r v rows absent =
    ap (with_values id (reading_by r) CommandLine (v ∷ [])) (at_absent id (λ _. []) [] rows absent ∙ append-nil rows)
    ∙ at_absent id (more_values CommandLine (v ∷ [])) _ rows absent

pub used_once : (s : Setting) (v : Text) (rows : List Row) → has_row (setting_name s) rows ≡ false → used (rule_at s) (v ∷ []) rows ≡ rows ++ row_with s v ∷ []
used_once (Ticks n) v rows absent = set_once _ (rule_at (Ticks n)) v rows absent
used_once (Small n) v rows absent = set_once _ (rule_at (Small n)) v rows absent
used_once (Grow n) v rows absent = set_once _ (rule_at (Grow n)) v rows absent
used_once (Out prefix) v rows absent = set_once _ (rule_at (Out prefix)) v rows absent

-- `--name=value`

joined_step : (l : Level) (s : Setting) → Takes l s → (rows : List Row) (p : Option (Text × List Text)) (v : Text)
    → walked (rules_at l) [] (state idle rows p) (joined s v) ≡ state idle (used (rule_at s) (v ∷ []) (settled_rows (rules_at l) p rows)) None
unfolding walked
joined_step l (Ticks n) takes rows p v = rw takes.0 refl
joined_step l (Small n) takes rows p v = rw takes.0 refl
joined_step l (Grow n) takes rows p v = rw takes.0 refl
joined_step l (Out prefix) takes rows p v = rw takes.0 refl

joined_turn : (l : Level) (s : Setting) → Takes l s → (v : Text) (rows : List Row) (p : Option (Text × List Text)) → settle_fault (rules_at l) false (state idle rows p).held ≡ []
    → use_fault false (rule_at s) (v ∷ []) (settled_rows (rules_at l) p rows) ≡ [] → turn_fault (shape_at l) [] (state idle rows p) (joined s v) ≡ []
joined_turn l (Ticks n) takes v rows p settles passes = rw (takes.0, settles, passes) refl
joined_turn l (Small n) takes v rows p settles passes = rw (takes.0, settles, passes) refl
joined_turn l (Grow n) takes v rows p settles passes = rw (takes.0, settles, passes) refl
joined_turn l (Out prefix) takes v rows p settles passes = rw (takes.0, settles, passes) refl

-- `--name value`

abbrev expects : Setting → List Row → Walk
expects s rows = state (option (setting_name s)) rows (Some (setting_name s, []))

name_step : (l : Level) (s : Setting) → Takes l s → (rows : List Row) (p : Option (Text × List Text))
    → walked (rules_at l) [] (state idle rows p) (named s) ≡ expects s (settled_rows (rules_at l) p rows)
unfolding walked
name_step l (Ticks n) takes rows p = rw takes.0 refl
name_step l (Small n) takes rows p = rw takes.0 refl
name_step l (Grow n) takes rows p = rw takes.0 refl
name_step l (Out prefix) takes rows p = rw takes.0 refl

name_turn : (l : Level) (s : Setting) → Takes l s → (rows : List Row) (p : Option (Text × List Text)) → settle_fault (rules_at l) false (state idle rows p).held ≡ []
    → turn_fault (shape_at l) [] (state idle rows p) (named s) ≡ []
name_turn l (Ticks n) takes rows p settles = rw (takes.0, settles) refl
name_turn l (Small n) takes rows p settles = rw (takes.0, settles) refl
name_turn l (Grow n) takes rows p settles = rw (takes.0, settles) refl
name_turn l (Out prefix) takes rows p settles = rw (takes.0, settles) refl

-- the option waits for no second value
one_wanted : (s : Setting) (v : Text) → nat_lt (pending_count (rule_at s) (Some (setting_name s, v ∷ []))) (most_values (rule_at s)) ≡ false
one_wanted (Ticks n) v = refl
one_wanted (Small n) v = refl
one_wanted (Grow n) v = refl
one_wanted (Out prefix) v = refl

value_step : (l : Level) (s : Setting) → Takes l s → (rows : List Row) (x : ℕ) (xs : Text) → nat_eq x 45 ≡ false
    → walked (rules_at l) [] (expects s rows) (x ∷ xs) ≡ state idle rows (Some (setting_name s, (x ∷ xs) ∷ []))
unfolding walked
value_step l s takes rows x xs e =
    let met : Option Rule → Held × Waiting = λ a. option_word a (setting_name s) (x ∷ xs) (expects s rows).held in
    ap (step_to (rules_at l) (x ∷ xs) (expects s rows)) (plain_met (rules_at l) (option (setting_name s)) 1 x xs (expects s rows).held e)
    ∙ ap (λ a. record (expects s rows) { held = (met a).0; waiting = (met a).1 }) takes.1
    ∙ ap (λ b. state (if b then option (setting_name s) else idle) rows (Some (setting_name s, (x ∷ xs) ∷ []))) (one_wanted s (x ∷ xs))

value_turn : (l : Level) (s : Setting) (rows : List Row) (x : ℕ) (xs : Text) → nat_eq x 45 ≡ false → turn_fault (shape_at l) [] (expects s rows) (x ∷ xs) ≡ []
value_turn l s rows x xs e = plain_turn (shape_at l) (option (setting_name s)) 1 x xs (expects s rows).held e refl

settled_one : (l : Level) (s : Setting) → Takes l s → (v : Text) (rows : List Row)
    → settled_rows (rules_at l) (Some (setting_name s, v ∷ [])) rows ≡ used (rule_at s) (v ∷ []) rows
settled_one l s takes v rows = ap (λ a. used_by_id a (v ∷ []) rows) takes.1

settle_one : (l : Level) (s : Setting) → Takes l s → (v : Text) (rows : List Row)
    → settle_fault (rules_at l) false (state idle rows (Some (setting_name s, v ∷ []))).held ≡ use_fault false (rule_at s) (v ∷ []) rows
settle_one l s takes v rows = ap (λ o. option_map_or (λ a. use_fault false a (v ∷ []) rows) o []) takes.1

-- ALL OF THEM

-- the walk over the words ends at E, wherever the rows before them come to R
abbrev pub After : Level → List Row → List Text → List Row → Type 0
After l R words E = (rows : List Row) (p : Option (Text × List Text)) → settled_rows (rules_at l) p rows ≡ R
    → settle_fault (rules_at l) false (state idle rows p).held ≡ [] → Ends l (state idle rows p) words E

abbrev written : Bool → Setting → Text → List Text
written b s v = if b then joined s v ∷ [] else named s ∷ v ∷ []

pub one_option : (l : Level) (b : Bool) (s : Setting) → Takes l s → (v : Text) (R : List Row) (words : List Text) (E : List Row) → has_row (setting_name s) R ≡ false → Passes s v → IsPlainText v
    → After l (R ++ row_with s v ∷ []) words E → After l R (written b s v ++ words) E
one_option l true s takes v R words E absent passes plain after rows p e settles =
    let S : List Row = settled_rows (rules_at l) p rows in
    let here : has_row (setting_name s) S ≡ false = ap (has_row (setting_name s)) e ∙ absent in
    ends_from l (state idle rows p) (state idle (used (rule_at s) (v ∷ []) S) None) (joined s v) words E
    (joined_turn l s takes v rows p settles (use_passes s v S here passes))
    (joined_step l s takes rows p v)
    (after (used (rule_at s) (v ∷ []) S) None (used_once s v S here ∙ ap (λ (x : List Row). x ++ row_with s v ∷ []) e) refl)
one_option l false s takes [] R words E absent passes plain after rows p e settles = absurd plain
one_option l false s takes (x ∷ xs) R words E absent passes plain after rows p e settles =
    let S : List Row = settled_rows (rules_at l) p rows in
    let here : has_row (setting_name s) S ≡ false = ap (has_row (setting_name s)) e ∙ absent in
    let other : nat_eq x 45 ≡ false = is_other x plain in
    let q : Option (Text × List Text) = Some (setting_name s, (x ∷ xs) ∷ []) in
    ends_from l (state idle rows p) (expects s S) (named s) ((x ∷ xs) ∷ words) E
    (name_turn l s takes rows p settles)
    (name_step l s takes rows p)
    (ends_from l (expects s S) (state idle S q) (x ∷ xs) words E (value_turn l s S x xs other) (value_step l s takes S x xs other)
    (after S q (settled_one l s takes (x ∷ xs) S ∙ used_once s (x ∷ xs) S here ∙ ap (λ (y : List Row). y ++ row_with s (x ∷ xs) ∷ []) e)
    (settle_one l s takes (x ∷ xs) S ∙ use_passes s (x ∷ xs) S here passes)))
