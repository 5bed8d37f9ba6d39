-- Where clap accepts the words, the numbers of a command are numbers within their ranges.
use Rattle.std.proofs.Common.{◌≡◌, ◌∙◌, ◌&&◌, ℕ, Bool, true, false, cond, List, [], ◌∷◌, ◌++◌, length, refl, sym, ap, subst, arith, codes, Option, Some, None, nat_lt, ltb-true, leb-true, true≢false}
use Rattle.std.specs.Prelude.{IfSome, IsSomeAnd, ◌==◌, if◌then◌else◌, option_map, slice_get, unwrap_or}
use Rattle.std.specs.Char.{digit_value}
use Rattle.std.specs.List.{list_all}
use Rattle.std.specs.Option.{option_map_or, option_or}
use Rattle.std.specs.Str.{bytes_eq}
use Rattle.std.specs.Str.Parse.{AllDigits, without_leading_plus}
use Rattle.std.proofs.lemmas.Bool.Decides.{Decides-eqb}
use Rattle.std.proofs.lemmas.List.Folds.{find-append}
use Rattle.std.proofs.lemmas.Slice.Eq.{bytes_eq-Decides}
use Rattle.clap.specs.Faults.{entered_fault, fault_of, level_fault, settle_fault, use_fault, walk_fault}
use Rattle.clap.specs.Kinds.{or_else, range_kinds}
use Rattle.clap.specs.Simple.{Shape, entered, label_of, names_of, rows_at, subcommand_of}
use Rattle.clap.specs.ValueTests.{accepts}
use Rattle.clap.specs.Walk.{answers_to, Row, Text, has_row, more_values, nothing_held, at_row, settled, used, values_or_missing, walk, walk_from, with_values}
use Rattle.clap.specs.declared.builder.value_parser.Reading.{Reading}
use Rattle.clap.specs.declared.builder.value_parser.Reading.TheVariants.{AsWritten}
use Rattle.clap.specs.declared.builder.value_parser.ValueParser.TheVariants as vp
use Rattle.clap.specs.declared.error.kind.ErrorKind.{ErrorKind}
use Rattle.clap.specs.declared.parser.matches.ValueSource.{ValueSource}
use Rattle.clap.specs.declared.parser.matches.ValueSource.TheVariants.{CommandLine}
use Rattle.fc_words.specs.Asking.{text_in}
use Rattle.fc_words.specs.Commands.{coreopt_app}
use Rattle.fc_words.specs.Numbers.{HasNumbers, HasNumbersBy, IsNumber}
use Rattle.fc_words.specs.Plain.{Grow, Out, Setting, Small, Ticks, setting_name}
use Rattle.fc_words.proofs.Defaults.{default_in, ended, row_ended}
use Rattle.fc_words.proofs.Levels.{Level, Numbered, behind, build, lint, numbered, rules_at, shape_at, the_rule, top, why}
use Rattle.fc_words.proofs.Options.{Passes, row_with, rule_at, used_once}
use Rattle.fc_words.proofs.RowLists.{first_text, row_in}
use Rattle.fc_words.proofs.WalkFacts.{AllKeep, Keeps, neither, settle_keeps, walk_keeps}

-- A TEXT THAT PASSES IS A NUMBER

both_true : (a b : Bool) → (a && b) ≡ true → (a ≡ true) × (b ≡ true)
both_true true b e = (refl, e)
both_true false b e = absurd (true≢false (sym e))

digits_from : (ds : List ℕ) → list_all (λ d. nat_lt (digit_value d) 10) ds ≡ true → AllDigits 10 ds
digits_from [] e = tt
digits_from (d ∷ ds) e = let parts = both_true _ _ e in (ltb-true _ _ parts.0, digits_from ds parts.1)

pub is_number : (most : ℕ) (text : Text) → accepts false (vp.Unsigned 0 most) text ≡ true → IsNumber most text
is_number most text e =
    let parts = both_true _ _ e in
    let numeral = both_true _ _ parts.0 in
    let range = both_true _ _ parts.1 in
    let ends = both_true _ _ range.1 in
    ((ltb-true _ _ numeral.0, digits_from (without_leading_plus text) numeral.1), leb-true _ _ ends.1)

-- ROWS

-- the first value of the row passes
abbrev Starts : ℕ → Row → Type 0
Starts most r = IsSomeAnd (slice_get r.values 0) (λ v. accepts false (vp.Unsigned 0 most) v ≡ true)

abbrev HasRange : Text → ℕ → List Row → Type 0
HasRange q most rows = IfSome (row_in q rows) (Starts most)

either : (a b : Option Row) (P : Row → Type 0) → IfSome a P → IfSome b P → IfSome (option_or a b) P
either None b P p q = q
either (Some r) b P p q = p

one_more : (q : Text) (most : ℕ) (rows : List Row) (r : Row) → HasRange q most rows → HasRange q most (r ∷ []) → HasRange q most (rows ++ r ∷ [])
one_more q most rows r old new =
    subst (λ o. IfSome o (Starts most)) (sym (find-append (λ r. bytes_eq r.id q) rows (r ∷ [])))
    (either (row_in q rows) (row_in q (r ∷ [])) (Starts most) old new)

-- a use of another argument leaves the row of an id as it is
other_id : (x id q : Text) → bytes_eq x id ≡ true → bytes_eq id q ≡ false → bytes_eq x q ≡ false
other_id x id q same other = ap (λ t. bytes_eq t q) ((bytes_eq-Decides x id).0 same) ∙ other

other_by : (b : Bool) (id q : Text) (source : ValueSource) (values : List Text) (missing : List Row) (r : Row) (rs : List Row) → bytes_eq r.id id ≡ b → bytes_eq id q ≡ false
    → row_in q (at_row id (more_values source values) missing rs) ≡ row_in q rs
    → row_in q (if b then more_values source values r ++ rs else r ∷ at_row id (more_values source values) missing rs) ≡ row_in q (r ∷ rs)
other_by true id q source values missing r rs same other more =
    let differs : bytes_eq r.id q ≡ false = other_id r.id id q same other in
    rw differs refl
other_by false id q source values missing r rs same other more = ap (cond (bytes_eq r.id q) (Some r)) more

other_row : (id q : Text) (how : Reading) (source : ValueSource) (values : List Text) (rows : List Row) → bytes_eq id q ≡ false
    → row_in q (with_values id how source values rows) ≡ row_in q rows
other_row id q how source values [] other = rw other refl
other_row id q how source values (r ∷ rs) other = other_by (bytes_eq r.id id) id q source values _ r rs refl other (other_row id q how source values rs other)

-- USES

one_by : (a b : Bool) (k l : ErrorKind) → (if a then k ∷ [] else (if b then [] else l ∷ [])) ≡ [] → b ≡ true
one_by true b k l e = cc
one_by false true k l e = refl
one_by false false k l e = cc

-- one value is wanted
one_value : (values : List Text) → range_kinds 1 1 (length values) ≡ [] → length values ≡ 1
one_value values e = sym ((Decides-eqb 1 (length values)).0 (one_by (length values == 0) (1 == length values) _ _ e))

absent_by : (b : Bool) (k : ErrorKind) → (if b && true then k ∷ [] else []) ≡ [] → b ≡ false
absent_by true k e = cc
absent_by false k e = refl

passes_by : (b : Bool) (k : ErrorKind) → or_else (if b then [] else k ∷ []) [] ≡ [] → b ≡ true
passes_by true k e = refl
passes_by false k e = cc

counted : (s : Setting) (values : List Text) (rows : List Row) → use_fault false (rule_at s) values rows ≡ [] → length values ≡ 1
counted (Ticks n) values rows e = one_value values (neither _ _ e).0
counted (Small n) values rows e = one_value values (neither _ _ e).0
counted (Grow n) values rows e = one_value values (neither _ _ e).0
counted (Out prefix) values rows e = one_value values (neither _ _ e).0

-- it is the first use, and its value passes
first_use : (s : Setting) (v : Text) (rows : List Row) → use_fault false (rule_at s) (v ∷ []) rows ≡ [] → (has_row (setting_name s) rows ≡ false) × Passes s v
first_use (Out prefix) v rows e = let parts = neither _ _ e in (absent_by _ _ parts.0, refl)
first_use s v rows e = let parts = neither _ _ e in (absent_by _ _ parts.0, passes_by _ _ parts.1)

keep_values : (s : Setting) (q : Text) (most : ℕ) → ((v : Text) → Passes s v → HasRange q most (row_with s v ∷ [])) → (values : List Text) (rows : List Row)
    → length values ≡ 1 → use_fault false (rule_at s) values rows ≡ [] → HasRange q most rows → HasRange q most (used (rule_at s) values rows)
keep_values s q most own [] rows one e has = absurd (omega arith)
keep_values s q most own (v ∷ []) rows one e has =
    let first = first_use s v rows e in
    subst (HasRange q most) (sym (used_once s v rows first.0)) (one_more q most rows (row_with s v) has (own v first.1))
keep_values s q most own (v ∷ w ∷ vs) rows one e has = absurd (omega arith)

keep_option : (s : Setting) (q : Text) (most : ℕ) → ((v : Text) → Passes s v → HasRange q most (row_with s v ∷ [])) → Keeps false (HasRange q most) (rule_at s)
keep_option s q most own values rows e has = keep_values s q most own values rows (counted s values rows e) e has

keep_files : (q : Text) (most : ℕ) → bytes_eq (codes "files") q ≡ false → Keeps false (HasRange q most) the_rule
keep_files q most other values rows e has =
    subst (λ o. IfSome o (Starts most)) (sym (other_row (codes "files") q AsWritten CommandLine (values_or_missing the_rule values) rows other)) has

keep_behind : (n : Numbered) (q : Text) (most : ℕ) → ((v : Text) → Passes (Out []) v → HasRange q most (row_with (Out []) v ∷ [])) → bytes_eq (codes "files") q ≡ false
    → AllKeep false (HasRange q most) (behind n)
keep_behind build q most out other = (keep_option (Out []) q most out, (keep_files q most other, tt))
keep_behind why q most out other = (keep_files q most other, tt)

-- of no option but this one is there anything to say
keep_ticks : (n : Numbered) → AllKeep false (HasRange (codes "ticks") 1000000) (rules_at (numbered n))
keep_ticks n = (
  keep_option (Ticks 0) _ _ (λ v p. p),
  (keep_option (Small 0) _ _ (λ v p. tt), (keep_option (Grow 0) _ _ (λ v p. tt), keep_behind n _ _ (λ v p. tt) refl)),
)

keep_small : (n : Numbered) → AllKeep false (HasRange (codes "small") 10000) (rules_at (numbered n))
keep_small n = (
  keep_option (Ticks 0) _ _ (λ v p. tt),
  (keep_option (Small 0) _ _ (λ v p. p), (keep_option (Grow 0) _ _ (λ v p. tt), keep_behind n _ _ (λ v p. tt) refl)),
)

keep_grow : (n : Numbered) → AllKeep false (HasRange (codes "grow") 10000) (rules_at (numbered n))
keep_grow n = (
  keep_option (Ticks 0) _ _ (λ v p. tt),
  (keep_option (Small 0) _ _ (λ v p. tt), (keep_option (Grow 0) _ _ (λ v p. p), keep_behind n _ _ (λ v p. tt) refl)),
)

-- THE COMMANDS

abbrev end_rows : Level → List Text → List Row
end_rows l words = (settled (rules_at l) (walk (rules_at l) [] nothing_held words).held).rows

range_kept : (l : Level) (q : Text) (most : ℕ) → AllKeep false (HasRange q most) (rules_at l) → (words : List Text)
    → level_fault (shape_at l) [] nothing_held words false [] ≡ [] → HasRange q most (end_rows l words)
range_kept l q most keep words e =
    let walks = neither (walk_fault (shape_at l) [] (walk_from nothing_held) words) _ e in
    let settles = neither (settle_fault (rules_at l) false (walk (rules_at l) [] nothing_held words).held) _ walks.1 in
    settle_keeps (shape_at l) [] (HasRange q most) keep (walk (rules_at l) [] nothing_held words).held settles.0
    (walk_keeps (shape_at l) [] (HasRange q most) keep words (walk_from nothing_held) walks.0 tt)

first_passes : (most : ℕ) (o : Option Text) → IsSomeAnd o (λ v. accepts false (vp.Unsigned 0 most) v ≡ true) → accepts false (vp.Unsigned 0 most) (unwrap_or o []) ≡ true
first_passes most None p = absurd p
first_passes most (Some v) p = p

row_passes : (most : ℕ) (o given : Option Row) → IfSome o (Starts most) → accepts false (vp.Unsigned 0 most) (first_text given) ≡ true
    → accepts false (vp.Unsigned 0 most) (first_text (option_or o given)) ≡ true
row_passes most None given p passes = passes
row_passes most (Some r) given p passes = first_passes most (slice_get r.values 0) p

one_number : (l : Level) (q : Text) (most : ℕ) → AllKeep false (HasRange q most) (rules_at l) → accepts false (vp.Unsigned 0 most) (first_text (default_in q (rules_at l))) ≡ true
    → (words : List Text) → level_fault (shape_at l) [] nothing_held words false [] ≡ [] → IsNumber most (text_in q (ended l (end_rows l words)))
one_number l q most keep passes words e =
    let rows : List Row = end_rows l words in
    is_number most (text_in q (ended l rows))
    (ap (λ o. accepts false (vp.Unsigned 0 most) (first_text o)) (row_ended q (rules_at l) rows)
    ∙ row_passes most (row_in q rows) (default_in q (rules_at l)) (range_kept l q most keep words e) passes)

all_numbers : (n : Numbered) (words : List Text) → level_fault (shape_at (numbered n)) [] nothing_held words false [] ≡ []
    → HasNumbers (ended (numbered n) (end_rows (numbered n) words))
all_numbers n words e = (
  one_number (numbered n) (codes "ticks") 1000000 (keep_ticks n) refl words e,
  one_number (numbered n) (codes "small") 10000 (keep_small n) refl words e,
  one_number (numbered n) (codes "grow") 10000 (keep_grow n) refl words e,
)

-- the shape of the command that was met
abbrev shape_by : Bool → Bool → Bool → Option Shape
shape_by a b c = cond a (Some (shape_at (numbered build))) (cond b (Some (shape_at (numbered why))) (cond c (Some (shape_at lint)) None))

level_by : (a b c : Bool) (words : List Text) → option_map_or (λ s. level_fault s [] nothing_held words false []) (shape_by a b c) [] ≡ []
    → IfSome (option_map (λ s. rows_at s words) (shape_by a b c)) HasNumbersBy
level_by true b c words e = λ other. all_numbers build words e
level_by false true c words e = λ other. all_numbers why words e
level_by false false true words e = λ other. absurd (true≢false other)
level_by false false false words e = tt

entered_by : (stop : Option (Text × List Text)) → entered_fault top stop ≡ [] → IfSome (entered top stop) HasNumbersBy
entered_by None e = tt
entered_by (Some p) e = level_by (answers_to p.0 (label_of (shape_at (numbered build)))) (answers_to p.0 (label_of (shape_at (numbered why)))) (answers_to p.0 (label_of (shape_at lint))) p.1 e

-- what clap finds in words that it accepts
pub numbers_found : (words : List Text) → fault_of coreopt_app words ≡ [] → IfSome (subcommand_of coreopt_app words) HasNumbersBy
numbers_found words e =
    let stop : Option (Text × List Text) = (walk top.top.rules (names_of top) nothing_held words).stopped in
    let walks = neither (walk_fault top.top (names_of top) (walk_from nothing_held) words) _ e in
    let enters = neither (entered_fault top stop) _ walks.1 in
    entered_by stop enters.0
