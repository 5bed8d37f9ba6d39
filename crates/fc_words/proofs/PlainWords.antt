-- Plain words are accepted, and ask for what they say.
use Rattle.std.proofs.Common.{◌≡◌, ◌∙◌, ◌<◌, ◌≤◌, ◌^◌, ℕ, List, [], ◌∷◌, ◌++◌, refl, sym, ap, arith, codes, le-leb, Option, Some, None}
use Rattle.std.specs.Prelude.{decimal, if◌then◌else◌}
use Rattle.std.specs.Str.Parse.{digits_value, without_leading_plus}
use Rattle.clap.specs.Walk.{Row, Text, idle}
use Rattle.fc_words.specs.declared.Tuning.{Tuning}
use Rattle.fc_words.specs.Asking.{Asked, Building, Explaining, Linting, Order, asked, asked_by, tuned, tuning_in, values_in, with_files}
use Rattle.fc_words.specs.Plain.{ArePlainOptions, ArePlainTexts, Grow, IsPlain, IsWithinRange, PlainBuild, PlainLint, PlainWhy, Setting, Small, Ticks, Written, grow_of, out_of, settings_of, plain_for_build, plain_for_lint, plain_for_why, small_of, spelled, ticks_of, tuning_of}
use Rattle.fc_words.proofs.Decimals.{number_read}
use Rattle.fc_words.proofs.Defaults.{defaults_pass, ended}
use Rattle.fc_words.proofs.Files.{files_end}
use Rattle.fc_words.proofs.Levels.{Level, Numbered, asked_at, build, lint, name_at, numbered, why}
use Rattle.fc_words.proofs.Settings.{AreTaken, all_taken, checks_pass, files_in, grow_text, no_files, none_yet, options_end, others_taken, out_text, rows_of, setting_rows, small_text, ticks_text}

-- what plain words come to
plain_end : (l : Level) (options : List Written) (file : Text) (others : List Text) → AreTaken l options → ArePlainOptions options → ArePlainTexts (file ∷ others)
    → asked (name_at l ∷ (spelled options ++ file ∷ others)) ≡ asked_by (name_at l, ended l (rows_of (settings_of options) (file ∷ others)))
plain_end l options file others taken plain_options plain_files =
    let ss : List Setting = settings_of options in
    asked_at l (spelled options ++ file ∷ others) (rows_of ss (file ∷ others))
    (options_end l options [] (file ∷ others) (rows_of ss (file ∷ others)) taken plain_options (none_yet options)
    (files_end l idle (setting_rows ss) [] (file ∷ others) tt (no_files ss) plain_files) [] None refl refl)
    (defaults_pass l (rows_of ss (file ∷ others)))
    (checks_pass l ss (file ∷ others))

pub plain_lint : PlainLint
plain_lint file others plain = plain_end lint [] file others tt tt plain ∙ ap (with_files Linting) (files_in lint [] (file ∷ others))

-- what is written is within its range, as the defaults are
ticks_fit : (ws : List Written) → ArePlainOptions ws → ticks_of (settings_of ws) ≤ 1000000
ticks_fit [] plain = omega arith
ticks_fit (w ∷ ws) plain = within w.setting plain.0 (ticks_fit ws plain.2)
  where
    within : (s : Setting) → IsWithinRange s → ticks_of (settings_of ws) ≤ 1000000 → ticks_of (s ∷ settings_of ws) ≤ 1000000
    within (Ticks n) le more = le
    within s le more = more

small_fits : (ws : List Written) → ArePlainOptions ws → small_of (settings_of ws) ≤ 10000
small_fits [] plain = omega arith
small_fits (w ∷ ws) plain = within w.setting plain.0 (small_fits ws plain.2)
  where
    within : (s : Setting) → IsWithinRange s → small_of (settings_of ws) ≤ 10000 → small_of (s ∷ settings_of ws) ≤ 10000
    within (Small n) le more = le
    within s le more = more

grow_fits : (ws : List Written) → ArePlainOptions ws → grow_of (settings_of ws) ≤ 10000
grow_fits [] plain = omega arith
grow_fits (w ∷ ws) plain = within w.setting plain.0 (grow_fits ws plain.2)
  where
    within : (s : Setting) → IsWithinRange s → grow_of (settings_of ws) ≤ 10000 → grow_of (s ∷ settings_of ws) ≤ 10000
    within (Grow n) le more = le
    within s le more = more

-- an order from its numbers, and from their texts
abbrev by_numbers : (Tuning → Order) → ℕ → ℕ → ℕ → List Text → Option Asked
by_numbers order t s g files = tuned (record { ticks = t; small = s; grow = g }) (order (record { ticks = t; small = s; grow = g })) files

abbrev number : Text → ℕ
number t = digits_value 10 (without_leading_plus t)

abbrev by_texts : (Tuning → Order) → Text → Text → Text → List Text → Option Asked
by_texts order t s g files = by_numbers order (number t) (number s) (number g) files

by_all : (order : Tuning → Order) (t t' s s' g g' : Text) (files files' : List Text) → t ≡ t' → s ≡ s' → g ≡ g' → files ≡ files'
    → by_texts order t s g files ≡ by_texts order t' s' g' files'
by_all order t t' s s' g g' files files' same_t same_s same_g same_files = λ i. by_texts order (same_t i) (same_s i) (same_g i) (same_files i)

numbers_read : (order : Tuning → Order) (t s g : ℕ) (files : List Text) → t < 2 ^ 64 → s < 2 ^ 64 → g < 2 ^ 64
    → by_texts order (decimal t) (decimal s) (decimal g) files ≡ by_numbers order t s g files
numbers_read order t s g files t_fits s_fits g_fits = λ i. by_numbers order (number_read t t_fits i) (number_read s s_fits i) (number_read g g_fits i) files

-- what comes of the numbers and files of plain words
in_order : (n : Numbered) (order : Tuning → Order) (options : List Written) (file : Text) (others : List Text) → ArePlainOptions options
    → small_of (settings_of options) ≤ grow_of (settings_of options) → (let rows = ended (numbered n) (rows_of (settings_of options) (file ∷ others)) in
    tuned (tuning_in rows) (order (tuning_in rows)) (values_in (codes "files") rows)
    ≡ Some (record { order = order (tuning_of (settings_of options)); file = file; others = others }))
in_order n order options file others plain le =
    let ss : List Setting = settings_of options in
    let files : List Text = file ∷ others in
    let ticks : ticks_of ss ≤ 1000000 = ticks_fit options plain in
    let small : small_of ss ≤ 10000 = small_fits options plain in
    let grow : grow_of ss ≤ 10000 = grow_fits options plain in
    by_all order _ _ _ _ _ _ _ _ (ticks_text n ss files) (small_text n ss files) (grow_text n ss files) (files_in (numbered n) ss files)
    ∙ numbers_read order (ticks_of ss) (small_of ss) (grow_of ss) files (omega arith) (omega arith) (omega arith)
    ∙ ap (λ b. if b then Some (record { order = order (tuning_of ss); file = file; others = others }) else None) (le-leb (small_of ss) (grow_of ss) le)

pub plain_build : PlainBuild
plain_build options file others plain_options plain_files le =
    let ss : List Setting = settings_of options in
    let rows : List Row = ended (numbered build) (rows_of ss (file ∷ others)) in
    plain_end (numbered build) options file others (all_taken options) plain_options plain_files
    ∙ ap (λ prefix. tuned (tuning_in rows) (Building (tuning_in rows) prefix) (values_in (codes "files") rows)) (out_text ss (file ∷ others))
    ∙ in_order build (λ t. Building t (out_of ss)) options file others plain_options le

pub plain_why : PlainWhy
plain_why options file others plain_options absent plain_files le =
    plain_end (numbered why) options file others (others_taken options absent) plain_options plain_files
    ∙ in_order why Explaining options file others plain_options le

some_is_not_none : (o : Option Asked) (a : Asked) → o ≡ Some a → o ≡ None → ⊥
some_is_not_none o a some none = let e : Some a ≡ None = sym some ∙ none in cc

-- plain words ask for something
pub plain_is_asked : (words : List (List ℕ)) → IsPlain words → asked words ≡ None → ⊥
plain_is_asked words (plain_for_build options file others fit plain le) none = some_is_not_none (asked words) _ (plain_build options file others fit plain le) none
plain_is_asked words (plain_for_why options file others fit absent plain le) none = some_is_not_none (asked words) _ (plain_why options file others fit absent plain le) none
plain_is_asked words (plain_for_lint file others plain) none = some_is_not_none (asked words) _ (plain_lint file others plain) none
