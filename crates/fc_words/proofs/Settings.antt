-- All options of plain words, and what is found of them in the end.
use Rattle.std.proofs.Common.{◌≡◌, ◌≢◌, ◌∙◌, ◌||◌, Bool, true, false, List, [], ◌∷◌, ◌++◌, refl, sym, ap, subst, append-nil, append_assoc, arith, codes, map, Option, Some, None}
use Rattle.std.specs.Prelude.{⊤, decimal, not}
use Rattle.std.specs.Option.{option_map_or, option_or}
use Rattle.std.specs.Str.{bytes_eq}
use Rattle.std.proofs.lemmas.List.Folds.{find-append}
use Rattle.std.proofs.lemmas.Slice.Eq.{bytes_eq-Decides}
use Rattle.clap.specs.Facts.{explicit_source}
use Rattle.clap.specs.Faults.{check_fault}
use Rattle.clap.specs.Kinds.{check_kinds}
use Rattle.clap.specs.Walk.{Row, Text, has_row}
use Rattle.fc_words.specs.Asking.{text_in, values_in}
use Rattle.fc_words.specs.Plain.{ArePlainOptions, Grow, IsAbsent, IsPlainText, IsWithinRange, Out, Setting, Small, Ticks, Written, grow_of, out_of, setting_name, setting_value, settings_of, small_of, spelled, spelled_one, ticks_of}
use Rattle.fc_words.proofs.Decimals.{decimal_passes, grow_given, plain_decimal, small_given, ticks_given}
use Rattle.fc_words.proofs.Defaults.{default_in, ended, row_ended}
use Rattle.fc_words.proofs.Files.{file_row}
use Rattle.fc_words.proofs.Levels.{Level, Numbered, build, lint, numbered, rules_at, shape_at, why}
use Rattle.fc_words.proofs.Options.{After, Passes, Takes, build_takes, one_option, row_with, why_takes}
use Rattle.fc_words.proofs.RowLists.{absent_push, first_text, row_in}

value_passes : (s : Setting) → IsWithinRange s → Passes s (setting_value s)
value_passes (Ticks n) le = decimal_passes n 1000000 le (omega arith)
value_passes (Small n) le = decimal_passes n 10000 le (omega arith)
value_passes (Grow n) le = decimal_passes n 10000 le (omega arith)
value_passes (Out prefix) plain = refl

value_plain : (s : Setting) → IsWithinRange s → IsPlainText (setting_value s)
value_plain (Ticks n) le = plain_decimal n (omega arith)
value_plain (Small n) le = plain_decimal n (omega arith)
value_plain (Grow n) le = plain_decimal n (omega arith)
value_plain (Out prefix) plain = plain

-- THE WALK OVER THEM

abbrev pub setting_rows : List Setting → List Row
setting_rows ss = map (λ s. row_with s (setting_value s)) ss

-- no row has the name of one of the options
abbrev pub AreFresh : List Row → List Written → Type 0
AreFresh R [] = ⊤
AreFresh R (w ∷ ws) = (has_row (setting_name w.setting) R ≡ false) × AreFresh R ws

differs_by : (b : Bool) (x y : Text) → bytes_eq x y ≡ b → x ≢ y → b ≡ false
differs_by true x y e ne = absurd (ne ((bytes_eq-Decides x y).0 e))
differs_by false x y e ne = refl

fresh_push : (R : List Row) (s : Setting) (v : Text) (ws : List Written) → IsAbsent (setting_name s) ws → AreFresh R ws → AreFresh (R ++ row_with s v ∷ []) ws
fresh_push R s v [] absent fresh = tt
fresh_push R s v (w ∷ ws) absent fresh = (
  absent_push (setting_name w.setting) R (row_with s v) fresh.0 (differs_by _ (setting_name s) (setting_name w.setting) refl absent.0),
  fresh_push R s v ws absent.1 fresh.1,
)

pub none_yet : (ws : List Written) → AreFresh [] ws
none_yet [] = tt
none_yet (w ∷ ws) = (refl, none_yet ws)

-- the command has each of the options
abbrev pub AreTaken : Level → List Written → Type 0
AreTaken l [] = ⊤
AreTaken l (w ∷ ws) = Takes l w.setting × AreTaken l ws

pub all_taken : (ws : List Written) → AreTaken (numbered build) ws
all_taken [] = tt
all_taken (w ∷ ws) = (build_takes w.setting, all_taken ws)

pub others_taken : (ws : List Written) → IsAbsent (codes "out") ws → AreTaken (numbered why) ws
others_taken [] absent = tt
others_taken (w ∷ ws) absent = (why_takes w.setting absent.0, others_taken ws absent.1)

pub options_end : (l : Level) (ws : List Written) (R : List Row) (words : List Text) (E : List Row) → AreTaken l ws → ArePlainOptions ws → AreFresh R ws
    → After l (R ++ setting_rows (settings_of ws)) words E → After l R (spelled ws ++ words) E
options_end l [] R words E taken plain fresh after = subst (λ x. After l x words E) (append-nil R) after
options_end l (w ∷ ws) R words E taken plain fresh after =
    let s : Setting = w.setting in
    let row : Row = row_with s (setting_value s) in
    subst (λ x. After l R x E) (sym (append_assoc (spelled_one w) (spelled ws) words))
    (one_option l w.is_joined s taken.0 (setting_value s) R (spelled ws ++ words) E fresh.0 (value_passes s plain.0) (value_plain s plain.0)
    (options_end l ws (R ++ row ∷ []) words E taken.1 plain.2 (fresh_push R s (setting_value s) ws plain.1 fresh.1)
    (subst (λ x. After l x words E) (sym (append_assoc R (row ∷ []) (setting_rows (settings_of ws)))) after)))

-- WHAT IS FOUND IN THE END

not_files : (s : Setting) → bytes_eq (setting_name s) (codes "files") ≡ false
not_files (Ticks n) = refl
not_files (Small n) = refl
not_files (Grow n) = refl
not_files (Out prefix) = refl

pub no_files : (ss : List Setting) → has_row (codes "files") (setting_rows ss) ≡ false
no_files [] = refl
no_files (s ∷ ss) = ap (λ b. b || has_row (codes "files") (setting_rows ss)) (not_files s) ∙ no_files ss

-- the rows at the end of the walk
abbrev pub rows_of : List Setting → List Text → List Row
rows_of ss files = setting_rows ss ++ file_row files ∷ []

-- the row of an id, among the options, the files and the defaults
abbrev any_of : Level → Text → Option Row → Option Row → Option Row
any_of l q o f = option_or (option_or o f) (default_in q (rules_at l))

found : (l : Level) (q : Text) (ss : List Setting) (files : List Text)
    → row_in q (ended l (rows_of ss files)) ≡ any_of l q (row_in q (setting_rows ss)) (row_in q (file_row files ∷ []))
found l q ss files =
    row_ended q (rules_at l) (rows_of ss files)
    ∙ ap (λ o. option_or o (default_in q (rules_at l))) (find-append (λ r. bytes_eq r.id q) (setting_rows ss) (file_row files ∷ []))

ticks_found : (n : Numbered) (ss : List Setting) → first_text (any_of (numbered n) (codes "ticks") (row_in (codes "ticks") (setting_rows ss)) None) ≡ decimal (ticks_of ss)
ticks_found n [] = ticks_given
ticks_found n (Ticks m ∷ ss) = refl
ticks_found n (s ∷ ss) = ticks_found n ss

small_found : (n : Numbered) (ss : List Setting) → first_text (any_of (numbered n) (codes "small") (row_in (codes "small") (setting_rows ss)) None) ≡ decimal (small_of ss)
small_found n [] = small_given
small_found n (Small m ∷ ss) = refl
small_found n (s ∷ ss) = small_found n ss

grow_found : (n : Numbered) (ss : List Setting) → first_text (any_of (numbered n) (codes "grow") (row_in (codes "grow") (setting_rows ss)) None) ≡ decimal (grow_of ss)
grow_found n [] = grow_given
grow_found n (Grow m ∷ ss) = refl
grow_found n (s ∷ ss) = grow_found n ss

out_found : (ss : List Setting) → first_text (any_of (numbered build) (codes "out") (row_in (codes "out") (setting_rows ss)) None) ≡ out_of ss
out_found [] = refl
out_found (Out prefix ∷ ss) = refl
out_found (s ∷ ss) = out_found ss

pub ticks_text : (n : Numbered) (ss : List Setting) (files : List Text) → text_in (codes "ticks") (ended (numbered n) (rows_of ss files)) ≡ decimal (ticks_of ss)
ticks_text n ss files = ap first_text (found (numbered n) (codes "ticks") ss files) ∙ ticks_found n ss

pub small_text : (n : Numbered) (ss : List Setting) (files : List Text) → text_in (codes "small") (ended (numbered n) (rows_of ss files)) ≡ decimal (small_of ss)
small_text n ss files = ap first_text (found (numbered n) (codes "small") ss files) ∙ small_found n ss

pub grow_text : (n : Numbered) (ss : List Setting) (files : List Text) → text_in (codes "grow") (ended (numbered n) (rows_of ss files)) ≡ decimal (grow_of ss)
grow_text n ss files = ap first_text (found (numbered n) (codes "grow") ss files) ∙ grow_found n ss

pub out_text : (ss : List Setting) (files : List Text) → text_in (codes "out") (ended (numbered build) (rows_of ss files)) ≡ out_of ss
out_text ss files = ap first_text (found (numbered build) (codes "out") ss files) ∙ out_found ss

files_found : (l : Level) (ss : List Setting) (files : List Text) → any_of l (codes "files") (row_in (codes "files") (setting_rows ss)) (Some (file_row files)) ≡ Some (file_row files)
files_found l [] files = refl
files_found l (Ticks n ∷ ss) files = files_found l ss files
files_found l (Small n ∷ ss) files = files_found l ss files
files_found l (Grow n ∷ ss) files = files_found l ss files
files_found l (Out prefix ∷ ss) files = files_found l ss files

the_files : (l : Level) (ss : List Setting) (files : List Text) → row_in (codes "files") (ended l (rows_of ss files)) ≡ Some (file_row files)
the_files l ss files = found l (codes "files") ss files ∙ files_found l ss files

pub files_in : (l : Level) (ss : List Setting) (files : List Text) → values_in (codes "files") (ended l (rows_of ss files)) ≡ files
files_in l ss files = ap (λ (o : Option Row). option_map_or (λ r. r.values) o []) (the_files l ss files)

-- the files are there, as they must be
given_files : (files : List Text) (o : Option Row) → o ≡ Some (file_row files)
    → check_kinds false false (not (option_map_or (λ r. explicit_source r.source) o false) || false) ≡ []
given_files files o e = ap (λ (o : Option Row). check_kinds false false (not (option_map_or (λ r. explicit_source r.source) o false) || false)) e

pub checks_pass : (l : Level) (ss : List Setting) (files : List Text) → check_fault (shape_at l) (ended l (rows_of ss files)) false ≡ []
checks_pass (numbered build) ss files = given_files files _ (the_files (numbered build) ss files)
checks_pass (numbered why) ss files = given_files files _ (the_files (numbered why) ss files)
checks_pass lint ss files = given_files files _ (the_files lint ss files)
