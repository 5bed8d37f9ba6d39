-- What clap adds at the end: an argument that was not used gets its default.
use Rattle.std.proofs.Common.{◌≡◌, ◌∙◌, ◌||◌, Bool, true, false, cond, List, [], ◌∷◌, refl, ap, subst, fold, Option, Some, None}
use Rattle.std.specs.Prelude.{⊤, if◌then◌else◌}
use Rattle.std.specs.Option.{option_or}
use Rattle.std.specs.Str.{bytes_eq}
use Rattle.std.proofs.lemmas.List.Folds.{find-append}
use Rattle.std.proofs.lemmas.Slice.Eq.{bytes_eq-Decides}
use Rattle.clap.specs.Faults.{defaults_fault, given_default_fault}
use Rattle.clap.specs.Kinds.{Kinds, or_else}
use Rattle.clap.specs.Walk.{Row, Rule, Text, default_rows, has_row, is_empty, more_values, reading_by, with_default}
use Rattle.clap.specs.declared.builder.value_parser.Reading.{Reading}
use Rattle.clap.specs.declared.parser.matches.ValueSource.TheVariants.{DefaultValue}
use Rattle.fc_words.proofs.Levels.{Level, build, lint, numbered, rules_at, why}
use Rattle.fc_words.proofs.RowLists.{at_absent, row_in}

-- the row of a default, where there is one
abbrev given : Text → Reading → List Text → List Row
given id how [] = []
given id how (v ∷ vs) = record { id = id; values = v ∷ vs; count = None; source = Some DefaultValue; reading = how } ∷ []

-- what the defaults give an id
abbrev pub default_in : Text → List Rule → Option Row
default_in q [] = None
default_in q (a ∷ rest) = option_or (row_in q (given a.id (reading_by a) a.defaults)) (default_in q rest)

or_none : (o : Option Row) → o ≡ option_or o None
or_none None = refl
or_none (Some r) = refl

or_assoc : (a b c : Option Row) → option_or (option_or a b) c ≡ option_or a (option_or b c)
or_assoc None b c = refl
or_assoc (Some r) b c = refl

-- a row that is there is found first
found_by : (b : Bool) (r : Row) (rows : List Row) (z : Option Row) (q : Text) → (b || has_row q rows) ≡ true
    → (has_row q rows ≡ true → row_in q rows ≡ option_or (row_in q rows) z)
    → cond b (Some r) (row_in q rows) ≡ option_or (cond b (Some r) (row_in q rows)) z
found_by true r rows z q e more = refl
found_by false r rows z q e more = more e

there : (rows : List Row) (q : Text) (z : Option Row) → has_row q rows ≡ true → row_in q rows ≡ option_or (row_in q rows) z
there [] q z e = cc
there (r ∷ rs) q z e = found_by (bytes_eq r.id q) r rs z q e (λ more. there rs q z more)

there_by : (c : Bool) (id q : Text) (rows : List Row) (r : Row) → bytes_eq id q ≡ c → has_row id rows ≡ true
    → row_in q rows ≡ option_or (row_in q rows) (cond c (Some r) None)
there_by false id q rows r same has = or_none (row_in q rows)
there_by true id q rows r same has = there rows q (Some r) (subst (λ t. has_row t rows ≡ true) ((bytes_eq-Decides id q).0 same) has)

default_by : (b : Bool) (q id : Text) (how : Reading) (vs : List Text) (rows : List Row) → has_row id rows ≡ b
    → row_in q (if b then rows else default_rows id how vs rows) ≡ option_or (row_in q rows) (row_in q (given id how vs))
default_by true q id how [] rows e = or_none (row_in q rows)
default_by false q id how [] rows e = or_none (row_in q rows)
default_by true q id how (v ∷ vs) rows e = there_by (bytes_eq id q) id q rows _ refl e
default_by false q id how (v ∷ vs) rows e =
    ap (row_in q) (at_absent id (more_values DefaultValue (v ∷ vs)) (given id how (v ∷ vs)) rows e) ∙ find-append (λ r. bytes_eq r.id q) rows (given id how (v ∷ vs))

-- the row of an id in the end: the one that is there, or the default
pub row_ended : (q : Text) (c : List Rule) (rows : List Row) → row_in q (fold with_default rows c) ≡ option_or (row_in q rows) (default_in q c)
row_ended q [] rows = or_none (row_in q rows)
row_ended q (a ∷ rest) rows =
    row_ended q rest (with_default rows a)
    ∙ ap (λ o. option_or o (default_in q rest)) (default_by (has_row a.id rows) q a.id (reading_by a) a.defaults rows refl)
    ∙ or_assoc (row_in q rows) _ _

-- no default fails
abbrev AreFine : List Rule → Type 0
AreFine [] = ⊤
AreFine (a ∷ rest) = (given_default_fault a a.defaults ≡ []) × AreFine rest

fine_by : (b : Bool) (k : Kinds) → k ≡ [] → (if b then [] else k) ≡ []
fine_by true k e = refl
fine_by false k e = e

fine_defaults : (c : List Rule) (rows : List Row) → AreFine c → defaults_fault rows c ≡ []
unfolding defaults_fault
fine_defaults [] rows fine = refl
fine_defaults (a ∷ rest) rows fine =
    ap (λ k. or_else k (defaults_fault (with_default rows a) rest)) (fine_by (has_row a.id rows || is_empty a.defaults) _ fine.0)
    ∙ fine_defaults rest (with_default rows a) fine.1

-- the rows of a command, in the end
abbrev pub ended : Level → List Row → List Row
ended l rows = fold with_default rows (rules_at l)

pub defaults_pass : (l : Level) (rows : List Row) → defaults_fault rows (rules_at l) ≡ []
defaults_pass (numbered build) rows = fine_defaults (rules_at (numbered build)) rows (refl, (refl, (refl, (refl, (refl, tt)))))
defaults_pass (numbered why) rows = fine_defaults (rules_at (numbered why)) rows (refl, (refl, (refl, (refl, tt))))
defaults_pass lint rows = fine_defaults (rules_at lint) rows (refl, tt)
