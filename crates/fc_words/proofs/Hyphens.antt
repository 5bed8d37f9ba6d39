-- A word that does not begin with a hyphen is no flag.
use Rattle.std.proofs.Common.{◌≡◌, ◌≢◌, ◌∙◌, ℕ, List, [], ◌∷◌, ap, Some, None, false, nat_eq, arith}
use Rattle.std.specs.Prelude.{◌&&◌, if◌then◌else◌, option_and_then}
use Rattle.std.specs.Option.{option_map_or}
use Rattle.std.specs.Str.{bytes_eq}
use Rattle.clap.specs.Faults.{bundle_fault, flag_word_fault, other_fault, step_fault}
use Rattle.clap.specs.Kinds.{or_else}
use Rattle.clap.specs.Lexer.{long_of, long_of_rest, short_of, short_of_rest, strip_byte}
use Rattle.clap.specs.Simple.{Shape}
use Rattle.clap.specs.Walk.{Held, Rule, Step, Text, Waiting, Walk, after_step, long_or_other, plain_word, short_or_plain, subcommand_or_other, trailing}

pub is_other : (x : ℕ) → x ≢ 45 → nat_eq x 45 ≡ false
is_other x ne = grind arith

not_dashes : (x : ℕ) (xs : Text) → nat_eq x 45 ≡ false → bytes_eq (x ∷ xs) (45 ∷ 45 ∷ []) ≡ false
not_dashes x xs e = ap (λ b. b && bytes_eq xs (45 ∷ [])) e

not_long : (x : ℕ) (xs : Text) → nat_eq x 45 ≡ false → long_of (x ∷ xs) ≡ None
not_long x xs e = ap (λ b. option_and_then long_of_rest (option_and_then (strip_byte 45) (if b then Some xs else None))) e

not_short : (x : ℕ) (xs : Text) → nat_eq x 45 ≡ false → short_of (x ∷ xs) ≡ None
not_short x xs e = ap (λ b. option_and_then short_of_rest (if b then Some xs else None)) e

-- what such a word is
pub plain_met : (c : List Rule) (waiting : Waiting) (position : ℕ) (x : ℕ) (xs : Text) (h : Held) → nat_eq x 45 ≡ false
    → subcommand_or_other c None waiting position (x ∷ xs) h ≡ plain_word c waiting (x ∷ xs) h
plain_met c waiting position x xs h e =
    ap (λ b. if b then (h, trailing position) else long_or_other c waiting (x ∷ xs) (long_of (x ∷ xs)) h) (not_dashes x xs e)
    ∙ ap (λ l. long_or_other c waiting (x ∷ xs) l h) (not_long x xs e)
    ∙ ap (λ t. short_or_plain c waiting (x ∷ xs) t h) (not_short x xs e)

-- as a flag it does not fail
pub plain_fault : (s : Shape) (x : ℕ) (xs : Text) (h : Held) → nat_eq x 45 ≡ false → other_fault s None (x ∷ xs) h ≡ []
plain_fault s x xs h e =
    ap (λ b. if b then [] else flag_word_fault s.rules s.args_override_self (long_of (x ∷ xs)) (x ∷ xs) h) (not_dashes x xs e)
    ∙ ap (λ l. flag_word_fault s.rules s.args_override_self l (x ∷ xs) h) (not_long x xs e)
    ∙ ap (λ t. option_map_or (λ flags. bundle_fault s.rules s.args_override_self flags h) t []) (not_short x xs e)

abbrev pub step_to : List Rule → Text → Walk → Held × Step → Walk
step_to c word w met = after_step c word w met.0 met.1

-- and it fails only as a value
pub plain_turn : (s : Shape) (waiting : Waiting) (position : ℕ) (x : ℕ) (xs : Text) (h : Held) → nat_eq x 45 ≡ false
    → step_fault s position (plain_word s.rules waiting (x ∷ xs) h).0 (plain_word s.rules waiting (x ∷ xs) h).1 ≡ []
    → or_else (other_fault s None (x ∷ xs) h)
    (step_fault s position (subcommand_or_other s.rules None waiting position (x ∷ xs) h).0 (subcommand_or_other s.rules None waiting position (x ∷ xs) h).1) ≡ []
plain_turn s waiting position x xs h e fine =
    ap (λ k. or_else k (step_fault s position (subcommand_or_other s.rules None waiting position (x ∷ xs) h).0 (subcommand_or_other s.rules None waiting position (x ∷ xs) h).1))
    (plain_fault s x xs h e)
    ∙ ap (λ (m : Held × Step). step_fault s position m.0 m.1) (plain_met s.rules waiting position x xs h e)
    ∙ fine
