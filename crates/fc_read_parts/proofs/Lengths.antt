-- A word of a form is found among those of its length.
use Rattle.std.proofs.Common.{◌≡◌, ℕ, Bool, true, false, List, [], ◌∷◌, length, refl, sym, ◌∙◌, ap, Some, None, if◌then◌else◌, ◌≢◌, ne_eqb}
use Rattle.std.specs.Prelude.{◌==◌}
use Rattle.std.specs.Str.{bytes_eq}
use Rattle.std.proofs.lemmas.Bool.{true≢false}
use Rattle.std.proofs.lemmas.Bool.Decides.{Decides-eqb}
use Rattle.std.proofs.lemmas.Slice.Eq.{bytes_eq-Decides, text_from_reads, HasBytesAt}
use Rattle.fc_syntax.specs.declared.keyword.Keyword.{Keyword}
use Rattle.fc_syntax.specs.Keywords.{keyword_text, keywords}
use Rattle.fc_model.specs.Words.{keyword_among, keyword_of}
use Rattle.fc_read_parts.specs.Lengths.{of_length}

-- one step of both searches
one_step : (w : List ℕ) (k : Keyword) (ks : List Keyword) (b c : Bool) → (length (keyword_text k) == length w) ≡ b → bytes_eq w (keyword_text k) ≡ c
    → keyword_among (of_length (length w) ks) w ≡ keyword_among ks w
    → keyword_among (if b then k ∷ of_length (length w) ks else of_length (length w) ks) w ≡ (if c then Some k else keyword_among ks w)
one_step w k ks true true e f h = ap (λ x. if x then Some k else keyword_among (of_length (length w) ks) w) f
one_step w k ks true false e f h = ap (λ x. if x then Some k else keyword_among (of_length (length w) ks) w) f ∙ h
one_step w k ks false true e f h = absurd (true≢false (sym ((Decides-eqb (length (keyword_text k)) (length w)).1 (sym (ap length ((bytes_eq-Decides w (keyword_text k)).0 f)))) ∙ e))
one_step w k ks false false e f h = h

among_by_length : (w : List ℕ) (ks : List Keyword) → keyword_among (of_length (length w) ks) w ≡ keyword_among ks w
among_by_length w [] = refl
among_by_length w (k ∷ ks) = one_step w k ks (length (keyword_text k) == length w) (bytes_eq w (keyword_text k)) refl refl (among_by_length w ks)

found_by_length : (w : List ℕ) → keyword_among (of_length (length w) keywords) w ≡ keyword_of w
unfolding keyword_of
found_by_length w = among_by_length w keywords

pub found_among : (w : List ℕ) (n : ℕ) → length w ≡ n → keyword_among (of_length n keywords) w ≡ keyword_of w
found_among w n e = ap (λ m. keyword_among (of_length m keywords) w) (sym e) ∙ found_by_length w

-- no word of a form is shorter than two bytes or longer than eight
none_of_length : (n : ℕ) → (2 == n) ≡ false → (3 == n) ≡ false → (4 == n) ≡ false → (5 == n) ≡ false → (6 == n) ≡ false → (7 == n) ≡ false → (8 == n) ≡ false
    → of_length n keywords ≡ []
none_of_length n a b c d e f g = simp (a, b, c, d, e, f, g)

pub found_nowhere : (w : List ℕ) → length w ≢ 2 → length w ≢ 3 → length w ≢ 4 → length w ≢ 5 → length w ≢ 6 → length w ≢ 7 → length w ≢ 8 → None ≡ keyword_of w
found_nowhere w a b c d e f g =
    let n = length w in
    let none : of_length n keywords ≡ [] =
    none_of_length n (ne_eqb 2 n (λ h. a (sym h))) (ne_eqb 3 n (λ h. b (sym h))) (ne_eqb 4 n (λ h. c (sym h))) (ne_eqb 5 n (λ h. d (sym h)))
    (ne_eqb 6 n (λ h. e (sym h))) (ne_eqb 7 n (λ h. f (sym h))) (ne_eqb 8 n (λ h. g (sym h))) in
    sym (ap (λ ks. keyword_among ks w) none) ∙ found_by_length w

-- a word whose bytes were read one by one
pub among_by_bytes : (w text : List ℕ) (ks : List Keyword) → length w ≡ length text → HasBytesAt w 0 text → keyword_among ks text ≡ keyword_among ks w
among_by_bytes w text ks n h = ap (keyword_among ks) (sym (text_from_reads w text n h))
