-- A text that spells a log has no bad byte.
use Rattle.std.proofs.Common.{◌≡◌, ℕ, ◌-◌, Bool, true, false, List, [], ◌∷◌, length, take, refl, sym, ap, ◌∙◌, arith, cond, Some, suc}
use Rattle.std.specs.Prelude.{if◌then◌else◌, ◌==◌}
use Rattle.std.specs.List.{find, list_all, slice_split}
use Rattle.std.specs.Str.{bytes_eq}
use Rattle.std.proofs.lemmas.Bool.{and_parts, and_from}
use Rattle.std.proofs.lemmas.Bool.Decides.{nat_tests}
use Rattle.std.proofs.lemmas.Slice.Eq.{bytes_eq-Decides}
use Rattle.fc_syntax.specs.Tokens.{ends_with_hash, is_digits, is_dot, is_literal, is_number, is_plain, without_hash, without_minus}
use Rattle.fc_lex.proofs.Printed.{digits_plain}
use Rattle.fc_printer.proofs.ModuleNames.{whole_is_plain}
use Rattle.fc_log.specs.declared.log.Phase.{Phase}
use Rattle.fc_log.specs.declared.log.Row.{Row}
use Rattle.fc_log.specs.Grammar.{is_part_number, is_path, is_written_literal, no_leading_zero}
use Rattle.fc_log.specs.Names.{phase_of, phase_text, phases, row_of, row_text, rows}
use Rattle.fc_log.proofs.Plain.{phase_plain, row_plain}

-- WORDS THAT MAY STAND

pub same_plain : (w v : List ℕ) → bytes_eq w v ≡ true → list_all is_plain v ≡ true → list_all is_plain w ≡ true
same_plain w v e h = ap (list_all is_plain) ((bytes_eq-Decides w v).0 e) ∙ h

found : {X : Type 0} (p : X → Bool) (xs : List X) (x : X) → find p xs ≡ Some x → p x ≡ true
found p [] x e = absurd (cc)
found p (y ∷ ys) x e = by (p y) refl e (found p ys x) where
  by : (b : Bool) → p y ≡ b → cond b (Some y) (find p ys) ≡ Some x → (find p ys ≡ Some x → p x ≡ true) → p x ≡ true
  by true q f k = ap p (let i : x ≡ y = cc in i) ∙ q
  by false q f k = k f

pub row_word_plain : (w : List ℕ) (r : Row) → row_of w ≡ Some r → list_all is_plain w ≡ true
unfolding row_of
row_word_plain w r e = same_plain w (row_text r) (found (λ r. bytes_eq w (row_text r)) rows r e) (row_plain r)

pub phase_word_plain : (w : List ℕ) (p : Phase) → phase_of w ≡ Some p → list_all is_plain w ≡ true
unfolding phase_of
phase_word_plain w p e = same_plain w (phase_text p) (found (λ p. bytes_eq w (phase_text p)) phases p e) (phase_plain p)

digits_are_plain : (w : List ℕ) → is_digits w ≡ true → list_all is_plain w ≡ true
digits_are_plain [] h = refl
digits_are_plain (b ∷ bs) h = digits_plain (b ∷ bs) h

parts_plain : (ws : List (List ℕ)) → list_all is_part_number ws ≡ true → list_all (list_all is_plain) ws ≡ true
parts_plain [] h = refl
parts_plain (w ∷ ws) h =
    let p = and_parts (is_part_number w) (list_all is_part_number ws) h in
    let n = and_parts (is_number w) (no_leading_zero w) p.0 in
    and_from (list_all is_plain w) (list_all (list_all is_plain) ws) (digits_are_plain w (and_parts (is_digits w) _ n.0).0) (parts_plain ws p.1)

pub path_word_plain : (w : List ℕ) → is_path w ≡ true → list_all is_plain w ≡ true
path_word_plain w h = whole_is_plain w (parts_plain (slice_split is_dot w) h)

-- a literal
minus_plain : (s : Bool) (b : ℕ) (bs : List ℕ) → (b == 45) ≡ s → is_digits (if s then bs else b ∷ bs) ≡ true → list_all is_plain (b ∷ bs) ≡ true
minus_plain true b bs e h = let p : is_plain b ≡ true = grind (arith, nat_tests) in and_from (is_plain b) (list_all is_plain bs) p (digits_are_plain bs h)
minus_plain false b bs e h = digits_are_plain (b ∷ bs) h

numeral_plain : (n : List ℕ) → is_digits (without_minus n) ≡ true → list_all is_plain n ≡ true
numeral_plain [] h = refl
numeral_plain (b ∷ bs) h = minus_plain (b == 45) b bs refl h

hash_last : (w : List ℕ) → ends_with_hash w ≡ true → list_all is_plain (take (length w - 1) w) ≡ true → list_all is_plain w ≡ true
hash_last [] e h = refl
hash_last (b ∷ []) e h = let p : is_plain b ≡ true = grind (arith, nat_tests) in and_from (is_plain b) true p refl
hash_last (b ∷ c ∷ bs) e h =
    let n : length (b ∷ c ∷ bs) - 1 ≡ suc (length (c ∷ bs) - 1) = omega arith in
    let p = and_parts (is_plain b) (list_all is_plain (take (length (c ∷ bs) - 1) (c ∷ bs))) (ap (λ k. list_all is_plain (take k (b ∷ c ∷ bs))) (sym n) ∙ h) in
    and_from (is_plain b) (list_all is_plain (c ∷ bs)) p.0 (hash_last (c ∷ bs) e p.1)

pub literal_word_plain : (w : List ℕ) → is_written_literal w ≡ true → list_all is_plain w ≡ true
literal_word_plain w h =
    let l = and_parts (ends_with_hash w) (is_digits (without_minus (without_hash w))) (and_parts (is_literal w) _ h).0 in
    hash_last w l.0 (numeral_plain (without_hash w) l.1)
