-- Names are ASCII.
use Rattle.std.proofs.Common.{◌≡◌, ◌<◌, ℕ, Bool, true, false, ◌&&◌, ◌||◌, ◌==◌, List, [], ◌∷◌, arith, refl}
use Rattle.std.specs.Prelude.{All, cond, ⊤}
use Rattle.std.specs.List.{list_all, slice_split, onto_first}
use Rattle.std.specs.Str.{IsUtf8}
use Rattle.std.proofs.lemmas.List.Elements.{All-nil, All-cons, All-head, All-tail}
use Rattle.std.proofs.lemmas.Str.{IsUtf8-from_ascii}
use Rattle.std.proofs.lemmas.Str.Ascii.{IsAscii-from_all}
use Rattle.fc_syntax.specs.Tokens.{is_name_byte, is_lower_letter, is_upper_letter, is_plain_name, is_module_byte, is_module_part, is_module_name, is_dot}

byte_ascii : (b : ℕ) → is_name_byte b ≡ true → b < 128
byte_ascii b e = grind arith

lower_ascii : (b : ℕ) → ((is_lower_letter b || b == 95) || b == 36) ≡ true → b < 128
lower_ascii b e = grind arith

upper_ascii : (b : ℕ) → is_upper_letter b ≡ true → b < 128
upper_ascii b e = grind arith

both : (p q : Bool) → (p && q) ≡ true → (p ≡ true) × (q ≡ true)
both true q e = (refl, e)
both false q e = absurd cc

bytes_ascii : (w : List ℕ) → list_all is_name_byte w ≡ true → All (λ b. b < 128) w
bytes_ascii [] e = All-nil (λ x. x < 128)
bytes_ascii (b ∷ bs) e = let p = both (is_name_byte b) (list_all is_name_byte bs) e in All-cons (λ x. x < 128) b bs (byte_ascii b p.0) (bytes_ascii bs p.1)

name_ascii : (w : List ℕ) → is_plain_name w ≡ true → All (λ b. b < 128) w
name_ascii [] e = All-nil (λ x. x < 128)
name_ascii (b ∷ bs) e = named ((is_lower_letter b || b == 95) || b == 36) (is_upper_letter b) (list_all is_name_byte bs) (lower_ascii b) (upper_ascii b) (bytes_ascii bs) e where
  named : (p q r : Bool) → (p ≡ true → b < 128) → (q ≡ true → b < 128) → (r ≡ true → All (λ b. b < 128) bs) → ((p && r) || (q && r)) ≡ true → All (λ b. b < 128) (b ∷ bs)
  named true q true h k l e = All-cons (λ x. x < 128) b bs (h refl) (l refl)
  named false true true h k l e = All-cons (λ x. x < 128) b bs (k refl) (l refl)
  named true true false h k l e = absurd cc
  named true false false h k l e = absurd cc
  named false true false h k l e = absurd cc
  named false false r h k l e = absurd cc

pub name_utf8 : (w : List ℕ) → is_plain_name w ≡ true → IsUtf8 w
name_utf8 w e = IsUtf8-from_ascii w (IsAscii-from_all w (name_ascii w e))

module_byte_ascii : (b : ℕ) → is_module_byte b ≡ true → b < 128
module_byte_ascii b e = grind arith

module_bytes_ascii : (w : List ℕ) → list_all is_module_byte w ≡ true → All (λ b. b < 128) w
module_bytes_ascii [] e = All-nil (λ x. x < 128)
module_bytes_ascii (b ∷ bs) e =
    let p = both (is_module_byte b) (list_all is_module_byte bs) e in
    All-cons (λ x. x < 128) b bs (module_byte_ascii b p.0) (module_bytes_ascii bs p.1)

part_ascii : (w : List ℕ) → is_module_part w ≡ true → All (λ b. b < 128) w
part_ascii [] e = All-nil (λ x. x < 128)
part_ascii (b ∷ bs) e =
    let p = both (is_upper_letter b) (list_all is_module_byte bs) e in
    All-cons (λ x. x < 128) b bs (upper_ascii b p.0) (module_bytes_ascii bs p.1)

dot_ascii : (b : ℕ) → is_dot b ≡ true → b < 128
dot_ascii b e = grind arith

-- each part is ASCII
abbrev Parts : List (List ℕ) → Type 0
Parts [] = ⊤
Parts (w ∷ ws) = All (λ b. b < 128) w × Parts ws

parts_ascii : (ws : List (List ℕ)) → list_all is_module_part ws ≡ true → Parts ws
parts_ascii [] e = tt
parts_ascii (w ∷ ws) e = let p = both (is_module_part w) (list_all is_module_part ws) e in (part_ascii w p.0, parts_ascii ws p.1)

parts_front : (b : ℕ) (ws : List (List ℕ)) → Parts (onto_first b ws) → (b < 128) × Parts ws
parts_front b [] k = (All-head (λ x. x < 128) b [] k.0, tt)
parts_front b (w ∷ ws) k = (All-head (λ x. x < 128) b w k.0, (All-tail (λ x. x < 128) b w k.0, k.1))

-- what is cut into such parts at its dots is ASCII
whole_ascii : (w : List ℕ) → Parts (slice_split is_dot w) → All (λ b. b < 128) w
whole_ascii [] h = All-nil (λ x. x < 128)
whole_ascii (b ∷ bs) h = by (is_dot b) (dot_ascii b) (whole_ascii bs) h where
  by : (d : Bool) → (d ≡ true → b < 128) → (Parts (slice_split is_dot bs) → All (λ x. x < 128) bs)
      → Parts (cond d ([] ∷ slice_split is_dot bs) (onto_first b (slice_split is_dot bs))) → All (λ x. x < 128) (b ∷ bs)
  by true is rest k = All-cons (λ x. x < 128) b bs (is refl) (rest k.1)
  by false is rest k = let f = parts_front b (slice_split is_dot bs) k in All-cons (λ x. x < 128) b bs f.0 (rest f.1)

pub module_utf8 : (w : List ℕ) → is_module_name w ≡ true → IsUtf8 w
module_utf8 w e = IsUtf8-from_ascii w (IsAscii-from_all w (whole_ascii w (parts_ascii (slice_split is_dot w) e)))
