-- How a text is cut at a byte that ends nothing.
use Rattle.std.proofs.Common.{◌≡◌, ℕ, ◌+◌, ◌-◌, ◌<◌, ◌≤◌, Bool, true, false, List, [], ◌∷◌, ◌++◌, length, take, drop, get_or, refl, ◌∙◌, ap, arith, length-drop}
use Rattle.std.specs.Prelude.{◌==◌, slice_range}
use Rattle.std.proofs.lemmas.List.{drop_more, take_more, get_or-drop}
use Rattle.fc_log.specs.Seen.{uncut}

-- a word goes on with a byte
range_more : (bytes : List ℕ) (begun at : ℕ) → begun ≤ at → at < length bytes → slice_range bytes begun (at + 1) ≡ slice_range bytes begun at ++ get_or bytes at 0 ∷ []
range_more bytes begun at o l =
    let n : (at + 1) - begun ≡ (at - begun) + 1 = omega arith in
    let m : begun + (at - begun) ≡ at = omega arith in
    let k : at - begun < length (drop begun bytes) = simp length-drop (omega arith) in
    let g : get_or (drop begun bytes) (at - begun) 0 ≡ get_or bytes at 0 = get_or-drop begun bytes (at - begun) 0 ∙ ap (λ j. get_or bytes j 0) m in
    ap (λ j. take j (drop begun bytes)) n ∙ (take_more (drop begun bytes) (at - begun) 0 k ∙ ap (λ b. take (at - begun) (drop begun bytes) ++ b ∷ []) g)

pub at_other : (bytes : List ℕ) (fresh : Bool) (begun at : ℕ) → begun ≤ at → at < length bytes → (get_or bytes at 0 == 32) ≡ false → (get_or bytes at 0 == 10) ≡ false
    → uncut bytes (get_or bytes at 0 == 10) begun (at + 1) ≡ uncut bytes fresh begun at
at_other bytes true begun at o l e f = rw (drop_more bytes at 0 l, e, f, range_more bytes begun at o l) refl
at_other bytes false begun at o l e f = rw (drop_more bytes at 0 l, e, f, range_more bytes begun at o l) refl
