-- Sets whose keys are shared strings: a word that is put in is there, and every other word as before.
use Rattle.std.proofs.Common.{◌≡◌, ◌∙◌, ℕ, Bool, true, false, List, if◌then◌else◌, refl, sym, subst, arith}
use Rattle.std.proofs.lemmas.Slice.Eq.{bytes_eq-Decides}
use Rattle.std.specs.Cmp.Lexicographic.{nat_list_eq_equiv}
use Rattle.std.specs.HashSet.{HashSet, UpdatesBy, contains_by}
use Rattle.std.specs.List.{list_any}
use Rattle.std.specs.Rc.{rc_str_bytes}
use Rattle.std.specs.Set.{KeepsOthers}
use Rattle.std.specs.Str.{bytes_eq}
use Rattle.std.specs.declared.rc.RcStr.{RcStr}

-- whether a set has a key of these bytes
abbrev pub has_word : {Z S : Type 0} → HashSet (RcStr Z) S → List ℕ → Bool
has_word s w = contains_by (λ k. bytes_eq w (rc_str_bytes k)) s

apart : (v w k : List ℕ) → bytes_eq v w ≡ false → bytes_eq v k ≡ true → bytes_eq w k ≡ false
apart v w k other same = nat_list_eq_equiv.symm w k ∙ sym (nat_list_eq_equiv.congr v k w same) ∙ other

others_kept : {Z : Type 0} (v w : List ℕ) (old new : List (RcStr Z)) → KeepsOthers (λ x y. bytes_eq (rc_str_bytes x) (rc_str_bytes y)) (λ k. bytes_eq v (rc_str_bytes k)) old new
    → bytes_eq v w ≡ false → list_any (λ k. bytes_eq w (rc_str_bytes k)) new ≡ list_any (λ k. bytes_eq w (rc_str_bytes k)) old
unfolding KeepsOthers
others_kept v w old new kept other =
    kept (λ k. bytes_eq w (rc_str_bytes k)) (λ x y. nat_list_eq_equiv.congr w (rc_str_bytes x) (rc_str_bytes y)) (λ k. apart v w (rc_str_bytes k) other)

by_word : (f g : List ℕ → Bool) (v w : List ℕ) (b : Bool) → g v ≡ true → (b ≡ false → g w ≡ f w) → bytes_eq v w ≡ b → g w ≡ (if b then true else f w)
by_word f g v w true here other is = let same : v ≡ w = grind (arith, bytes_eq-Decides v w) in subst (λ x. g x ≡ true) same here
by_word f g v w false here other is = other refl

-- what is in a set after a key was put in
pub put_in : {Z S : Type 0} (v : List ℕ) (old new : HashSet (RcStr Z) S) → UpdatesBy (λ x y. bytes_eq (rc_str_bytes x) (rc_str_bytes y)) (λ k. bytes_eq v (rc_str_bytes k)) old new true
    → (w : List ℕ) → has_word new w ≡ (if bytes_eq v w then true else has_word old w)
put_in v old new h w = by_word (has_word old) (has_word new) v w (bytes_eq v w) h.1 (λ other. others_kept v w old.keys new.keys h.3 other) refl
