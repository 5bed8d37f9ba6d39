-- Definitions that are marked, one after the other.
use Rattle.std.proofs.Common.{◌≡◌, ◌+◌, ◌<◌, ◌≤◌, ℕ, zero, suc, Bool, true, false, nat_eq, List, [], ◌∷◌, ◌++◌, length, Some, refl, sym, ap, ◌∙◌, arith, subst}
use Rattle.std.specs.Prelude.{slice_get, slice_index_or}
use Rattle.std.proofs.lemmas.Option.{none-some, same_Some}
use Rattle.fc_syntax.specs.declared.module.Module as RustModule
use Rattle.fc_syntax.specs.declared.ty.Ref.{Ref}
use Rattle.fc_model.specs.Nameless.{NModule}
use Rattle.fc_model.specs.NamelessView.{nmodules_of}
use Rattle.fc_model.proofs.Sameness.{false_true, nat_eq_eq, nat_eq_refl}
use Rattle.fc_simplify.specs.Phase.{FirstDefines, FirstsAre, IsSettled, KeepsWords}
use Rattle.fc_simplify.proofs.Words.{first_kept}

-- MARKS

mark_is : (marks : List Bool) (i : ℕ) (b : Bool) → i < length marks → slice_index_or marks i false ≡ b → slice_get marks i ≡ Some b
mark_is [] i b below is = absurd (omega (arith, below))
mark_is (m ∷ marks) zero b below is = ap Some is
mark_is (m ∷ marks) (suc i) b below is = mark_is marks i b (omega (arith, below)) is

mark_below : (marks : List Bool) (i : ℕ) (b : Bool) → slice_get marks i ≡ Some b → i < length marks
mark_below [] i b is = absurd (none-some _ is)
mark_below (m ∷ marks) zero b is = omega arith
mark_below (m ∷ marks) (suc i) b is = omega (arith, mark_below marks i b is)

-- what is marked is the first definition of a word, also where words were kept
pub defines_first : (ms ks : List NModule) (marks : List Bool) (i : ℕ) → FirstsAre marks ms → KeepsWords ms ks → i < length marks → slice_index_or marks i false ≡ true → FirstDefines i ks
defines_first ms ks marks i are keeps below is = first_kept i ms ks keeps ((are i).0 (mark_is marks i true below is))

-- so is what stands among marks as marked
pub first_among : (ms ks : List NModule) (marks : List Bool) (i : ℕ) → FirstsAre marks ms → KeepsWords ms ks → slice_get marks i ≡ Some true → FirstDefines i ks
first_among ms ks marks i are keeps is = first_kept i ms ks keeps ((are i).0 is)

-- a list with one item more is not empty
pub never_empty : (xs : List ℕ) (x : ℕ) → xs ++ x ∷ [] ≡ [] → ⊥
never_empty [] x is = cc
never_empty (y ∷ xs) x is = cc

-- and one of no length is
pub none_of : (xs : List ℕ) → length xs ≡ 0 → xs ≡ []
none_of [] is = refl
none_of (x ∷ xs) is = absurd (omega (arith, is))

-- ONE MORE

module _ (spare : ℕ) (marks : List Bool) (ms : List (RustModule.Module ℕ Ref)) where
  -- those before a number are settled
  abbrev pub AreSettledTo : ℕ → Type 0
  AreSettledTo n = (i : ℕ) → i < n → slice_get marks i ≡ Some true → IsSettled spare i (nmodules_of ms)

  module _ (n : ℕ) (before : AreSettledTo n) (here : slice_get marks n ≡ Some true → IsSettled spare n (nmodules_of ms)) where
    one_more_by : (i : ℕ) (b : Bool) → nat_eq i n ≡ b → i < n + 1 → slice_get marks i ≡ Some true → IsSettled spare i (nmodules_of ms)
    one_more_by i true same below is =
        let number : n ≡ i = sym (nat_eq_eq i n same) in
        subst (λ j. IsSettled spare j (nmodules_of ms)) number (here (ap (slice_get marks) number ∙ is))
    one_more_by i false other below is = before i (omega (arith, below, apart)) is
      where
        apart : i ≡ n → ⊥
        apart same = let yes : nat_eq i n ≡ true = ap (nat_eq i) (sym same) ∙ nat_eq_refl i in false_true (sym other ∙ yes)

    one_more : AreSettledTo (n + 1)
    one_more i below is = one_more_by i (nat_eq i n) refl below is

  -- one that was settled where nothing had changed
  pub settled_more : (n spare′ : ℕ) (ks : List (RustModule.Module ℕ Ref)) → AreSettledTo n → ks ≡ ms → spare′ ≡ spare → IsSettled spare′ n (nmodules_of ks) → AreSettledTo (n + 1)
  settled_more n spare′ ks before same left settled =
      one_more n before (λ is. subst (λ s. IsSettled s n (nmodules_of ms)) left (subst (λ k. IsSettled spare′ n (nmodules_of k)) same settled))

  -- one that is not marked
  pub settled_past : (n : ℕ) → AreSettledTo n → n < length marks → slice_index_or marks n false ≡ false → AreSettledTo (n + 1)
  settled_past n before below unmarked = one_more n before (λ is. false_true (same_Some _ _ (sym (mark_is marks n false below unmarked) ∙ is)))

  -- all of them
  pub settled_all : (n : ℕ) → AreSettledTo n → length marks ≤ n → (i : ℕ) → slice_get marks i ≡ Some true → IsSettled spare i (nmodules_of ms)
  settled_all n before end i is = before i (omega (arith, mark_below marks i true is, end)) is
