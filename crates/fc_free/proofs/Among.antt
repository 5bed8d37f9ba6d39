-- Whether a name is one of several.
use Rattle.std.proofs.Common.{◌≡◌, ◌<◌, ◌+◌, ℕ, refl, sym, ap, ◌∙◌, Bool, true, false, not, if◌then◌else◌, List, [], ◌∷◌, ◌++◌, drop, get_or, length}
use Rattle.fc_syntax.specs.declared.ty.Name.{Name}
use Rattle.fc_model.specs.Resolution.{WordSet}
use Rattle.fc_model.specs.Kinding.{same_name}
use Rattle.fc_model.proofs.Sameness.{false_true, same_name_eq}
use Rattle.fc_free.specs.Free.{is_among, is_bound_by, without}
use Rattle.fc_free.proofs.Sought.{sought_behind, sought_here}

-- a name is one of two lists where it is one of either
pub among_both : (n : Name) (xs ys : List Name) → is_among n (xs ++ ys) ≡ (if is_among n xs then true else is_among n ys)
among_both n [] ys = refl
among_both n (x ∷ xs) ys = first (same_name x n) (among_both n xs ys)
  where
    first : (b : Bool) → is_among n (xs ++ ys) ≡ (if is_among n xs then true else is_among n ys)
        → (if b then true else is_among n (xs ++ ys)) ≡ (if (if b then true else is_among n xs) then true else is_among n ys)
    first true h = refl
    first false h = h

-- and one of those that words do not bind where it is not bound and one of all
pub among_without : (n : Name) (s : WordSet) (xs : List Name) → is_among n (without s xs) ≡ (if is_bound_by s n.module n.text then false else is_among n xs)
among_without n s [] = none (is_bound_by s n.module n.text)
  where
    none : (b : Bool) → false ≡ (if b then false else false)
    none true = refl
    none false = refl
among_without n s (x ∷ xs) =
    first (is_bound_by s x.module x.text) (same_name x n) (is_bound_by s n.module n.text) refl (λ h. ap (λ (m : Name). is_bound_by s m.module m.text) (same_name_eq x n h)) (among_without n s xs)
  where
    first : (a b d : Bool) → same_name x n ≡ b → (b ≡ true → a ≡ d) → is_among n (without s xs) ≡ (if d then false else is_among n xs)
        → is_among n (if not a then x ∷ without s xs else without s xs) ≡ (if d then false else (if b then true else is_among n xs))
    first true true true e same h = h
    first true true false e same h = false_true (sym (same refl))
    first true false d e same h = h
    first false true true e same h = false_true (same refl)
    first false true false e same h = ap (λ b. if b then true else is_among n (without s xs)) e
    first false false d e same h = ap (λ b. if b then true else is_among n (without s xs)) e ∙ h

pub ruleset among_rules = (among_both, among_without)

-- items that are gone through until the name is found in what one of them has
pub among_here : {X : Type 0} (n : Name) (f : List X → List Name) (g : X → List Name) → ((x : X) (xs : List X) → f (x ∷ xs) ≡ g x ++ f xs) → (items : List X) (i : ℕ) (x : X)
    → is_among n (f (drop i items)) ≡ is_among n (f items) → i < length items → x ≡ get_or items i x → is_among n (g x) ≡ true → true ≡ is_among n (f items)
among_here n f g law = sought_here (λ xs. is_among n (f xs)) (λ x. is_among n (g x)) (λ x xs. ap (is_among n) (law x xs) ∙ among_both n (g x) (f xs))

pub among_behind : {X : Type 0} (n : Name) (f : List X → List Name) (g : X → List Name) → ((x : X) (xs : List X) → f (x ∷ xs) ≡ g x ++ f xs) → (items : List X) (i : ℕ) (x : X)
    → is_among n (f (drop i items)) ≡ is_among n (f items) → i < length items → x ≡ get_or items i x → is_among n (g x) ≡ false → is_among n (f (drop (i + 1) items)) ≡ is_among n (f items)
among_behind n f g law = sought_behind (λ xs. is_among n (f xs)) (λ x. is_among n (g x)) (λ x xs. ap (is_among n) (law x xs) ∙ among_both n (g x) (f xs))
