-- Where the types of binders stand that were entered.
use Rattle.std.proofs.Common.{◌≡◌, ℕ, suc, ◌+◌, ◌≤◌, List, [], ◌∷◌, length, length-append, reverse, refl, ap, subst, arith}
use Rattle.std.proofs.Math.Decide.{dec_lt}
use Rattle.std.proofs.lemmas.List.{length-reverse}
use Rattle.std.proofs.lemmas.List.Elements.{All-head, All-tail}
use Prim.{yes, no}
use Rattle.fc_syntax.specs.Tree.{Kind}
use Rattle.fc_model.specs.Calling.{type_count}
use Rattle.fc_model.specs.Coercing.{Ends, ends}
use Rattle.fc_model.specs.Nameless.{NTy, NTVar, NTCon, NTInt, NTApp, NTFun, NTForall, NTCoForall, NBinder, NBValue, NBType, NBCo}
use Rattle.fc_model.specs.Substituting.{IsScopedType, raised_type, renamed_type}
use Rattle.fc_type_table.proofs.BinderKinds.{length-binder_kinds}
use Rattle.fc_type_table.proofs.Levels.{renaming_under, renaming_under-high}
use Rattle.fc_type_table.proofs.Overs.{IsTypeAt-scoped}
use Rattle.fc_type_table.specs.Binders.{AreScopedBinders}
use Rattle.fc_type_table.specs.Scopes.{IsTypeAt, shown_at}
use Rattle.fc_type_table.specs.declared.node.Node.{Node}
use Rattle.fc_type_table.specs.declared.node.TypeId.{TypeId}
use Rattle.fc_type_scope.specs.Behind.{IsEntered, binder_coercions, binder_kinds, binder_values, kinds_past}
use Rattle.fc_type_scope.specs.EndViews.{AreEndsAt, IsEndsAt, shown_all_ends_at, shown_ends_at}
use Rattle.fc_type_scope.specs.Scopes.{AreTypesAt, shown_all_at}
use Rattle.fc_type_scope.specs.declared.ends.Ends as proven
use Rattle.fc_type_scope.specs.declared.entering.Entered as code
use Rattle.fc_type_scope.proofs.Numbers.{AreTypesAt-head, AreTypesAt-tail}

-- what is scoped past m variables is scoped before them, below c binders of its own
renamed_scoped : (m : ℕ) (r : ℕ → ℕ) → ((i : ℕ) → r i ≡ i + m) → (n c : ℕ) (t : NTy) → IsScopedType ((n + m) + c) (renamed_type (renaming_under c r) t) → IsScopedType (n + c) t
renamed_scoped m r moves n c (NTVar i) h =
    elim (dec_lt i c) [
      | yes g ↦ omega arith
      | no g ↦ let up : c ≤ i = omega arith in omega (arith, renaming_under-high m r moves c i up)
    ]
renamed_scoped m r moves n c (NTCon k) h = tt
renamed_scoped m r moves n c NTInt h = tt
renamed_scoped m r moves n c (NTApp t u) h = (renamed_scoped m r moves n c t h.0, renamed_scoped m r moves n c u h.1)
renamed_scoped m r moves n c (NTFun t u) h = (renamed_scoped m r moves n c t h.0, renamed_scoped m r moves n c u h.1)
renamed_scoped m r moves n c (NTForall k t) h =
    let outside : suc ((n + m) + c) ≡ (n + m) + suc c = omega arith in
    let inside : n + suc c ≡ suc (n + c) = omega arith in
    subst (λ i. IsScopedType i t) inside (renamed_scoped m r moves n (suc c) t (subst (λ i. IsScopedType i (renamed_type (renaming_under (suc c) r) t)) outside h))
renamed_scoped m r moves n c (NTCoForall o t u v) h = (renamed_scoped m r moves n c t h.0, renamed_scoped m r moves n c u h.1, renamed_scoped m r moves n c v h.2)

earlier_scoped : (m n : ℕ) (t : NTy) → IsScopedType (n + m) (raised_type m t) → IsScopedType n t
earlier_scoped m n t h =
    let all : n + m ≡ (n + m) + 0 = omega arith in
    let none : n + 0 ≡ n = omega arith in
    subst (λ i. IsScopedType i t) none (renamed_scoped m (λ i. i + m) (λ i. refl) n 0 t (subst (λ i. IsScopedType i (raised_type m t)) all h))

-- a number that shows a type from before m variables
number_scoped : (ns : List Node) (ks : List Kind) (id n m : ℕ) (t : NTy) → length ks ≡ n + m → IsTypeAt ns ks id → shown_at ns ks id ≡ raised_type m t → IsScopedType n t
number_scoped ns ks id n m t long h s = earlier_scoped m n t (subst (λ i. IsScopedType i (raised_type m t)) long (subst (IsScopedType (length ks)) s (IsTypeAt-scoped ns ks id h)))

all_scoped : (ns : List Node) (ks : List Kind) (n : ℕ) (bs : List NBinder) (ids : List TypeId) (es : List proven.Ends) → length ks ≡ n + type_count bs
    → AreTypesAt ns ks ids → shown_all_at ns ks ids ≡ binder_values bs → AreEndsAt ns ks es → shown_all_ends_at ns ks es ≡ binder_coercions bs → AreScopedBinders n bs
unfolding binder_values binder_coercions shown_all_at shown_all_ends_at
all_scoped ns ks n [] ids es long ts v hs w = tt
all_scoped ns ks n (NBValue t ∷ bs) [] es long ts v hs w = absurd (cc)
all_scoped ns ks n (NBValue t ∷ bs) (id ∷ ids) es long ts v hs w =
    let head : shown_at ns ks id.0 ≡ raised_type (type_count bs) t = cc in
    let tail : shown_all_at ns ks ids ≡ binder_values bs = cc in
    (number_scoped ns ks id.0 n (type_count bs) t long (AreTypesAt-head ns ks id ids ts) head, all_scoped ns ks n bs ids es long (AreTypesAt-tail ns ks id ids ts) tail hs w)
all_scoped ns ks n (NBType k ∷ bs) ids es long ts v hs w = all_scoped ns ks (suc n) bs ids es (omega arith) ts v hs w
all_scoped ns ks n (NBCo r t u ∷ bs) ids [] long ts v hs w = absurd (cc)
all_scoped ns ks n (NBCo r t u ∷ bs) ids (e ∷ es) long ts v hs w =
    let head : shown_ends_at ns ks e ≡ ends r (raised_type (type_count bs) t) (raised_type (type_count bs) u) = cc in
    let left : shown_at ns ks e.left.0 ≡ raised_type (type_count bs) t = ap (λ (d : Ends). d.left) head in
    let right : shown_at ns ks e.right.0 ≡ raised_type (type_count bs) u = ap (λ (d : Ends). d.right) head in
    let tail : shown_all_ends_at ns ks es ≡ binder_coercions bs = cc in
    let here : IsEndsAt ns ks e = All-head (λ d. IsEndsAt ns ks d) e es hs.each in (
      number_scoped ns ks e.left.0 n (type_count bs) t long here.left left,
      number_scoped ns ks e.right.0 n (type_count bs) u long here.right right,
      all_scoped ns ks n bs ids es long ts v (record { each = All-tail (λ d. IsEndsAt ns ks d) e es hs.each }) tail,
    )

-- the types of binders that were entered stand where the binders do
pub entered_scoped : (ns : List Node) (ks : List Kind) (n : ℕ) (bs : List NBinder) (e : code.Entered) → n ≡ length ks → IsEntered ns ks bs e → AreScopedBinders n bs
unfolding kinds_past
entered_scoped ns ks n bs e is en =
    let long : length (kinds_past bs ks) ≡ n + type_count bs = omega (arith, length-append (reverse (binder_kinds bs)) ks, length-reverse (binder_kinds bs), length-binder_kinds bs) in
    all_scoped ns (kinds_past bs ks) n bs e.values e.coercions long en.valid en.view en.coercions_valid en.coercions_view
