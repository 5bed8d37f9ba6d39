-- What coercions prove, several together: the first of those that are still to come.
use Rattle.std.proofs.Common.{◌≡◌, ◌∙◌, ℕ, true, false, ◌&&◌, ◌+◌, ◌<◌, ◌≤◌, List, [], ◌∷◌, drop, get_or, length, refl, sym, ap, add-one, drop-cons}
use Rattle.std.proofs.Math.ListN.{drop_of_length-le}
use Rattle.std.proofs.lemmas.List.{length-map}
use Rattle.std.proofs.lemmas.List.Elements.{All-drop}
use Rattle.fc_syntax.specs.declared.ty.Role.{Role}
use Rattle.fc_syntax.specs.declared.ty.Role.TheVariants.{N}
use Rattle.fc_syntax.specs.Tree.{Kind}
use Rattle.fc_model.specs.Coercing.{applied_to, are_at_roles, lefts, rights}
use Rattle.fc_model.specs.Kinding.{same_role}
use Rattle.fc_model.specs.Needs.{later_roles, next_role, role_within}
use Rattle.fc_model.specs.Nameless.{NTy, NTApp}
use Rattle.fc_type_scope.proofs.Proven.{shown_all_ends-grows}
use Rattle.fc_type_scope.specs.EndViews.{AreEndsAt, IsEndsAt, shown_all_ends_at, shown_ends_at}
use Rattle.fc_type_scope.specs.declared.ends.Ends as code
use Rattle.fc_type_table.specs.Nodes.{Extends}
use Rattle.fc_type_table.specs.Scopes.{shown_at}
use Rattle.fc_type_table.specs.declared.node.Node.{Node}

ends-cons : (ns : List Node) (ks : List Kind) (e : code.Ends) (es : List code.Ends) → shown_all_ends_at ns ks (e ∷ es) ≡ shown_ends_at ns ks e ∷ shown_all_ends_at ns ks es
unfolding shown_all_ends_at
ends-cons ns ks e es = refl

ends-none : (ns : List Node) (ks : List Kind) → shown_all_ends_at ns ks [] ≡ []
unfolding shown_all_ends_at
ends-none ns ks = refl

drop_at : (es : List code.Ends) (i : ℕ) (d : code.Ends) → i < length es → drop i es ≡ get_or es i d ∷ drop (i + 1) es
drop_at es i d low = rw add-one (drop-cons es i d low)

-- the one at an index, before the rest
pub ends-step : (ns : List Node) (ks : List Kind) (es : List code.Ends) (i : ℕ) (d : code.Ends) → i < length es
    → shown_all_ends_at ns ks (drop i es) ≡ shown_ends_at ns ks (get_or es i d) ∷ shown_all_ends_at ns ks (drop (i + 1) es)
ends-step ns ks es i d low = ap (shown_all_ends_at ns ks) (drop_at es i d low) ∙ ends-cons ns ks (get_or es i d) (drop (i + 1) es)

pub ends-end : (ns : List Node) (ks : List Kind) (es : List code.Ends) (i : ℕ) → length es ≤ i → shown_all_ends_at ns ks (drop i es) ≡ []
ends-end ns ks es i far = ap (shown_all_ends_at ns ks) (drop_of_length-le es far) ∙ ends-none ns ks

-- ROLES

-- the default of src
abbrev pub no_ends : code.Ends
no_ends = record { role = N; left = record { 0 = 0 }; right = record { 0 = 0 } }

-- the first of those that are to come is at its role or not
pub not_at_role : (r : Role) (rs : List Role) (ns : List Node) (ks : List Kind) (es : List code.Ends) (i : ℕ) → i < length es
    → same_role (get_or es i no_ends).role (role_within r (next_role rs)) ≡ false → are_at_roles r rs (shown_all_ends_at ns ks (drop i es)) ≡ false
not_at_role r rs ns ks es i low h =
    ap (are_at_roles r rs) (ends-step ns ks es i no_ends low) ∙ ap (λ b. b && are_at_roles r (later_roles rs) (shown_all_ends_at ns ks (drop (i + 1) es))) h

pub at_role_too : (r : Role) (rs later : List Role) (ns : List Node) (ks : List Kind) (es : List code.Ends) (i : ℕ) → i < length es
    → same_role (get_or es i no_ends).role (role_within r (next_role rs)) ≡ true → later ≡ later_roles rs
    → are_at_roles r rs (shown_all_ends_at ns ks (drop i es)) ≡ are_at_roles r later (shown_all_ends_at ns ks (drop (i + 1) es))
at_role_too r rs later ns ks es i low h e =
    ap (are_at_roles r rs) (ends-step ns ks es i no_ends low) ∙ ap (λ b. b && are_at_roles r (later_roles rs) (shown_all_ends_at ns ks (drop (i + 1) es))) h
    ∙ ap (λ os. are_at_roles r os (shown_all_ends_at ns ks (drop (i + 1) es))) (sym e)

pub none_at_roles : (r : Role) (rs : List Role) (ns : List Node) (ks : List Kind) (es : List code.Ends) (i : ℕ) → length es ≤ i
    → are_at_roles r rs (shown_all_ends_at ns ks (drop i es)) ≡ true
none_at_roles r rs ns ks es i far = ap (are_at_roles r rs) (ends-end ns ks es i far)

-- ONE AFTER THE OTHER

pub length-ends : (ns : List Node) (ks : List Kind) (es : List code.Ends) → length (shown_all_ends_at ns ks es) ≡ length es
unfolding shown_all_ends_at
length-ends ns ks es = length-map es (λ (e : code.Ends). shown_ends_at ns ks e)

AreEndsAt-drop : (ns : List Node) (ks : List Kind) (i : ℕ) (es : List code.Ends) → AreEndsAt ns ks es → AreEndsAt ns ks (drop i es)
AreEndsAt-drop ns ks i es h = record { each = All-drop (λ (e : code.Ends). IsEndsAt ns ks e) i es h.each }

ends-grow-rest : (old new : List Node) (ks : List Kind) (es : List code.Ends) (i : ℕ) → Extends old new → AreEndsAt old ks es
    → shown_all_ends_at new ks (drop i es) ≡ shown_all_ends_at old ks (drop i es)
ends-grow-rest old new ks es i more h = shown_all_ends-grows old new ks (drop i es) more (AreEndsAt-drop old ks i es h)

-- one more argument, while the table grew
pub applied_left : (old new : List Node) (ks : List Kind) (es : List code.Ends) (i : ℕ) (t u : NTy) → i < length es
    → Extends old new → AreEndsAt old ks es → u ≡ NTApp t (shown_at old ks (get_or es i no_ends).left.0)
    → applied_to t (lefts (shown_all_ends_at old ks (drop i es))) ≡ applied_to u (lefts (shown_all_ends_at new ks (drop (i + 1) es)))
applied_left old new ks es i t u low more h e =
    ap (λ xs. applied_to t (lefts xs)) (ends-step old ks es i no_ends low) ∙ ap (λ v. applied_to v (lefts (shown_all_ends_at old ks (drop (i + 1) es)))) (sym e)
    ∙ ap (λ xs. applied_to u (lefts xs)) (sym (ends-grow-rest old new ks es (i + 1) more h))

pub applied_right : (old new : List Node) (ks : List Kind) (es : List code.Ends) (i : ℕ) (t u : NTy) → i < length es
    → Extends old new → AreEndsAt old ks es → u ≡ NTApp t (shown_at old ks (get_or es i no_ends).right.0)
    → applied_to t (rights (shown_all_ends_at old ks (drop i es))) ≡ applied_to u (rights (shown_all_ends_at new ks (drop (i + 1) es)))
applied_right old new ks es i t u low more h e =
    ap (λ xs. applied_to t (rights xs)) (ends-step old ks es i no_ends low) ∙ ap (λ v. applied_to v (rights (shown_all_ends_at old ks (drop (i + 1) es)))) (sym e)
    ∙ ap (λ xs. applied_to u (rights xs)) (sym (ends-grow-rest old new ks es (i + 1) more h))

pub applied_left-end : (ns : List Node) (ks : List Kind) (es : List code.Ends) (i : ℕ) (t : NTy) → length es ≤ i → applied_to t (lefts (shown_all_ends_at ns ks (drop i es))) ≡ t
applied_left-end ns ks es i t far = ap (λ xs. applied_to t (lefts xs)) (ends-end ns ks es i far)

pub applied_right-end : (ns : List Node) (ks : List Kind) (es : List code.Ends) (i : ℕ) (t : NTy) → length es ≤ i → applied_to t (rights (shown_all_ends_at ns ks (drop i es))) ≡ t
applied_right-end ns ks es i t far = ap (λ xs. applied_to t (rights xs)) (ends-end ns ks es i far)
