-- Two `forall`s at what coercions relate, one after the other.
use Rattle.std.proofs.Common.{◌≡◌, ℕ, ◌+◌, ◌<◌, ◌≤◌, List, drop, get_or, length, Option, Some, None, refl, sym, ap, ◌∙◌}
use Rattle.std.proofs.lemmas.Option.{same_Some}
use Rattle.fc_syntax.specs.Tree.{Kind}
use Rattle.fc_model.specs.Calling.{at_type, at_types, from_some}
use Rattle.fc_model.specs.Coercing.{Ends, lefts, rights}
use Rattle.fc_model.specs.Nameless.{NTy}
use Rattle.fc_type_scope.proofs.Proven.{shown_ends-grows}
use Rattle.fc_type_scope.specs.EndViews.{AreEndsAt, shown_all_ends_at, shown_ends_at}
use Rattle.fc_type_scope.specs.declared.ends.Ends as code
use Rattle.fc_type_table.specs.Nodes.{Extends}
use Rattle.fc_type_table.specs.declared.node.Node.{Node}
use Rattle.fc_coercion_forms.specs.Axioms.{both_of, sides_at}
use Rattle.fc_coercion_forms.proofs.Ends.{ends-end, ends-step, no_ends}
use Rattle.fc_coercion_forms.proofs.Groups.{ends-at}

not_both : (o : Option NTy) → both_of o None ≡ None
not_both (Some t) = refl
not_both None = refl

both-none : (f g : NTy → Option NTy) (p q : Option NTy) → None ≡ both_of p q → both_of (from_some f p) (from_some g q) ≡ None
both-none f g None q h = refl
both-none f g (Some t) None h = not_both (f t)
both-none f g (Some t) (Some u) h = cc

both-some : (f g : NTy → Option NTy) (p q : Option NTy) (x y : NTy) → Some (x, y) ≡ both_of p q → both_of (from_some f p) (from_some g q) ≡ both_of (f x) (g y)
both-some f g None q x y h = cc
both-some f g (Some t) None x y h = cc
both-some f g (Some t) (Some u) x y h = let e : (x, y) ≡ (t, u) = same_Some (x, y) (t, u) h in ap (λ (z : NTy × NTy). both_of (f z.0) (g z.1)) (sym e)

-- the first of those that are to come, seen in a table that grew
first : (ks : List Kind) (old new : List Node) (group : List code.Ends) (i : ℕ) (t u : NTy) (o : Option (NTy × NTy)) → i < length group → Extends old new → AreEndsAt old ks group
    → o ≡ both_of (at_type t (shown_ends_at new ks (get_or group i no_ends)).left) (at_type u (shown_ends_at new ks (get_or group i no_ends)).right)
    → o ≡ both_of (at_type t (shown_ends_at old ks (get_or group i no_ends)).left) (at_type u (shown_ends_at old ks (get_or group i no_ends)).right)
first ks old new group i t u o low more valid h =
    h ∙ ap (λ (e : Ends). both_of (at_type t e.left) (at_type u e.right)) (shown_ends-grows old new ks (get_or group i no_ends) more (ends-at old ks group i low valid))

pub sides-none : (ks : List Kind) (old new : List Node) (group : List code.Ends) (i : ℕ) (t u : NTy) (whole : Option (NTy × NTy)) → i < length group → Extends old new
    → AreEndsAt old ks group
    → whole ≡ sides_at t u (shown_all_ends_at old ks (drop i group))
    → None ≡ both_of (at_type t (shown_ends_at new ks (get_or group i no_ends)).left) (at_type u (shown_ends_at new ks (get_or group i no_ends)).right) → None ≡ whole
sides-none ks old new group i t u whole low more valid so_far h =
    let rest = shown_all_ends_at old ks (drop (i + 1) group) in
    let e = shown_ends_at old ks (get_or group i no_ends) in
    sym (so_far ∙ ap (sides_at t u) (ends-step old ks group i no_ends low)
    ∙ both-none (λ v. at_types v (lefts rest)) (λ v. at_types v (rights rest)) (at_type t e.left) (at_type u e.right) (first ks old new group i t u None low more valid h))

pub sides-some : (ks : List Kind) (old new : List Node) (group : List code.Ends) (i : ℕ) (t u x y : NTy) (whole : Option (NTy × NTy)) → i < length group → Extends old new
    → AreEndsAt old ks group
    → whole ≡ sides_at t u (shown_all_ends_at old ks (drop i group))
    → Some (x, y) ≡ both_of (at_type t (shown_ends_at new ks (get_or group i no_ends)).left) (at_type u (shown_ends_at new ks (get_or group i no_ends)).right)
    → whole ≡ sides_at x y (shown_all_ends_at old ks (drop (i + 1) group))
sides-some ks old new group i t u x y whole low more valid so_far h =
    let rest = shown_all_ends_at old ks (drop (i + 1) group) in
    let e = shown_ends_at old ks (get_or group i no_ends) in
    so_far ∙ ap (sides_at t u) (ends-step old ks group i no_ends low)
    ∙ both-some (λ v. at_types v (lefts rest)) (λ v. at_types v (rights rest)) (at_type t e.left) (at_type u e.right) x y
    (first ks old new group i t u (Some (x, y)) low more valid h)

pub sides-end : (ks : List Kind) (ns : List Node) (group : List code.Ends) (i : ℕ) (t u : NTy) (whole : Option (NTy × NTy)) → length group ≤ i
    → whole ≡ sides_at t u (shown_all_ends_at ns ks (drop i group)) → Some (t, u) ≡ whole
sides-end ks ns group i t u whole far so_far = sym (so_far ∙ ap (sides_at t u) (ends-end ns ks group i far))
