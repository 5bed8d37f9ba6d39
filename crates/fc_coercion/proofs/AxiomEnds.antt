-- An axiom at what coercions relate, where they fit its parameters and where they do not.
use Rattle.std.proofs.Common.{◌≡◌, ◌∙◌, refl, sym, ap, Bool, true, false, List, [], length, nat_eq, Option, Some, None, Result, Ok, Err}
use Rattle.fc_syntax.specs.Tree.{Kind}
use Rattle.fc_syntax.specs.declared.fault.FaultKind.{FaultKind}
use Rattle.fc_syntax.specs.declared.fault.FaultKind.TheVariants.{AxiomArity, KindsDiffer, RoleWrong, Unbound}
use Rattle.fc_syntax.specs.declared.ty.Role.{Role}
use Rattle.fc_model.proofs.Sameness.{nat_eq_eq}
use Rattle.fc_model.specs.Coercing.{Axiom, Ends, are_at_roles, are_of_kinds, at_parameters, axiom_ends, ends, lefts, rights}
use Rattle.fc_model.specs.Faulting.{F, At, and_then, need}
use Rattle.fc_model.specs.Kinding.{Modules}
use Rattle.fc_model.specs.Nameless.{NTy}
use Rattle.fc_model.specs.Says.{Refuses, Says}
use Rattle.fc_model.specs.declared.flaw.Flawed.{Flawed}
use Rattle.fc_coercion_forms.specs.Axioms.{fits_or_fault, sides_at}
use Rattle.fc_lint_context.proofs.Faults.{fails}
use Rattle.fc_lint_context.specs.DeclaredViews.{over_kinds}
use Rattle.fc_coercion.proofs.AxiomSides.{sides_at_parameters}

three_needed : {X Y : Type 0} (a b c : Bool) (i j k : FaultKind) (x : X) (go : X → Result Y F)
    → need a i (need b j (need c k (go x))) ≡ and_then (need a i (need b j (need c k (Ok x)))) go
three_needed true true true i j k x go = refl
three_needed true true false i j k x go = refl
three_needed true false c i j k x go = refl
three_needed false b c i j k x go = refl

three_hold : {X : Type 0} (a b c : Bool) (i j k : FaultKind) (x y : X) → need a i (need b j (need c k (Ok x))) ≡ Ok y → (a ≡ true) × (x ≡ y)
three_hold true true true i j k x y h = (refl, cc)
three_hold true true false i j k x y h = absurd cc
three_hold true false c i j k x y h = absurd cc
three_hold false b c i j k x y h = absurd cc

none_some : {X : Type 0} (x : X) (o : Option X) → None ≡ o → o ≡ Some x → ⊥
none_some x (Some y) h e = cc
none_some x None h e = cc

made : Role → Option (NTy × NTy) → Result Ends F
made r (Some p) = Ok (ends r p.0 p.1)
made r None = Err (At Unbound None [])

module _ (ms : Modules) (ks : List Kind) (es : List Ends) where
  at_sides : Option Axiom → Result Ends F
  at_sides (Some a) = Ok (record { role = a.ends.role; left = at_parameters (lefts es) a.ends.left; right = at_parameters (rights es) a.ends.right })
  at_sides None = Err (At Unbound None [])

  axiom_is : (a : Option Axiom) → axiom_ends ms ks a es ≡ and_then (fits_or_fault ms ks a es) (λ r. at_sides a)
  unfolding at_sides
  axiom_is (Some a) =
      three_needed (nat_eq (length es) (length a.params)) (are_at_roles a.ends.role a.roles es) (are_of_kinds ms ks a.params es) AxiomArity RoleWrong KindsDiffer a.ends.role
      (λ r. at_sides (Some a))
  axiom_is None = refl

  pub axiom_fails : {X : Type 0} (v : X → Ends) (answer : Result X Flawed) (a : Option Axiom) (f : Flawed) → Refuses f (fits_or_fault ms ks a es) → answer ≡ Err f → Says v answer (axiom_ends ms ks a es)
  axiom_fails v answer a f h is = rw (axiom_is a) (fails _ _ _ _ _ h is)

  -- the sides of the axiom, if there is one
  module _ (l u : NTy) where
    abbrev pub AreSides : Option Axiom → Type 0
    AreSides a = (x : Axiom) → a ≡ Some x → (l ≡ over_kinds x.params x.ends.left) × (u ≡ over_kinds x.params x.ends.right)

    found_sides : (x : Axiom) (r : Role) → fits_or_fault ms ks (Some x) es ≡ Ok r → AreSides (Some x)
        → (x.ends.role ≡ r) × (sides_at l u es ≡ Some (at_parameters (lefts es) x.ends.left, at_parameters (rights es) x.ends.right))
    found_sides x r fits shows =
        let h =
        three_hold (nat_eq (length es) (length x.params)) (are_at_roles x.ends.role x.roles es) (are_of_kinds ms ks x.params es) AxiomArity RoleWrong KindsDiffer x.ends.role r
        fits in
        let s = shows x refl in (
          h.1,
          ap (λ t. sides_at t u es) s.0 ∙ ap (λ t. sides_at (over_kinds x.params x.ends.left) t es) s.1
              ∙ sides_at_parameters x.params x.ends.left x.ends.right es (nat_eq_eq (length es) (length x.params) h.0),
        )

    pub axiom_answers : (a : Option Axiom) (r : Role) (s t : NTy) → fits_or_fault ms ks a es ≡ Ok r → AreSides a → Some (s, t) ≡ sides_at l u es
        → axiom_ends ms ks a es ≡ Ok (ends r s t)
    unfolding at_sides made
    axiom_answers (Some x) r s t fits shows at =
        let h = found_sides x r fits shows in
        let both : Some (s, t) ≡ Some (at_parameters (lefts es) x.ends.left, at_parameters (rights es) x.ends.right) = at ∙ h.1 in
        let role : x.ends.role ≡ r = h.0 in
        axiom_is (Some x) ∙ ap (λ q. and_then q (λ r. at_sides (Some x))) fits ∙ ap (made x.ends.role) (sym both) ∙ ap (λ q. made q (Some (s, t))) role
    axiom_answers None r s t fits shows at = absurd cc

    pub sides_found : {X : Type 0} (a : Option Axiom) (r : Role) → fits_or_fault ms ks a es ≡ Ok r → AreSides a → None ≡ sides_at l u es → X
    sides_found (Some x) r fits shows at =
        absurd (none_some (at_parameters (lefts es) x.ends.left, at_parameters (rights es) x.ends.right) (sides_at l u es) at (found_sides x r fits shows).1)
    sides_found None r fits shows at = absurd cc
