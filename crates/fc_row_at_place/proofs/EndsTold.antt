-- Coercions prove the same among modules that declare the same types and axioms, or have the same first fault.
use Rattle.std.proofs.Common.{◌≡◌, ℕ, ◌+◌, Bool, not, List, ◌∷◌, length, map, Option, Some, None, Result, Ok, Err, refl, ap}
use Rattle.fc_syntax.specs.declared.ty.Name.{Name}
use Rattle.fc_syntax.specs.declared.ty.Role.{Role}
use Rattle.fc_syntax.specs.declared.ty.Role.TheVariants.{N, P}
use Rattle.fc_syntax.specs.declared.fault.FaultKind.TheVariants.{NotInjective, RoleWrong}
use Rattle.fc_syntax.specs.Tree.{Kind, KStar}
use Rattle.fc_model.specs.Calling.{application_ends}
use Rattle.fc_model.specs.Coercing.{Ends, Axiom, applied_ends, applied_to, are_at_roles, are_injective_applications, arrow_ends, axiom_ends, axiom_named, coforall_ends, coforall_kinded}
use Rattle.fc_model.specs.Coercing.{constructed_ends, declared_ends, ends, ends_or_fault, all_ends_or_fault, forall_ends, forall_parts, instance_ends, instantiated_ends, lefts, nth_ends, part_ends, part_of_one_kind, parts_of}
use Rattle.fc_model.specs.Coercing.{rights, shape_of, shifted_ends, side_ends, split_ends, then_ends}
use Rattle.fc_model.specs.Faulting.{F, and_then, at_distance, need, under}
use Rattle.fc_model.specs.Kinding.{Modules, name_kind, same_role}
use Rattle.fc_model.specs.Needs.{name_roles}
use Rattle.fc_model.specs.Nameless.{NTy, NTCon, NTApp}
use Rattle.fc_model.specs.Nameless.{NCo, NGVar, NGRefl, NGSym, NGTrans, NGTc, NGCapp, NGFun, NGAll, NGCoAll, NGInst, NGNth, NGLeft, NGRight, NGSub, NGAx, NGUniv, NCos, NoNCos, MoreNCos}
use Rattle.fc_model.proofs.Parts.{both_same}
use Rattle.fc_outlines.specs.Headers.{DeclareAlike}
use Rattle.fc_outlines.proofs.Alike.{families_alike, kinds_alike, parts_alike, roles_alike}
use Rattle.fc_row_at_place.proofs.KindsTold.{kind_told, kinded_told, of_kind_told, of_kinds_told, one_kind_told, one_value_kind_told, value_type_told}

-- a part that is judged the same, and then what is the same
part_same : {X Y : Type 0} (i : ℕ) {r s : Result X F} {f g : X → Result Y F} → r ≡ s → ((x : X) → f x ≡ g x) → and_then (under i r) f ≡ and_then (under i s) g
part_same i first second = both_same _ _ _ _ (ap (under i) first) second

module _ (ms ns : Modules) (alike : DeclareAlike ms ns) where
  -- DECLARED TYPES

  declared_told : (ks : List Kind) (k : Result Kind F) (e : Ends) → declared_ends ms ks k e ≡ declared_ends ns ks k e
  declared_told ks (Ok k) e = rw (kinded_told ms ns alike ks e.left e.right) refl
  declared_told ks (Err f) e = refl

  constructed_told : (ks : List Kind) (r : Role) (n : Name) (es : List Ends) → constructed_ends ms ks r n es ≡ constructed_ends ns ks r n es
  constructed_told ks r n es =
      let whole : Ends = ends r (applied_to (NTCon n) (lefts es)) (applied_to (NTCon n) (rights es)) in
      rw (roles_alike ms ns alike n, kinds_alike ms ns alike n (length es))
      (ap (need (are_at_roles r (name_roles ns n) es) RoleWrong) (declared_told ks (name_kind ns n (length es)) whole))

  -- APPLICATIONS, FUNCTIONS AND FORALLS

  applied_told : (ks : List Kind) (e d : Ends) → applied_ends ms ks e d ≡ applied_ends ns ks e d
  applied_told ks e d = rw (kinded_told ms ns alike ks (NTApp e.left d.left) (NTApp e.right d.right)) refl

  arrow_told : (ks : List Kind) (e d : Ends) → arrow_ends ms ks e d ≡ arrow_ends ns ks e d
  arrow_told ks e d = rw (one_value_kind_told ms ns alike ks e.left e.right, one_value_kind_told ms ns alike ks d.left d.right) refl

  forall_told : (ks : List Kind) (k : Kind) (e : Ends) → forall_ends ms ks k e ≡ forall_ends ns ks k e
  forall_told ks k e = rw (of_kind_told ms ns alike (k ∷ ks) KStar e.left e.right) refl

  coforall_kind_told : (ks : List Kind) (t u v : NTy) → coforall_kinded ms ks t u v ≡ coforall_kinded ns ks t u v
  coforall_kind_told ks t u v = rw (one_kind_told ms ns alike ks t u, value_type_told ms ns alike ks v) refl

  coforall_told : (ks : List Kind) (r s : Role) (e d b : Ends) → coforall_ends ms ks r s e d b ≡ coforall_ends ns ks r s e d b
  coforall_told ks r s e d b = rw (coforall_kind_told ks e.left d.left b.left, coforall_kind_told ks e.right d.right b.right) refl

  instantiated_told : (ks : List Kind) (r : Role) (o p : Option (Kind × NTy)) (e : Ends) → instantiated_ends ms ks r o p e ≡ instantiated_ends ns ks r o p e
  instantiated_told ks r (Some (j, t)) (Some (k, u)) e = rw (of_kind_told ms ns alike ks j e.left e.right) refl
  instantiated_told ks r (Some p) None e = refl
  instantiated_told ks r None q e = refl

  instance_told : (ks : List Kind) (e d : Ends) → instance_ends ms ks e d ≡ instance_ends ns ks e d
  instance_told ks e d = instantiated_told ks e.role (forall_parts e.left) (forall_parts e.right) d

  -- PARTS

  one_part_told : (ks : List Kind) (r : Result Ends F) → part_of_one_kind ms ks r ≡ part_of_one_kind ns ks r
  one_part_told ks (Ok e) = rw (one_kind_told ms ns alike ks e.left e.right) refl
  one_part_told ks (Err f) = refl

  nth_told : (ks : List Kind) (i : ℕ) (o : Option (List Ends)) → nth_ends ms ks i o ≡ nth_ends ns ks i o
  nth_told ks i (Some es) = one_part_told ks (at_distance es i)
  nth_told ks i None = refl

  part_told : (ks : List Kind) (i : ℕ) (e : Ends) → part_ends ms ks i e ≡ part_ends ns ks i e
  part_told ks i e =
      let parts = parts_alike ms ns alike e.role (shape_of e.left) (shape_of e.right) in
      rw parts (ap (need (not (same_role e.role P)) NotInjective) (nth_told ks i (parts_of ns e.role (shape_of e.left) (shape_of e.right))))

  split_told : (ks : List Kind) (side : NTy × NTy → NTy) {a b : Bool} → a ≡ b → (o p : Option (NTy × NTy)) → split_ends ms ks side a o p ≡ split_ends ns ks side b o p
  split_told ks side h (Some p) (Some q) = rw (h, one_kind_told ms ns alike ks (side p) (side q)) refl
  split_told ks side h (Some p) None = refl
  split_told ks side h None q = refl

  side_told : (ks : List Kind) (side : NTy × NTy → NTy) (e : Ends) → side_ends ms ks side e ≡ side_ends ns ks side e
  side_told ks side e =
      let apart : are_injective_applications ms e.left e.right ≡ are_injective_applications ns e.left e.right =
      rw (families_alike ms ns alike 0 e.left, families_alike ms ns alike 0 e.right) refl in
      ap (need (same_role e.role N) RoleWrong) (split_told ks side apart (application_ends e.left) (application_ends e.right))

  -- AXIOMS

  at_axiom_told : (ks : List Kind) (o : Option Axiom) (es : List Ends) → axiom_ends ms ks o es ≡ axiom_ends ns ks o es
  at_axiom_told ks (Some a) es = rw (of_kinds_told ms ns alike ks a.params es) refl
  at_axiom_told ks None es = refl

  axiom_told : (ks : List Kind) (n : Name) (es : List Ends) → axiom_ends ms ks (axiom_named ms n) es ≡ axiom_ends ns ks (axiom_named ns n) es
  axiom_told ks n es = rw (alike.axioms n.module n.text) (at_axiom_told ks (axiom_named ns n) es)

  -- COERCIONS

  mutual
    pub ends_told : (ks : List Kind) (cs : List Ends) (g : NCo) → ends_or_fault ms ks cs g ≡ ends_or_fault ns ks cs g
    ends_told ks cs (NGVar i) = refl
    ends_told ks cs (NGRefl r t) = rw (kind_told ms ns alike ks t) refl
    ends_told ks cs (NGSym g) = rw (ends_told ks cs g) refl
    ends_told ks cs (NGTrans g h) = rw (ends_told ks cs g, ends_told ks cs h) refl
    ends_told ks cs (NGTc r n gs) = both_same _ _ _ _ (all_told ks cs 0 gs) (constructed_told ks r n)
    ends_told ks cs (NGCapp g h) = part_same 0 (ends_told ks cs g) (λ e. part_same 1 (ends_told ks cs h) (applied_told ks e))
    ends_told ks cs (NGFun g h) = part_same 0 (ends_told ks cs g) (λ e. part_same 1 (ends_told ks cs h) (arrow_told ks e))
    ends_told ks cs (NGAll k g) = part_same 0 (ends_told (k ∷ ks) (map shifted_ends cs) g) (forall_told ks k)
    ends_told ks cs (NGCoAll r s f g h) =
        part_same 0 (ends_told ks cs f) (λ e. part_same 1 (ends_told ks cs g) (λ d. part_same 2 (ends_told ks cs h) (coforall_told ks r s e d)))
    ends_told ks cs (NGInst g h) = part_same 0 (ends_told ks cs g) (λ e. part_same 1 (ends_told ks cs h) (instance_told ks e))
    ends_told ks cs (NGNth i g) = part_same 0 (ends_told ks cs g) (part_told ks i)
    ends_told ks cs (NGLeft g) = part_same 0 (ends_told ks cs g) (side_told ks (λ p. p.0))
    ends_told ks cs (NGRight g) = part_same 0 (ends_told ks cs g) (side_told ks (λ p. p.1))
    ends_told ks cs (NGSub g) = rw (ends_told ks cs g) refl
    ends_told ks cs (NGAx n gs) = both_same _ _ _ _ (all_told ks cs 0 gs) (axiom_told ks n)
    ends_told ks cs (NGUniv t u) = rw (kind_told ms ns alike ks t, kind_told ms ns alike ks u) refl

    all_told : (ks : List Kind) (cs : List Ends) (i : ℕ) (gs : NCos) → all_ends_or_fault ms ks cs i gs ≡ all_ends_or_fault ns ks cs i gs
    all_told ks cs i NoNCos = refl
    all_told ks cs i (MoreNCos g rest) = part_same i (ends_told ks cs g) (λ e. ap (then_ends e) (all_told ks cs (i + 1) rest))
