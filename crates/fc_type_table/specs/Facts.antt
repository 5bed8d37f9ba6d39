-- That a table is right is a fact: kinds and trees are told apart.
use Rattle.std.specs.Prelude.{◌≡◌, ℕ, List, Option, Some, None, IfSome, refl, Bool, true, false, ◌&&◌, nat_eq}
use Rattle.std.specs.Coded.{×_prop, Unit-prop}
use Rattle.std.proofs.Props.{props}
use Rattle.fc_syntax.specs.Tree.{Kind, KStar, KHash, KArrow}
use Rattle.fc_model.specs.Kinding.{Modules}
use Rattle.fc_type_table.specs.Trees.{Tree, LStar, LHash, LArrow, LBound, LFree, LCon, LInt, LApp, LFun, LForall, LCoForall}
use Rattle.fc_type_table.specs.TreeKinds.{IsKind}
use Rattle.fc_type_table.specs.Nodes.{HasKinds, IsKindAt, IsTable, Judges}
use Rattle.fc_type_table.specs.declared.node.Judged.{Judged}
use Rattle.fc_type_table.specs.declared.node.NameKey.{NameKey}
use Rattle.fc_type_table.specs.declared.node.Node.{Node}
use Rattle.fc_type_table.specs.declared.node.TypeId.{TypeId}
use Rattle.std.proofs.lemmas.Bool.{and_parts}
use Rattle.indexmap.specs.IndexMap.{IndexMap}
use Rattle.fc_model.specs.Kinding.{same_name, same_role}
use Rattle.fc_model.proofs.Sameness.{false_true, nat_eq_eq, nat_eq_refl, same_name_eq, same_name_refl, same_role_eq, same_role_refl}
use Rattle.fc_type_table.specs.Instances.{Instances, NamesNoted}
use Rattle.fc_type_table.specs.declared.instance.Instance.{Instance}
use mathlib.Core.HLevel.{hedberg}
use mathlib.Core.Path.{◌∙◌, ap, sym}
use Prim.{Dec, yes, no}

kind_decided : (j k : Kind) → Dec (j ≡ k)
kind_decided KStar KStar = yes refl
kind_decided KHash KHash = yes refl
kind_decided (KArrow a b) (KArrow c d) =
    elim (kind_decided a c) [
      | yes p ↦ elim (kind_decided b d) [
        | yes q ↦ yes (cc)
        | no n ↦ no (λ e. n (cc))
      ]
      | no n ↦ no (λ e. n (cc))
    ]
kind_decided KStar KHash = no (λ e. cc)
kind_decided KStar (KArrow c d) = no (λ e. cc)
kind_decided KHash KStar = no (λ e. cc)
kind_decided KHash (KArrow c d) = no (λ e. cc)
kind_decided (KArrow a b) KStar = no (λ e. cc)
kind_decided (KArrow a b) KHash = no (λ e. cc)

maybe_kind_decided : (j k : Option Kind) → Dec (j ≡ k)
maybe_kind_decided None None = yes refl
maybe_kind_decided None (Some k) = no (λ e. cc)
maybe_kind_decided (Some j) None = no (λ e. cc)
maybe_kind_decided (Some j) (Some k) =
    elim (kind_decided j k) [
      | yes p ↦ yes (cc)
      | no n ↦ no (λ e. n (cc))
    ]

maybe_kind_set : IsSet (Option Kind)
maybe_kind_set = hedberg maybe_kind_decided

IsKind_prop : (t : Tree) → IsProp (IsKind t)
IsKind_prop LStar = Unit-prop
IsKind_prop LHash = Unit-prop
IsKind_prop (LArrow a b) = ×_prop (IsKind_prop a) (IsKind_prop b)
IsKind_prop (LBound i k) = λ x y. absurd x
IsKind_prop (LFree l k) = λ x y. absurd x
IsKind_prop (LCon n) = λ x y. absurd x
IsKind_prop LInt = λ x y. absurd x
IsKind_prop (LApp t u) = λ x y. absurd x
IsKind_prop (LFun t u) = λ x y. absurd x
IsKind_prop (LForall k t) = λ x y. absurd x
IsKind_prop (LCoForall r a b t) = λ x y. absurd x

HasKinds_prop : (t : Tree) → IsProp (HasKinds t)
HasKinds_prop LStar = Unit-prop
HasKinds_prop LHash = Unit-prop
HasKinds_prop (LArrow a b) = Unit-prop
HasKinds_prop (LBound i k) = IsKind_prop k
HasKinds_prop (LFree l k) = IsKind_prop k
HasKinds_prop (LCon n) = Unit-prop
HasKinds_prop LInt = Unit-prop
HasKinds_prop (LApp t u) = Unit-prop
HasKinds_prop (LFun t u) = Unit-prop
HasKinds_prop (LForall k t) = Unit-prop
HasKinds_prop (LCoForall r a b t) = Unit-prop

IsKindAt_prop : (ns : List Node) (id : ℕ) → IsProp (IsKindAt ns id)
IsKindAt_prop ns id = hlevel (props, IsKind_prop)

told_prop : (ns : List Node) (o : Option TypeId) → IsProp (IfSome o (λ k. IsKindAt ns k.0))
told_prop ns None = Unit-prop
told_prop ns (Some k) = IsKindAt_prop ns k.0

Judges_prop : (ms : Modules) (ns : List Node) (t : Tree) (j : Judged) → IsProp (Judges ms ns t j)
Judges_prop ms ns t j = hlevel (props, told_prop, maybe_kind_set)

-- that a table is right is a fact
pub IsTable_prop : (ms : Modules) (ns : List Node) → IsProp (IsTable ms ns)
IsTable_prop ms ns = hlevel (props, HasKinds_prop, Judges_prop)

-- ---- trees are told apart

abbrev same_tree : Tree → Tree → Bool
same_tree LStar LStar = true
same_tree LHash LHash = true
same_tree (LArrow a b) (LArrow c d) = same_tree a c && same_tree b d
same_tree (LBound i j) (LBound k l) = nat_eq i k && same_tree j l
same_tree (LFree i j) (LFree k l) = nat_eq i k && same_tree j l
same_tree (LCon m) (LCon n) = same_name m n
same_tree LInt LInt = true
same_tree (LApp a b) (LApp c d) = same_tree a c && same_tree b d
same_tree (LFun a b) (LFun c d) = same_tree a c && same_tree b d
same_tree (LForall a b) (LForall c d) = same_tree a c && same_tree b d
same_tree (LCoForall r a b t) (LCoForall s c d u) = (same_role r s && same_tree a c) && (same_tree b d && same_tree t u)
same_tree s t = false

both : {a b : Bool} → a ≡ true → b ≡ true → a && b ≡ true
both p q = rw (p, q) refl

same_tree-refl : (t : Tree) → same_tree t t ≡ true
same_tree-refl LStar = refl
same_tree-refl LHash = refl
same_tree-refl (LArrow a b) = both (same_tree-refl a) (same_tree-refl b)
same_tree-refl (LBound i k) = both (nat_eq_refl i) (same_tree-refl k)
same_tree-refl (LFree l k) = both (nat_eq_refl l) (same_tree-refl k)
same_tree-refl (LCon n) = same_name_refl n
same_tree-refl LInt = refl
same_tree-refl (LApp a b) = both (same_tree-refl a) (same_tree-refl b)
same_tree-refl (LFun a b) = both (same_tree-refl a) (same_tree-refl b)
same_tree-refl (LForall a b) = both (same_tree-refl a) (same_tree-refl b)
same_tree-refl (LCoForall r a b t) = both (both (same_role_refl r) (same_tree-refl a)) (both (same_tree-refl b) (same_tree-refl t))

same_tree-eq : (t u : Tree) → same_tree t u ≡ true → t ≡ u
same_tree-eq LStar LStar e = refl
same_tree-eq LHash LHash e = refl
same_tree-eq (LArrow a b) (LArrow c d) e = let p = and_parts (same_tree a c) (same_tree b d) e in cc (same_tree-eq a c p.0, same_tree-eq b d p.1)
same_tree-eq (LBound i j) (LBound k l) e = let p = and_parts (nat_eq i k) (same_tree j l) e in cc (nat_eq_eq i k p.0, same_tree-eq j l p.1)
same_tree-eq (LFree i j) (LFree k l) e = let p = and_parts (nat_eq i k) (same_tree j l) e in cc (nat_eq_eq i k p.0, same_tree-eq j l p.1)
same_tree-eq (LCon m) (LCon n) e = ap LCon (same_name_eq m n e)
same_tree-eq LInt LInt e = refl
same_tree-eq (LApp a b) (LApp c d) e = let p = and_parts (same_tree a c) (same_tree b d) e in cc (same_tree-eq a c p.0, same_tree-eq b d p.1)
same_tree-eq (LFun a b) (LFun c d) e = let p = and_parts (same_tree a c) (same_tree b d) e in cc (same_tree-eq a c p.0, same_tree-eq b d p.1)
same_tree-eq (LForall a b) (LForall c d) e = let p = and_parts (same_tree a c) (same_tree b d) e in cc (same_tree-eq a c p.0, same_tree-eq b d p.1)
same_tree-eq (LCoForall r a b t) (LCoForall s c d u) e =
    let p = and_parts (same_role r s && same_tree a c) (same_tree b d && same_tree t u) e in
    let x = and_parts (same_role r s) (same_tree a c) p.0 in
    let y = and_parts (same_tree b d) (same_tree t u) p.1 in
    cc (same_role_eq r s x.0, same_tree-eq a c x.1, same_tree-eq b d y.0, same_tree-eq t u y.1)
same_tree-eq t u e = false_true e

tree_decided : (t u : Tree) → Dec (t ≡ u)
tree_decided t u = by (same_tree t u) refl
  where
    by : (b : Bool) → same_tree t u ≡ b → Dec (t ≡ u)
    by true e = yes (same_tree-eq t u e)
    by false e = no (λ p. false_true (sym e ∙ ap (λ x. same_tree t x) (sym p) ∙ same_tree-refl t))

Tree_set : IsSet Tree
Tree_set = hedberg tree_decided

-- that what is noted is right is a fact
pub Instances_prop : {S : Type 0} (ns : List Node) (done : IndexMap Instance TypeId S) → IsProp (Instances ns done)
Instances_prop ns done = hlevel (props, Tree_set)

pub NamesNoted_prop : {S : Type 0} (ns : List Node) (done : IndexMap NameKey TypeId S) → IsProp (NamesNoted ns done)
NamesNoted_prop ns done = hlevel (props, Tree_set)
