-- Numbers of kinds.
use Rattle.std.proofs.Common.{◌≡◌, ℕ, ◌+◌, ◌<◌, ◌≤◌, Bool, true, false, true≢false, List, length, nat_eq, refl, sym, ap, subst, ◌∙◌, eq-eqb, Result, arith, Some, Ok, Err, IfOk}
use borrow.Author.Tests.{eqb-true}
use Rattle.fc_syntax.specs.Tree.{Kind, KStar, KHash, KArrow}
use Rattle.fc_model.proofs.Sameness.{same_kind_eq, same_kind_refl}
use Rattle.fc_model.specs.Kinding.{Modules, same_kind}
use Rattle.fc_type_table.specs.Nodes.{Extends, HasKinds, IsKindAt, IsTable, Judges, kind_at, parts_end, piece_over, tree_at}
use Rattle.fc_type_table.specs.TreeKinds.{IsKind, kind_in, kind_tree}
use Rattle.fc_type_table.specs.Trees.{LArrow, LBound, LFree, LHash, LStar}
use Rattle.fc_type_table.specs.declared.node.Judged.{Judged}
use Rattle.fc_type_table.specs.declared.node.Node.{Node}
use Rattle.fc_type_table.specs.declared.node.Piece.{Piece}
use Rattle.fc_type_table.specs.declared.node.Piece.TheVariants.{Bound, Free}
use Rattle.fc_type_table.specs.declared.node.TypeId.{TypeId}
use Rattle.fc_type_table.proofs.KindTrees.{IsKind-tree, kind_in-tree, kind_tree-in}

-- a number whose tree is that of a kind
pub IsKindAt-tree : (ns : List Node) (id : ℕ) (k : Kind) → id < length ns → tree_at ns id ≡ kind_tree k → IsKindAt ns id
IsKindAt-tree ns id k h e = record { within = h; is_kind = subst IsKind (sym e) (IsKind-tree k) }

pub kind_at-tree : (ns : List Node) (id : ℕ) (k : Kind) → tree_at ns id ≡ kind_tree k → kind_at ns id ≡ k
unfolding kind_at
kind_at-tree ns id k e = ap kind_in e ∙ kind_in-tree k

pub tree_at-kind : (ns : List Node) (id : ℕ) → IsKindAt ns id → tree_at ns id ≡ kind_tree (kind_at ns id)
unfolding kind_at
tree_at-kind ns id k = sym (kind_tree-in (tree_at ns id) k.is_kind)

pub kind_read : {E : Type 0} (r : Result TypeId E) (ns : List Node) (k : Kind) → IfOk r (λ id. id.0 < length ns) → IfOk r (λ id. tree_at ns id.0 ≡ kind_tree k) → IfOk r (λ id. IsKindAt ns id.0)
kind_read (Ok id) ns k h e = IsKindAt-tree ns id.0 k h e
kind_read (Err x) ns k h e = tt

pub kind_read_view : {E : Type 0} (r : Result TypeId E) (ns : List Node) (k : Kind) → IfOk r (λ id. tree_at ns id.0 ≡ kind_tree k) → IfOk r (λ id. kind_at ns id.0 ≡ k)
kind_read_view (Ok id) ns k e = kind_at-tree ns id.0 k e
kind_read_view (Err x) ns k e = tt

-- the kinds of values
pub IsKindAt-star : (ns : List Node) (id : ℕ) → id < length ns → tree_at ns id ≡ LStar → IsKindAt ns id
IsKindAt-star ns id h e = IsKindAt-tree ns id KStar h e

pub kind_at-star : (ns : List Node) (id : ℕ) → tree_at ns id ≡ LStar → kind_at ns id ≡ KStar
kind_at-star ns id e = kind_at-tree ns id KStar e

pub IsKindAt-hash : (ns : List Node) (id : ℕ) → id < length ns → tree_at ns id ≡ LHash → IsKindAt ns id
IsKindAt-hash ns id h e = IsKindAt-tree ns id KHash h e

pub kind_at-hash : (ns : List Node) (id : ℕ) → tree_at ns id ≡ LHash → kind_at ns id ≡ KHash
kind_at-hash ns id e = kind_at-tree ns id KHash e

pub ruleset kind_rules = (IsKindAt-star, kind_at-star, IsKindAt-hash, kind_at-hash)

-- numbers are equal exactly where their kinds are the same
pub same_kinds : (ms : Modules) (ns : List Node) → IsTable ms ns → (i j : ℕ) → IsKindAt ns i → IsKindAt ns j → nat_eq i j ≡ same_kind (kind_at ns i) (kind_at ns j)
same_kinds ms ns table i j p q = by (nat_eq i j) (same_kind (kind_at ns i) (kind_at ns j)) refl refl
  where
    by : (b c : Bool) → nat_eq i j ≡ b → same_kind (kind_at ns i) (kind_at ns j) ≡ c → b ≡ c
    by true c e s = sym (ap (λ x. same_kind (kind_at ns i) (kind_at ns x)) (sym (eqb-true i j e)) ∙ same_kind_refl (kind_at ns i)) ∙ s
    by false false e s = refl
    by false true e s =
        let trees : tree_at ns i ≡ tree_at ns j = tree_at-kind ns i p ∙ ap kind_tree (same_kind_eq (kind_at ns i) (kind_at ns j) s) ∙ sym (tree_at-kind ns j q) in
        absurd (true≢false (sym (eq-eqb i j (table.once i j p.within q.within trees)) ∙ e))

-- ---- kinds with arrows

pub arrow_parts : (ns : List Node) (head from to : ℕ) → IsKindAt ns head → tree_at ns head ≡ LArrow (tree_at ns from) (tree_at ns to) → from < length ns → to < length ns
    → IsKindAt ns from × IsKindAt ns to × (kind_at ns head ≡ KArrow (kind_at ns from) (kind_at ns to))
unfolding kind_at
arrow_parts ns head from to k e f t =
    let parts : IsKind (LArrow (tree_at ns from) (tree_at ns to)) = subst IsKind e k.is_kind in
    (record { within = f; is_kind = parts.0 }, record { within = t; is_kind = parts.1 }, ap kind_in e)

pub arrow_valid : (k0 k1 k2 : List Node) (kind from new : ℕ) (j : Kind) → Extends k0 k1 → IsKindAt k0 kind → tree_at k1 from ≡ kind_tree j → tree_at k2 new ≡ LArrow (tree_at k1 from) (tree_at k1 kind) → new < length k2
    → IsKindAt k2 new
arrow_valid k0 k1 k2 kind from new j more k f e within =
    record { within = within; is_kind = subst IsKind (sym e) (subst IsKind (sym f) (IsKind-tree j), subst IsKind (sym (more.stays kind k.within)) k.is_kind) }

pub arrow_view : (k0 k1 k2 : List Node) (kind from new : ℕ) (j : Kind) → Extends k0 k1 → IsKindAt k0 kind → tree_at k1 from ≡ kind_tree j → tree_at k2 new ≡ LArrow (tree_at k1 from) (tree_at k1 kind)
    → kind_at k2 new ≡ KArrow j (kind_at k0 kind)
unfolding kind_at
arrow_view k0 k1 k2 kind from new j more k f e =
    ap kind_in e ∙ ap (λ x. KArrow (kind_in x) (kind_in (tree_at k1 kind))) f ∙ ap (λ x. KArrow x (kind_in (tree_at k1 kind))) (kind_in-tree j) ∙ ap (λ x. KArrow j (kind_in x)) (more.stays kind k.within)

-- ---- variables

pub judged_bound : (ms : Modules) (ns : List Node) (p : Piece) (i : ℕ) (k : TypeId) (j : Judged) → p ≡ Bound i k → j ≡ record { lifted = false; needed = 0; kind = Some k } → parts_end p ≤ length ns
    → HasKinds (piece_over (tree_at ns) p) → Judges ms ns (piece_over (tree_at ns) p) j
unfolding kind_at
judged_bound ms ns p i k j e f fits labels =
    let parts : k.0 + 1 ≤ length ns = subst (λ q. parts_end q ≤ length ns) e fits in
    let label : IsKind (tree_at ns k.0) = subst (λ q. HasKinds (piece_over (tree_at ns) q)) e labels in
    subst (λ q. Judges ms ns (piece_over (tree_at ns) q) j) (sym e) (subst (λ x. Judges ms ns (LBound i (tree_at ns k.0)) x) (sym f)
    (record { lifted = refl; needed = refl; is_kind = record { within = omega arith; is_kind = label }; kind = refl }))

pub judged_free : (ms : Modules) (ns : List Node) (p : Piece) (l : ℕ) (k : TypeId) (j : Judged) → p ≡ Free l k → j ≡ record { lifted = false; needed = 0; kind = Some k } → parts_end p ≤ length ns
    → HasKinds (piece_over (tree_at ns) p) → Judges ms ns (piece_over (tree_at ns) p) j
unfolding kind_at
judged_free ms ns p l k j e f fits labels =
    let parts : k.0 + 1 ≤ length ns = subst (λ q. parts_end q ≤ length ns) e fits in
    let label : IsKind (tree_at ns k.0) = subst (λ q. HasKinds (piece_over (tree_at ns) q)) e labels in
    subst (λ q. Judges ms ns (piece_over (tree_at ns) q) j) (sym e) (subst (λ x. Judges ms ns (LFree l (tree_at ns k.0)) x) (sym f)
    (record { lifted = refl; needed = refl; is_kind = record { within = omega arith; is_kind = label }; kind = refl }))
