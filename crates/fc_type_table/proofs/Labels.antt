-- What the variables of a context carry.
use Rattle.std.proofs.Common.{◌≡◌, ℕ, zero, suc, ◌+◌, ◌<◌, List, [], ◌∷◌, ◌++◌, length, refl, sym, ap, subst, ◌∙◌, arith, Some, None}
use Rattle.fc_syntax.specs.Tree.{Kind}
use Rattle.fc_model.specs.Faulting.{at_distance}
use Rattle.fc_model.specs.Typing.{answered}
use Rattle.fc_type_table.specs.Scopes.{label}
use Rattle.fc_type_table.specs.TreeKinds.{IsKind, kind_in, kind_tree}
use Rattle.fc_type_table.specs.Nodes.{tree_at}
use Rattle.fc_type_table.specs.Trees.{LStar}
use Rattle.fc_type_table.specs.declared.node.Node.{Node}
use Rattle.fc_type_table.proofs.KindTrees.{IsKind-tree, kind_in-tree}

-- the kind that a variable carries is the one of its context
pub label-found : (ks : List Kind) (i : ℕ) → i < length ks → answered (at_distance ks i) ≡ Some (kind_in (label ks i))
label-found [] i h = absurd (omega arith)
label-found (k ∷ ks) zero h = cc (kind_in-tree k)
label-found (k ∷ ks) (suc i) h = label-found ks i (omega arith)

pub IsKind-label : (ks : List Kind) (i : ℕ) → IsKind (label ks i)
IsKind-label [] i = tt
IsKind-label (k ∷ ks) zero = IsKind-tree k
IsKind-label (k ∷ ks) (suc i) = IsKind-label ks i

-- among variables and those around them
pub label-inner : (js ks : List Kind) (i : ℕ) → i < length js → label (js ++ ks) i ≡ label js i
label-inner [] ks i h = absurd (omega arith)
label-inner (j ∷ js) ks zero h = refl
label-inner (j ∷ js) ks (suc i) h = label-inner js ks i (omega arith)

beside : (js ks : List Kind) (i : ℕ) → label (js ++ ks) (length js + i) ≡ label ks i
beside [] ks i = let e : length {A = Kind} [] + i ≡ i = omega arith in ap (label ks) e
beside (j ∷ js) ks i = let e : length (j ∷ js) + i ≡ suc (length js + i) = omega arith in ap (label (j ∷ (js ++ ks))) e ∙ beside js ks i

pub label-outer : (js ks : List Kind) (m i : ℕ) → m ≡ length js + i → label (js ++ ks) m ≡ label ks i
label-outer js ks m i e = ap (label (js ++ ks)) e ∙ beside js ks i

-- a look-up of a kind, and none
pub label-some : (ks : List Kind) (i : ℕ) (k : Kind) → Some k ≡ answered (at_distance ks i) → label ks i ≡ kind_tree k
label-some [] i k e = absurd (cc)
label-some (j ∷ ks) zero k e = cc
label-some (j ∷ ks) (suc i) k e = label-some ks i k e

pub label-none : (ks : List Kind) (i : ℕ) → None ≡ answered (at_distance ks i) → label ks i ≡ LStar
label-none [] i e = refl
label-none (j ∷ ks) zero e = absurd (cc)
label-none (j ∷ ks) (suc i) e = label-none ks i e

pub label_is_kind : (ns : List Node) (id : ℕ) (ks : List Kind) (i : ℕ) → tree_at ns id ≡ label ks i → IsKind (tree_at ns id)
label_is_kind ns id ks i e = subst IsKind (sym e) (IsKind-label ks i)
