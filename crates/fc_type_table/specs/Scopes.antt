-- What a number of a table shows in a context of type variables: a type with indices alone. The context is the list of the variables' kinds,
-- the innermost first.
use Rattle.std.specs.Prelude.{◌≡◌, ℕ, zero, suc, ◌+◌, ◌-◌, ◌<◌, nat_lt, if◌then◌else◌, List, [], ◌∷◌, length}
use Rattle.fc_syntax.specs.Tree.{Kind}
use Rattle.fc_model.specs.Nameless.{NTy, NTVar, NTCon, NTInt, NTApp, NTFun, NTForall, NTCoForall}
use Rattle.fc_type_table.specs.Trees.{Tree, LStar, LHash, LArrow, LBound, LFree, LCon, LInt, LApp, LFun, LForall, LCoForall}
use Rattle.fc_type_table.specs.TreeKinds.{IsKind, kind_in, kind_tree}
use Rattle.fc_type_table.specs.Nodes.{tree_at}
use Rattle.fc_type_table.specs.declared.node.Node.{Node}

-- what the variable at a distance carries
abbrev pub label : List Kind → ℕ → Tree
label [] i = LStar
label (k ∷ ks) zero = kind_tree k
label (k ∷ ks) (suc i) = label ks i

-- a type under k of its binders in a context of n variables, all of these kinds: levels for the variables of the context
unfoldable pub leveled : ℕ → List Kind → ℕ → NTy → Tree
leveled n ks k (NTVar i) = if nat_lt i k then LBound i (label ks i) else LFree ((n - 1) - (i - k)) (label ks i)
leveled n ks k (NTCon c) = LCon c
leveled n ks k NTInt = LInt
leveled n ks k (NTApp t u) = LApp (leveled n ks k t) (leveled n ks k u)
leveled n ks k (NTFun t u) = LFun (leveled n ks k t) (leveled n ks k u)
leveled n ks k (NTForall j t) = LForall (kind_tree j) (leveled n (j ∷ ks) (k + 1) t)
leveled n ks k (NTCoForall r left right t) = LCoForall r (leveled n ks k left) (leveled n ks k right) (leveled n ks k t)

-- the way back; a tree that is no type counts as a variable
unfoldable pub indexed : ℕ → ℕ → Tree → NTy
indexed n k LStar = NTVar 0
indexed n k LHash = NTVar 0
indexed n k (LArrow a b) = NTVar 0
indexed n k (LBound i j) = NTVar i
indexed n k (LFree l j) = NTVar (k + ((n - 1) - l))
indexed n k (LCon c) = NTCon c
indexed n k LInt = NTInt
indexed n k (LApp t u) = NTApp (indexed n k t) (indexed n k u)
indexed n k (LFun t u) = NTFun (indexed n k t) (indexed n k u)
indexed n k (LForall j t) = NTForall (kind_in j) (indexed n (k + 1) t)
indexed n k (LCoForall r left right t) = NTCoForall r (indexed n k left) (indexed n k right) (indexed n k t)

-- the tree is a type whose indices are those of its binders, of the kinds js, and whose levels are those of the context, of the kinds ks;
-- each variable carries its kind
abbrev pub Scoped : List Kind → List Kind → Tree → Type 0
Scoped ks js LStar = ⊥
Scoped ks js LHash = ⊥
Scoped ks js (LArrow a b) = ⊥
Scoped ks js (LBound i k) = (i < length js) × (k ≡ label js i)
Scoped ks js (LFree l k) = (l < length ks) × (k ≡ label ks ((length ks - 1) - l))
Scoped ks js (LCon c) = Unit {0}
Scoped ks js LInt = Unit {0}
Scoped ks js (LApp t u) = Scoped ks js t × Scoped ks js u
Scoped ks js (LFun t u) = Scoped ks js t × Scoped ks js u
Scoped ks js (LForall j t) = IsKind j × Scoped ks (kind_in j ∷ js) t
Scoped ks js (LCoForall r left right t) = Scoped ks js left × Scoped ks js right × Scoped ks js t

-- a number of a type whose variables stand in a context of type variables of these kinds
pub record IsTypeAt (ns : List Node) (ks : List Kind) (id : ℕ) : Type 0 where
  pub within : id < length ns
  pub scoped : Scoped ks [] (tree_at ns id)

-- the type of a number in a context of type variables of these kinds
unfoldable pub shown_at : List Node → List Kind → ℕ → NTy
shown_at ns ks id = indexed (length ks) 0 (tree_at ns id)
