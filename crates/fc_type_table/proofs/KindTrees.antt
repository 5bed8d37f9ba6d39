-- Kinds as trees.
use Rattle.std.proofs.Common.{◌≡◌, refl}
use Rattle.fc_syntax.specs.Tree.{Kind, KStar, KHash, KArrow}
use Rattle.fc_type_table.specs.Trees.{Tree, LStar, LHash, LArrow}
use Rattle.fc_type_table.specs.TreeKinds.{IsKind, kind_in, kind_tree}

pub kind_in-tree : (k : Kind) → kind_in (kind_tree k) ≡ k
kind_in-tree KStar = refl
kind_in-tree KHash = refl
kind_in-tree (KArrow a b) = cc (kind_in-tree a, kind_in-tree b)

pub IsKind-tree : (k : Kind) → IsKind (kind_tree k)
IsKind-tree KStar = tt
IsKind-tree KHash = tt
IsKind-tree (KArrow a b) = (IsKind-tree a, IsKind-tree b)

pub kind_tree-in : (t : Tree) → IsKind t → kind_tree (kind_in t) ≡ t
kind_tree-in LStar h = refl
kind_tree-in LHash h = refl
kind_tree-in (LArrow a b) h = cc (kind_tree-in a h.0, kind_tree-in b h.1)
kind_tree-in t h = absurd h
