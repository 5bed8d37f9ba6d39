-- What the nodes of a table show.
use Rattle.std.specs.Prelude.{◌≡◌, ℕ, ◌+◌, ◌<◌, ◌≤◌, max, List, [], ◌∷◌, ◌++◌, get_or, length, false, None, IfSome}
use Rattle.std.specs.Option.{option_map}
use Rattle.fc_syntax.specs.Tree.{Kind}
use Rattle.fc_model.specs.Kinding.{Modules}
use Rattle.fc_type_table.specs.Trees.{Tree, LStar, LHash, LArrow, LBound, LFree, LCon, LInt, LApp, LFun, LForall, LCoForall, height, level_end, loose_end}
use Rattle.fc_type_table.specs.TreeKinds.{IsKind, arguments_needed, kept_kind, kind_in, lifted_tree}
use Rattle.fc_type_table.specs.Names.{name_of}
use Rattle.fc_type_table.specs.declared.node.Judged.{Judged}
use Rattle.fc_type_table.specs.declared.node.Measure.{Measure}
use Rattle.fc_type_table.specs.declared.node.Node.{Node}
use Rattle.fc_type_table.specs.declared.node.Piece.{Piece}
use Rattle.fc_type_table.specs.declared.node.Piece.TheVariants.{Star, Hash, Arrow, Bound, Free, Con, IntHash, App, Fun, Forall, CoForall}

-- a piece, where the numbers of its parts show trees
abbrev pub piece_over : (ℕ → Tree) → Piece → Tree
piece_over f Star = LStar
piece_over f Hash = LHash
piece_over f (Arrow a b) = LArrow (f a.0) (f b.0)
piece_over f (Bound i k) = LBound i (f k.0)
piece_over f (Free l k) = LFree l (f k.0)
piece_over f (Con n) = LCon (name_of n)
piece_over f IntHash = LInt
piece_over f (App t u) = LApp (f t.0) (f u.0)
piece_over f (Fun t u) = LFun (f t.0) (f u.0)
piece_over f (Forall k t) = LForall (f k.0) (f t.0)
piece_over f (CoForall r left right t) = LCoForall r (f left.0) (f right.0) (f t.0)

-- the trees of the nodes ns, which follow those of ts
unfoldable pub trees_after : List Tree → List Node → List Tree
trees_after ts [] = ts
trees_after ts (n ∷ ns) = trees_after (ts ++ piece_over (λ i. get_or ts i LStar) n.piece ∷ []) ns

-- the tree of the node with a number
unfoldable pub tree_at : List Node → ℕ → Tree
tree_at ns i = get_or (trees_after [] ns) i LStar

-- one more than the greatest number among a piece's parts
abbrev pub parts_end : Piece → ℕ
parts_end Star = 0
parts_end Hash = 0
parts_end (Arrow a b) = max (a.0 + 1) (b.0 + 1)
parts_end (Bound i k) = k.0 + 1
parts_end (Free l k) = k.0 + 1
parts_end (Con n) = 0
parts_end IntHash = 0
parts_end (App t u) = max (t.0 + 1) (u.0 + 1)
parts_end (Fun t u) = max (t.0 + 1) (u.0 + 1)
parts_end (Forall k t) = max (k.0 + 1) (t.0 + 1)
parts_end (CoForall r left right t) = max (max (left.0 + 1) (right.0 + 1)) (t.0 + 1)

-- what a variable carries is a kind
abbrev pub HasKinds : Tree → Type 0
HasKinds LStar = Unit {0}
HasKinds LHash = Unit {0}
HasKinds (LArrow a b) = Unit {0}
HasKinds (LBound i k) = IsKind k
HasKinds (LFree l k) = IsKind k
HasKinds (LCon n) = Unit {0}
HasKinds LInt = Unit {0}
HasKinds (LApp t u) = Unit {0}
HasKinds (LFun t u) = Unit {0}
HasKinds (LForall k t) = Unit {0}
HasKinds (LCoForall r left right t) = Unit {0}

-- what is kept of a tree is right
pub record Measures (t : Tree) (m : Measure) : Type 0 where
  pub depth : m.depth ≡ height t
  pub loose : m.loose ≡ loose_end t
  pub levels : m.levels ≡ level_end t

-- a number of a kind
pub record IsKindAt (ns : List Node) (id : ℕ) : Type 0 where
  pub within : id < length ns
  pub is_kind : IsKind (tree_at ns id)

-- the kind of a number
unfoldable pub kind_at : List Node → ℕ → Kind
kind_at ns id = kind_in (tree_at ns id)

-- what is told of a tree's kind is right
pub record Judges (ms : Modules) (ns : List Node) (t : Tree) (j : Judged) : Type 0 where
  pub lifted : j.lifted ≡ lifted_tree t
  pub needed : j.needed ≡ arguments_needed ms t
  pub is_kind : IfSome j.kind (λ k. IsKindAt ns k.0)
  pub kind : option_map (λ k. kind_at ns k.0) j.kind ≡ kept_kind ms t

-- no node
abbrev pub no_node : Node
no_node = record { piece = Star; measure = record { depth = 0; loose = 0; levels = 0 }; judged = record { lifted = false; needed = 0; kind = None } }

-- a node's parts stand before it, what is kept of it is right, and no two nodes show the same
pub record IsTable (ms : Modules) (ns : List Node) : Type 0 where
  pub parts_first : (i : ℕ) → i < length ns → parts_end (get_or ns i no_node).piece ≤ i
  pub kinds : (i : ℕ) → i < length ns → HasKinds (tree_at ns i)
  pub measured : (i : ℕ) → i < length ns → Measures (tree_at ns i) (get_or ns i no_node).measure
  pub judged : (i : ℕ) → i < length ns → Judges ms ns (tree_at ns i) (get_or ns i no_node).judged
  pub once : (i j : ℕ) → i < length ns → j < length ns → tree_at ns i ≡ tree_at ns j → i ≡ j

-- the numbers of old are numbers of new and show the same
pub record Extends (old new : List Node) : Type 0 where
  pub longer : length old ≤ length new
  pub stays : (i : ℕ) → i < length old → tree_at new i ≡ tree_at old i
