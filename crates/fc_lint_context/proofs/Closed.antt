-- A type without variables of others is the same in every context.
use Rattle.std.proofs.Common.{◌≡◌, ℕ, ◌+◌, List, [], ◌∷◌, length, refl, subst, arith}
use Rattle.std.proofs.lemmas.List.{append-nil}
use Rattle.fc_syntax.specs.Tree.{Kind}
use Rattle.fc_type_table.specs.Nodes.{tree_at}
use Rattle.fc_type_table.specs.Scopes.{IsTypeAt, Scoped, indexed, shown_at}
use Rattle.fc_type_table.specs.TreeKinds.{kind_in}
use Rattle.fc_type_table.specs.Trees.{Tree, LStar, LHash, LArrow, LBound, LFree, LCon, LInt, LApp, LFun, LForall, LCoForall}
use Rattle.fc_type_table.specs.declared.node.Node.{Node}
use Rattle.fc_type_scope.proofs.Past.{IsTypeAt-past}

closed_indexed : (n k : ℕ) (js : List Kind) (t : Tree) → Scoped [] js t → indexed n k t ≡ indexed 0 k t
unfolding indexed
closed_indexed n k js LStar h = refl
closed_indexed n k js LHash h = refl
closed_indexed n k js (LArrow a b) h = refl
closed_indexed n k js (LBound i o) h = refl
closed_indexed n k js (LFree l o) h = absurd (omega (arith, h.0))
closed_indexed n k js (LCon c) h = refl
closed_indexed n k js LInt h = refl
closed_indexed n k js (LApp t u) h = cc (closed_indexed n k js t h.0, closed_indexed n k js u h.1)
closed_indexed n k js (LFun t u) h = cc (closed_indexed n k js t h.0, closed_indexed n k js u h.1)
closed_indexed n k js (LForall o t) h = cc (closed_indexed n (k + 1) (kind_in o ∷ js) t h.1)
closed_indexed n k js (LCoForall r t u v) h = cc (closed_indexed n k js t h.0, closed_indexed n k js u h.1, closed_indexed n k js v h.2)

pub IsTypeAt-closed : (ns : List Node) (ks : List Kind) (id : ℕ) → IsTypeAt ns [] id → IsTypeAt ns ks id
IsTypeAt-closed ns ks id t = subst (λ js. IsTypeAt ns js id) (append-nil ks) (IsTypeAt-past ns ks [] id t)

pub shown_at-closed : (ns : List Node) (ks : List Kind) (id : ℕ) → IsTypeAt ns [] id → shown_at ns ks id ≡ shown_at ns [] id
unfolding shown_at
shown_at-closed ns ks id t = closed_indexed (length ks) 0 [] (tree_at ns id) t.scoped
