-- What a type shows by its outermost piece, where it is told which piece that is.
use Rattle.std.proofs.Common.{◌≡◌, ◌≤◌, ◌∙◌, ℕ, List, ap, subst}
use Rattle.fc_type_table.specs.Nodes.{parts_end, piece_over, tree_at}
use Rattle.fc_type_table.specs.declared.node.Node.{Node}
use Rattle.fc_type_table.specs.declared.node.Piece.{Piece}

pub shown_as : {p q : Piece} (ns : List Node) (i : ℕ) → p ≡ q → tree_at ns i ≡ piece_over (tree_at ns) p → tree_at ns i ≡ piece_over (tree_at ns) q
shown_as ns i same h = h ∙ ap (piece_over (tree_at ns)) same

pub parts_as : {p q : Piece} (i : ℕ) → p ≡ q → parts_end p ≤ i → parts_end q ≤ i
parts_as i same h = subst (λ r. parts_end r ≤ i) same h
