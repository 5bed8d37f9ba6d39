-- Kinds of numbers by the trees that these show.
use Rattle.std.proofs.Common.{◌≡◌, ◌∙◌, ℕ, List, Result, Ok, Err, IfOk, sym, ap}
use Rattle.fc_syntax.specs.Tree.{Kind}
use Rattle.fc_syntax.specs.View.{kind_of}
use Rattle.fc_syntax.specs.declared.ty.Kind as K
use Rattle.fc_type_table.specs.Nodes.{kind_at, piece_over, tree_at}
use Rattle.fc_type_table.specs.TreeKinds.{kind_in}
use Rattle.fc_type_table.specs.declared.node.Node.{Node}
use Rattle.fc_type_table.specs.declared.node.Piece.{Piece}
use Rattle.fc_type_table.proofs.Pieces.{shown_as}

-- what a kind is, where it is told which piece it is
pub piece_kind : {E : Type 0} (r : Result K.Kind E) (ns : List Node) (i : ℕ) (p q : Piece) (k : Kind) → p ≡ q → tree_at ns i ≡ piece_over (tree_at ns) p
    → IfOk r (λ x. kind_of x ≡ k) → kind_in (piece_over (tree_at ns) q) ≡ k → IfOk r (λ x. kind_of x ≡ kind_at ns i)
unfolding kind_at
piece_kind (Ok x) ns i p q k told e shows same = shows ∙ sym (ap kind_in (shown_as ns i told e) ∙ same)
piece_kind (Err x) ns i p q k told e shows same = tt
