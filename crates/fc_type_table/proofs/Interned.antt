-- A piece that is put in after what is told of it.
use Rattle.std.proofs.Common.{◌≡◌, ◌≤◌, List, length, Result, Ok, Err, IfOk, OnOk, ◌∙◌, arith}
use Rattle.fc_type_table.specs.Nodes.{Extends, parts_end, piece_over, tree_at}
use Rattle.fc_type_table.specs.declared.node.Node.{Node}
use Rattle.fc_type_table.specs.declared.node.Piece.{Piece}
use Rattle.fc_type_table.specs.declared.node.TypeId.{TypeId}
use Rattle.fc_type_table.proofs.Tables.{piece_over-extends}

pub interned_shown : {E : Type 0} (r : Result TypeId E) (k0 k1 k2 : List Node) (p : Piece) → Extends k0 k1 → parts_end p ≤ length k0 → IfOk r (λ id. tree_at k2 id.0 ≡ piece_over (tree_at k1) p)
    → IfOk r (λ id. tree_at k2 id.0 ≡ piece_over (tree_at k0) p)
interned_shown (Ok id) k0 k1 k2 p more fits e = e ∙ piece_over-extends k0 k1 more p fits
interned_shown (Err x) k0 k1 k2 p more fits e = tt

pub interned_extends : {T E : Type 0} (r : Result T E) (k0 k1 k2 : List Node) → Extends k0 k1 → OnOk r (Extends k1 k2) → OnOk r (Extends k0 k2)
interned_extends (Ok x) k0 k1 k2 p q = record { longer = omega arith; stays = λ i h. q.stays i (omega arith) ∙ p.stays i h }
interned_extends (Err x) k0 k1 k2 p q = tt
