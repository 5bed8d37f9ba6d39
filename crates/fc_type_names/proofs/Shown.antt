-- What a part of a type shows, by its outermost piece.
use Rattle.std.proofs.Common.{◌≡◌, ◌∙◌, ℕ, List, length, Result, Ok, Err, IfOk, sym, ap}
use Rattle.fc_syntax.specs.declared.ty.Ty as T
use Rattle.fc_syntax.specs.Tree.{Word, Kind}
use Rattle.fc_syntax.specs.View.{ty_of}
use Rattle.fc_model.specs.Nameless.{NTy}
use Rattle.fc_type_names.specs.Meant.{meant}
use Rattle.fc_type_table.specs.Nodes.{piece_over, tree_at}
use Rattle.fc_type_table.specs.Scopes.{IsTypeAt, indexed, shown_at}
use Rattle.fc_type_table.specs.declared.node.Node.{Node}
use Rattle.fc_type_table.specs.declared.node.Piece.{Piece}
use Rattle.fc_type_table.proofs.Pieces.{shown_as}

-- an answer that means one type means another that is the same
same_meant : {E : Type 0} (r : Result (T.Ty Word) E) (own : Word) (ws : List Word) (a b : NTy) → a ≡ b → IfOk r (λ x. meant own ws (ty_of x) ≡ Ok a) → IfOk r (λ x. meant own ws (ty_of x) ≡ Ok b)
same_meant (Ok x) own ws a b e p = p ∙ ap (λ (t : NTy). Ok t) e
same_meant (Err x) own ws a b e p = tt

-- what a part shows, where it is told which piece it is
pub part_shown : {E : Type 0} (r : Result (T.Ty Word) E) (own : Word) (ws : List Word) (ns : List Node) (i n k : ℕ) (p q : Piece) (a : NTy) → p ≡ q → tree_at ns i ≡ piece_over (tree_at ns) p
    → IfOk r (λ x. meant own ws (ty_of x) ≡ Ok a) → indexed n k (piece_over (tree_at ns) q) ≡ a → IfOk r (λ x. meant own ws (ty_of x) ≡ Ok (indexed n k (tree_at ns i)))
part_shown r own ws ns i n k p q a told e means same = same_meant r own ws a (indexed n k (tree_at ns i)) (sym (ap (indexed n k) (shown_as ns i told e) ∙ same)) means

-- the whole type
pub whole_shown : {E : Type 0} (r : Result (T.Ty Word) E) (own : Word) (ws : List Word) (n : ℕ) (ns : List Node) (id : ℕ) → IfOk r (λ x. meant own ws (ty_of x) ≡ Ok (indexed n 0 (tree_at ns id)))
    → (ks : List Kind) → length ks ≡ n → IsTypeAt ns ks id → IfOk r (λ x. meant own ws (ty_of x) ≡ Ok (shown_at ns ks id))
unfolding shown_at
whole_shown r own ws n ns id p ks long t = same_meant r own ws (indexed n 0 (tree_at ns id)) (shown_at ns ks id) (sym (ap (λ m. indexed m 0 (tree_at ns id)) long)) p
