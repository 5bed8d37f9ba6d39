-- What an answer shows, by its outermost piece.
use Rattle.std.proofs.Common.{◌≡◌, ◌∙◌, ℕ, List, length, Result, Ok, Err, IfOk, sym, ap}
use Rattle.fc_syntax.specs.declared.ty.Ty as T
use Rattle.fc_syntax.specs.Tree.{Kind}
use Rattle.fc_syntax.specs.View.{ty_of}
use Rattle.fc_model.specs.Nameless.{NTy}
use Rattle.fc_model.specs.NamelessView.{nty_of}
use Rattle.fc_model.specs.Worded.{WTy, bare_ty}
use Rattle.fc_type_table.specs.Nodes.{piece_over, tree_at}
use Rattle.fc_type_table.specs.Scopes.{IsTypeAt, indexed, shown_at}
use Rattle.fc_type_table.specs.declared.node.Node.{Node}
use Rattle.fc_type_table.specs.declared.node.Piece.{Piece}
use Rattle.fc_type_table.proofs.Pieces.{shown_as}

-- an answer that is made as a tree shows what that tree is without words
pub made_as : {E : Type 0} (r : Result (T.Ty ℕ) E) (t : WTy) (a : NTy) → IfOk r (λ x. ty_of x ≡ t) → bare_ty t ≡ a → IfOk r (λ x. nty_of x ≡ a)
made_as (Ok x) t a made e = ap bare_ty made ∙ e
made_as (Err x) t a made e = tt

-- an answer that shows one type shows another that is the same
same_shown : {E : Type 0} (r : Result (T.Ty ℕ) E) (a b : NTy) → a ≡ b → IfOk r (λ x. nty_of x ≡ a) → IfOk r (λ x. nty_of x ≡ b)
same_shown (Ok x) a b e p = p ∙ e
same_shown (Err x) a b e p = tt

-- what a part shows, where it is told which piece it is
pub part_shown : {E : Type 0} (r : Result (T.Ty ℕ) E) (ns : List Node) (i n k : ℕ) (p q : Piece) (a : NTy) → p ≡ q → tree_at ns i ≡ piece_over (tree_at ns) p
    → IfOk r (λ x. nty_of x ≡ a) → indexed n k (piece_over (tree_at ns) q) ≡ a → IfOk r (λ x. nty_of x ≡ indexed n k (tree_at ns i))
part_shown r ns i n k p q a told e shows same = same_shown r a (indexed n k (tree_at ns i)) (sym (ap (indexed n k) (shown_as ns i told e) ∙ same)) shows

-- the whole type
pub whole_shown : {E : Type 0} (r : Result (T.Ty ℕ) E) (n : ℕ) (ns : List Node) (id : ℕ) → IfOk r (λ x. nty_of x ≡ indexed n 0 (tree_at ns id))
    → (ks : List Kind) → length ks ≡ n → IsTypeAt ns ks id → IfOk r (λ x. nty_of x ≡ shown_at ns ks id)
unfolding shown_at
whole_shown r n ns id p ks long t = same_shown r (indexed n 0 (tree_at ns id)) (shown_at ns ks id) (sym (ap (λ m. indexed m 0 (tree_at ns id)) long)) p
