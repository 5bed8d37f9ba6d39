-- What stands in front of other pieces, behind one space: kinds and types.
use Rattle.std.proofs.Common.{◌≡◌, ℕ, List, [], ◌∷◌, ◌++◌, refl, sym, ap, ◌∙◌, append_assoc}
use Rattle.std.proofs.lemmas.List.{append-nil}
use Rattle.fc_syntax.specs.Tree.{Kind, KStar, Ty, TInt, TApp}
use Rattle.fc_syntax.proofs.View.{ty_rules}
use Rattle.fc_model.specs.Pieces.{Pieces, NoPieces, first_text, pieces_text, spaced_text}
use Rattle.fc_model.specs.Spelling.{Alone, AsHead, kind_pieces, type_pieces}

-- a text and what follows it
padded : (x : List ℕ) (more : Pieces) → x ++ spaced_text more ≡ (x ++ []) ++ spaced_text more
padded x more = ap (λ y. y ++ spaced_text more) (sym (append-nil x))

pub spaced : (x : List ℕ) (more : Pieces) → 32 ∷ (x ++ spaced_text more) ≡ (32 ∷ (x ++ [])) ++ spaced_text more
spaced x more = ap (λ y. 32 ∷ y) (padded x more)

pub ended : (x : List ℕ) → 32 ∷ (x ++ []) ≡ 32 ∷ x
ended x = ap (λ y. 32 ∷ y) (append-nil x)

-- a text, and what follows it twice
pub twice : (x : List ℕ) (a more : Pieces) (b : List ℕ) → spaced_text a ≡ b ++ spaced_text more → (y : List ℕ) → x ++ b ≡ y → x ++ spaced_text a ≡ y ++ spaced_text more
twice x a more b e y h = ap (λ z. x ++ z) e ∙ sym (append_assoc x b (spaced_text more)) ∙ ap (λ z. z ++ spaced_text more) h

-- each kind is one piece
pub alone_kind : (k : Kind) → spaced_text (kind_pieces k NoPieces) ≡ 32 ∷ first_text (kind_pieces k NoPieces)
alone_kind KStar = refl
alone_kind k = ended (first_text (kind_pieces k NoPieces))

pub next_kind : (k : Kind) (more : Pieces) → spaced_text (kind_pieces k more) ≡ spaced_text (kind_pieces k NoPieces) ++ spaced_text more
next_kind KStar more = refl
next_kind k more = spaced (first_text (kind_pieces k NoPieces)) more

-- each type is one piece
pub alone_type : (t : Ty) → spaced_text (type_pieces Alone t NoPieces) ≡ 32 ∷ first_text (type_pieces Alone t NoPieces)
alone_type TInt = refl
alone_type t = ended (first_text (type_pieces Alone t NoPieces))

pub next_type : (t : Ty) (more : Pieces) → spaced_text (type_pieces Alone t more) ≡ spaced_text (type_pieces Alone t NoPieces) ++ spaced_text more
next_type TInt more = refl
next_type t more = spaced (first_text (type_pieces Alone t NoPieces)) more

-- the head of an application stands in front of its arguments
pub headed_type : (t : Ty) (more : Pieces) → pieces_text (type_pieces AsHead t more) ≡ pieces_text (type_pieces AsHead t NoPieces) ++ spaced_text more
headed_type (TApp t u) more =
    headed_type t (type_pieces Alone u more)
    ∙ twice (pieces_text (type_pieces AsHead t NoPieces)) (type_pieces Alone u more) more (spaced_text (type_pieces Alone u NoPieces)) (next_type u more) _ (sym (headed_type t (type_pieces Alone u NoPieces)))
headed_type t more = padded (first_text (type_pieces Alone t NoPieces)) more

pub ruleset next_kind_rules = (append_assoc, alone_kind)

pub ruleset next_type_rules = (append_assoc, alone_type)

pub ruleset forall_rules = (ty_rules, append_assoc, alone_type)

pub ruleset kind_rules = (ty_rules, append_assoc, append-nil, next_kind)

pub ruleset type_rules = (ty_rules, append_assoc, append-nil, next_kind, next_type, headed_type)

pub ruleset part_rules = (append_assoc, append-nil, next_type)
