-- A text as brackets around words, with one space between parts and none inside brackets at the ends.
use Rattle.std.specs.Prelude.{ℕ, ℤ, List, [], ◌∷◌, ◌++◌, codes}
use Rattle.std.specs.Fmt.{decimal, signed_decimal}
use Rattle.fc_syntax.specs.Keywords.{keyword_text}
use Rattle.fc_syntax.specs.Primitives.{operator_text}
use Rattle.fc_model.specs.Words.{Tok, Open, Close, Key, Lower, Upper, LowerOf, UpperOf, Star, Hash, Arrow, Operator, Literal, Number, Other}

mutual
  pub data Piece : Type 0 where
    Leaf : (t : Tok) → Piece
    Group : (ps : Pieces) → Piece

  pub data Pieces : Type 0 where
    NoPieces : Pieces
    MorePieces : (p : Piece) (rest : Pieces) → Pieces

-- a literal in decimal digits, without leading zeros
abbrev pub literal_text : ℤ → List ℕ
literal_text n = signed_decimal n ++ codes "#"

abbrev pub tok_text : Tok → List ℕ
tok_text Open = codes "("
tok_text Close = codes ")"
tok_text (Key k) = keyword_text k
tok_text (Lower w) = w
tok_text (Upper w) = w
tok_text (LowerOf m w) = m ++ 46 ∷ w
tok_text (UpperOf m w) = m ++ 46 ∷ w
tok_text Star = codes "*"
tok_text Hash = codes "#"
tok_text Arrow = codes "->"
tok_text (Operator o) = operator_text o
tok_text (Literal n) = literal_text n
tok_text (Number n) = decimal n
tok_text Other = []

abbrev mutual
  pub piece_text : Piece → List ℕ
  piece_text (Leaf t) = tok_text t
  piece_text (Group ps) = codes "(" ++ (pieces_text ps ++ codes ")")

  -- one space between two
  pub pieces_text : Pieces → List ℕ
  pieces_text NoPieces = []
  pieces_text (MorePieces p rest) = piece_text p ++ spaced_text rest

  -- one space before each
  pub spaced_text : Pieces → List ℕ
  spaced_text NoPieces = []
  spaced_text (MorePieces p rest) = 32 ∷ (piece_text p ++ spaced_text rest)

-- the first of them alone
abbrev pub first_text : Pieces → List ℕ
first_text NoPieces = []
first_text (MorePieces p rest) = piece_text p

-- the tokens of a piece, and those behind it
abbrev mutual
  pub piece_toks : Piece → List Tok → List Tok
  piece_toks (Leaf t) more = t ∷ more
  piece_toks (Group ps) more = Open ∷ pieces_toks ps (Close ∷ more)

  pub pieces_toks : Pieces → List Tok → List Tok
  pieces_toks NoPieces more = more
  pieces_toks (MorePieces p rest) more = piece_toks p (pieces_toks rest more)
