-- The one printed text of a module.
use Rattle.std.specs.Prelude.{ℕ, List, [], ◌∷◌, ◌++◌, codes}
use Rattle.fc_syntax.specs.Tree.{Word, Ty, Expr, Decl, Module, ModuleOf}
use Rattle.fc_model.specs.Pieces.{NoPieces, first_text, piece_text}
use Rattle.fc_model.specs.Spelling.{Alone, decl_piece, expr_pieces, type_pieces}

-- a type, an expression and a declaration by themselves
abbrev pub type_text : Ty → List ℕ
type_text t = first_text (type_pieces Alone t NoPieces)

abbrev pub expr_text : Expr → List ℕ
expr_text e = first_text (expr_pieces Alone e NoPieces)

abbrev pub decl_text : Decl → List ℕ
decl_text d = piece_text (decl_piece d)

-- one space before each word
abbrev pub words_text : List Word → List ℕ
words_text [] = []
words_text (w ∷ ws) = 32 ∷ (w ++ words_text ws)

-- a part of the header, behind the text that opens it
abbrev pub part_text : List ℕ → List Word → List ℕ
part_text opening ws = opening ++ (words_text ws ++ codes ")")

-- the part stands only where it has a name
abbrev pub hidden_text : List Word → List ℕ
hidden_text [] = []
hidden_text (w ∷ ws) = part_text (codes " (hidden") (w ∷ ws)

-- the header behind its first bracket and word, on the first line
abbrev pub header_text : Module → List ℕ
header_text (ModuleOf m imports exports hidden ds) =
    m ++ (part_text (codes " (imports") imports ++ (part_text (codes " (exports") exports ++ hidden_text hidden))

-- each declaration on a line of its own after one space
abbrev pub decls_text : List Decl → List ℕ
decls_text [] = []
decls_text (d ∷ ds) = codes "\n " ++ (decl_text d ++ decls_text ds)

-- one space between parts, and one line feed at the end
abbrev pub canonical : Module → List ℕ
canonical (ModuleOf m imports exports hidden ds) =
    codes "(module " ++ (header_text (ModuleOf m imports exports hidden ds) ++ (decls_text ds ++ codes ")\n"))
