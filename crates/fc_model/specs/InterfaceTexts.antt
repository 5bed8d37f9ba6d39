-- The one printed text of an interface: demands, signatures, unfoldings and values as pieces, and the layout of a module.
use Rattle.std.specs.Prelude.{ℕ, List, [], ◌∷◌, ◌++◌, Bool, true, false, codes}
use Rattle.fc_syntax.specs.declared.keyword.Keyword.TheVariants as word
use Rattle.fc_syntax.specs.Tree.{Word, Ty, Decl, DDef, DWrap, ModuleOf}
use Rattle.fc_model.specs.Words.{Key, Lower, Upper}
use Rattle.fc_model.specs.Pieces.{Piece, Group, Pieces, NoPieces, piece_text}
use Rattle.fc_model.specs.Spelling.{Alone, expr_pieces, form, group, leaf, type_pieces, upper_tok}
use Rattle.fc_model.specs.Canonical.{decl_text, header_text}
use Rattle.fc_syntax.specs.Demands.{Demand, Bottom, Absent, Product, Strict, Lazy, Demands, NoDemands, MoreDemands, Sig, SigOf}
use Rattle.fc_model.specs.Grammar.{Interface, InterfaceOf}

abbrev mutual
  pub demand_pieces : Demand → Pieces → Pieces
  demand_pieces Bottom more = leaf (Upper (codes "B")) more
  demand_pieces Absent more = leaf (Upper (codes "A")) more
  demand_pieces (Product k fields) more = group (leaf (Upper (codes "P")) (leaf (upper_tok k) (demands_pieces fields NoPieces))) more
  demand_pieces Strict more = leaf (Upper (codes "S")) more
  demand_pieces Lazy more = leaf (Upper (codes "L")) more

  pub demands_pieces : Demands → Pieces → Pieces
  demands_pieces NoDemands more = more
  demands_pieces (MoreDemands d ds) more = demand_pieces d (demands_pieces ds more)

-- that calls diverge is said behind the demands
abbrev pub divergence_pieces : Bool → Pieces → Pieces
divergence_pieces true more = leaf (Key word.Diverges) more
divergence_pieces false more = more

abbrev pub sig_pieces : Sig → Pieces → Pieces
sig_pieces (SigOf args diverges) more = group (leaf (Lower (codes "sig")) (demands_pieces args (divergence_pieces diverges NoPieces))) more

-- the right side of a definition, where it is told
abbrev pub unfolding_pieces : Bool → Decl → Pieces → Pieces
unfolding_pieces true (DDef x t e) more = form word.Def (expr_pieces Alone e NoPieces) more
unfolding_pieces true (DWrap x t e) more = form word.Wrap (expr_pieces Alone e NoPieces) more
unfolding_pieces told d more = leaf (Key word.None) more

abbrev pub value_piece : Word → Ty → Sig → Bool → Decl → Piece
value_piece x t s told d = Group (leaf (Lower (codes "value")) (leaf (Lower x) (type_pieces Alone t (sig_pieces s (unfolding_pieces told d NoPieces)))))

-- each declaration on a line of its own after one space; a definition as a value, with the next signature and the next truth value
abbrev pub items_text : List Decl → List Sig → List Bool → List ℕ
items_text (DDef x t e ∷ ds) (s ∷ sigs) (b ∷ told) = codes "\n " ++ (piece_text (value_piece x t s b (DDef x t e)) ++ items_text ds sigs told)
items_text (DWrap x t e ∷ ds) (s ∷ sigs) (b ∷ told) = codes "\n " ++ (piece_text (value_piece x t s b (DWrap x t e)) ++ items_text ds sigs told)
items_text (DDef x t e ∷ ds) sigs told = []
items_text (DWrap x t e ∷ ds) sigs told = []
items_text [] sigs told = []
items_text (d ∷ ds) sigs told = codes "\n " ++ (decl_text d ++ items_text ds sigs told)

-- the layout of a module, with an item for each declaration
abbrev pub interface_text : Interface → List ℕ
interface_text (InterfaceOf (ModuleOf m imports exports hidden ds) sigs told) =
    codes "(interface 1 " ++ (header_text (ModuleOf m imports exports hidden ds) ++ (items_text ds sigs told ++ codes ")\n"))
