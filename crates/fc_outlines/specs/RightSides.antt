-- Declarations that are the same but for the right side of one definition.
use Rattle.std.specs.Prelude.{List, ◌∷◌}
use Rattle.fc_syntax.specs.Tree.{Word}
use Rattle.fc_model.specs.Nameless.{NTy, NExpr, NDecl, NDef, NWrap}

-- the old right side and the new one are related by R
pub data Righted (R : NExpr → NExpr → Type 0) : List NDecl → List NDecl → Type 0 where
  righted_def : {n : Word} {t : NTy} {e f : NExpr} {ds : List NDecl} → R e f → Righted R (NDef n t e ∷ ds) (NDef n t f ∷ ds)
  righted_wrap : {n : Word} {t : NTy} {e f : NExpr} {ds : List NDecl} → R e f → Righted R (NWrap n t e ∷ ds) (NWrap n t f ∷ ds)
  righted_later : {d : NDecl} {ds es : List NDecl} → Righted R ds es → Righted R (d ∷ ds) (d ∷ es)
