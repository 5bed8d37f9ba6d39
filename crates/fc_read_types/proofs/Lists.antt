-- Lists of trees, as the grammar gives them and as they are seen.
use Rattle.std.proofs.Common.{◌≡◌, List, [], ◌∷◌, map, refl, ap}
use Rattle.fc_syntax.specs.Tree.{Word, MoreCos}
use Rattle.fc_syntax.specs.View.{co_of, cos_of}
use Rattle.fc_syntax.specs.declared.co.Co as G
use Rattle.fc_model.specs.Grammar.{cos_from}

pub cos_are : (gs : List (G.Co Word)) → cos_from (map co_of gs) ≡ cos_of gs
cos_are [] = refl
cos_are (g ∷ gs) = ap (MoreCos (co_of g)) (cos_are gs)
