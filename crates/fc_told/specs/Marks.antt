-- Marks of the definitions whose right sides are told, one after the other.
use Rattle.std.specs.Prelude.{Bool, true, false, List, [], ◌∷◌}
use Rattle.fc_model.specs.Nameless.{NDecl, NDef, NWrap, NFail}

-- a definition without a mark is not told
abbrev pub first_mark : List Bool → Bool
first_mark [] = false
first_mark (b ∷ bs) = b

abbrev pub other_marks : List Bool → List Bool
other_marks [] = []
other_marks (b ∷ bs) = bs

abbrev pub is_definition : NDecl → Bool
is_definition (NDef n t e) = true
is_definition (NWrap n t e) = true
is_definition d = false

-- a definition that fails at its type
abbrev pub untold_decl : NDecl → NDecl
untold_decl (NDef n t e) = NDef n t (NFail t)
untold_decl (NWrap n t e) = NDef n t (NFail t)
untold_decl d = d
