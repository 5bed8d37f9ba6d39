-- What a module knows of its imports: modules as their interfaces tell them.
use Rattle.std.specs.Prelude.{Bool, if◌then◌else◌, List, [], ◌∷◌, ◌++◌}
use Rattle.fc_syntax.specs.Tree.{Word}
use Rattle.fc_model.specs.Nameless.{NDecl, NData, NNew, NFamily, NAxiom, NDef, NWrap, NModule, NModuleOf, NFail}
use Rattle.fc_model.specs.Planning.{is_among}

-- Declarations as an interface tells them. Truth values, one for each definition, say whether its right side is told; one that is not is a `def` that
-- fails.
abbrev pub told_declarations : List Bool → List NDecl → List NDecl
told_declarations bs [] = []
told_declarations bs (NData n ps cs ∷ ds) = NData n ps cs ∷ told_declarations bs ds
told_declarations bs (NNew n ps t con ∷ ds) = NNew n ps t con ∷ told_declarations bs ds
told_declarations bs (NFamily n ps k ∷ ds) = NFamily n ps k ∷ told_declarations bs ds
told_declarations bs (NAxiom n ps t u ∷ ds) = NAxiom n ps t u ∷ told_declarations bs ds
told_declarations [] (NDef n t e ∷ ds) = NDef n t (NFail t) ∷ told_declarations [] ds
told_declarations [] (NWrap n t e ∷ ds) = NDef n t (NFail t) ∷ told_declarations [] ds
told_declarations (b ∷ bs) (NDef n t e ∷ ds) = (if b then NDef n t e else NDef n t (NFail t)) ∷ told_declarations bs ds
told_declarations (b ∷ bs) (NWrap n t e ∷ ds) = (if b then NWrap n t e else NDef n t (NFail t)) ∷ told_declarations bs ds

abbrev pub told_module : List Bool → NModule → NModule
told_module bs (NModuleOf m imports exports hidden ds) = NModuleOf m imports exports hidden (told_declarations bs ds)

-- of modules, the last built first, those that these words reach by imports
abbrev pub reached_among : List Word → List NModule → List NModule
reached_among ws [] = []
reached_among ws (NModuleOf m imports exports hidden ds ∷ xs) =
    if is_among ws m then NModuleOf m imports exports hidden ds ∷ reached_among (ws ++ imports) xs else reached_among ws xs

-- of modules, the last built first, those that the imports of a module reach, directly or through others
abbrev pub reached_by_imports : NModule → List NModule → List NModule
reached_by_imports (NModuleOf m imports exports hidden ds) xs = reached_among imports xs
