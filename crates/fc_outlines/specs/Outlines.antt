-- The outline of a module: all that it declares, imports, exports and hides, and the types of its definitions, but `0` in place of each right side.
use Rattle.std.specs.Prelude.{List, map, pos}
use Rattle.fc_model.specs.Nameless.{NLit, NDecl, NData, NNew, NFamily, NAxiom, NDef, NWrap, NModule, NModuleOf}

abbrev pub outlined_decl : NDecl → NDecl
outlined_decl (NData n ps cs) = NData n ps cs
outlined_decl (NNew n ps t con) = NNew n ps t con
outlined_decl (NFamily n ps k) = NFamily n ps k
outlined_decl (NAxiom n ps t u) = NAxiom n ps t u
outlined_decl (NDef n t e) = NDef n t (NLit (pos 0))
outlined_decl (NWrap n t e) = NWrap n t (NLit (pos 0))

abbrev pub outlined : NModule → NModule
outlined (NModuleOf n imports exports hidden ds) = NModuleOf n imports exports hidden (map outlined_decl ds)

abbrev pub outlined_all : List NModule → List NModule
outlined_all ms = map outlined ms
