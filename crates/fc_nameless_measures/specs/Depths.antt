-- How deep declarations are together: as the deepest of them.
use Rattle.std.specs.Prelude.{ℕ, max, List, [], ◌∷◌}
use Rattle.fc_syntax.specs.GenericTree.{Decl}
use Rattle.fc_syntax.specs.Measures.{depth_of}

abbrev pub decls_depth : {L V B : Type 0} → List (Decl L V B) → ℕ
decls_depth [] = 0
decls_depth (d ∷ ds) = max (depth_of d) (decls_depth ds)
