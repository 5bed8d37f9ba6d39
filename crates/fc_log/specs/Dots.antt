-- What stands behind the first part number of a path.
use Rattle.std.specs.Prelude.{ℕ, List, [], ◌∷◌, ◌++◌}
use Rattle.std.specs.Fmt.{decimal}

-- a dot before each number
abbrev pub dotted_text : List ℕ → List ℕ
dotted_text [] = []
dotted_text (n ∷ ns) = 46 ∷ (decimal n ++ dotted_text ns)
