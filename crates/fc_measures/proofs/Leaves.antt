-- Lists of pieces that a view maps.
use Rattle.std.proofs.Common.{◌≡◌, List, [], ◌∷◌, length, map, min, arith}
use Rattle.std.proofs.lemmas.List.{length-map}
use Rattle.fc_syntax.specs.Measures.{leaves_depth}

-- pieces without parts are as deep as their number, up to one
pub leaves : {A B : Type 0} (f : A → B) (xs : List A) → leaves_depth (map f xs) ≡ min (length xs) 1
leaves f [] = omega arith
leaves f (x ∷ xs) = omega arith

pub map_length : {A B : Type 0} (f : A → B) (xs : List A) → length (map f xs) ≡ length xs
map_length f xs = length-map xs f

pub ruleset leaf_rules = (leaves, map_length)
