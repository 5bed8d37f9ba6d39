-- Parameters count without their words as with them.
use Rattle.std.proofs.Common.{◌≡◌, List, [], ◌∷◌, map, refl}
use Rattle.fc_used_words.specs.Scoped.{Counts, in_parameters, in_type}

pub as_many_around : {X Y : Type 0} (f : X → Y) (ps : List X) (k : Counts) → in_parameters (map f ps) k ≡ in_parameters ps k
as_many_around f [] k = refl
as_many_around f (p ∷ ps) k = as_many_around f ps (in_type k)
