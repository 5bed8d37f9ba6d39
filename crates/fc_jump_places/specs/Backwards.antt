-- A place whose part numbers are listed from the innermost part outwards, as a walk finds them on its way back.
use Rattle.std.specs.Prelude.{ℕ, List, Option, reverse}
use Rattle.std.specs.Option.{option_map}
use Rattle.std.specs.declared.vec.Vec.{Vec}

-- the place, where one is found
abbrev pub place_of : {A : Type 0} → Option (Vec ℕ A) → Option (List ℕ)
place_of o = option_map (λ v. reverse v.items) o
