-- What is resolved so far, before what is still to come.
use Rattle.std.specs.Prelude.{ℕ, List, [], ◌∷◌, ◌++◌, map, Result, Ok, Err}
use Rattle.fc_syntax.specs.declared.co.Co as G
use Rattle.fc_model.specs.Faulting.{F}
use Rattle.fc_model.specs.Nameless.{NCos, MoreNCos}
use Rattle.fc_model.specs.NamelessView.{nco_of}

unfoldable pub with_items : {X Y : Type 0} → (X → Y) → List X → Result (List Y) F → Result (List Y) F
with_items view items (Ok rest) = Ok (map view items ++ rest)
with_items view items (Err f) = Err f

abbrev pub cos_before : List (G.Co ℕ) → NCos → NCos
cos_before [] rest = rest
cos_before (x ∷ items) rest = MoreNCos (nco_of x) (cos_before items rest)

unfoldable pub with_cos : List (G.Co ℕ) → Result NCos F → Result NCos F
with_cos items (Ok rest) = Ok (cos_before items rest)
with_cos items (Err f) = Err f
