-- What is refused at a byte of a file.
use Rattle.std.specs.Prelude.{◌≡◌, ⊤, ℕ, List, None}
use Rattle.fc_syntax.specs.declared.fault.FaultKind.{FaultKind}
use Rattle.fc_syntax.specs.declared.fault.Place.TheVariants as place
use Rattle.fc_syntax.specs.declared.fault.Refusal.{Refusal}
use Rattle.fc_syntax.specs.declared.fault.Refusal.TheVariants as refusal

-- a fault of this kind at this byte of this file, in no declaration, or out of memory
abbrev pub IsRefusalAt : List ℕ → FaultKind → ℕ → Refusal → Type 0
IsRefusalAt file k at (refusal.Fault f) = f ≡ record { kind = k; «module» = file; def = None; path = place.Byte at }
IsRefusalAt file k at refusal.Memory = ⊤
