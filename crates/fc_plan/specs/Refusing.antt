-- What a refusal tells of a set of modules.
use Rattle.std.specs.Prelude.{◌≡◌, ⊤, Option, Some, None}
use Rattle.fc_syntax.specs.declared.fault.Place.TheVariants.{Nowhere}
use Rattle.fc_syntax.specs.declared.fault.Refusal.{Refusal}
use Rattle.fc_syntax.specs.declared.fault.Refusal.TheVariants.{Fault, Memory}
use Rattle.fc_model.specs.Planning.{PlanFault, of_file}

-- a refusal tells the fault, which stands at its module and in no declaration, or that memory ran out
abbrev pub Tells : Option PlanFault → Refusal → Type 0
Tells None (Fault f) = ⊥
Tells (Some p) (Fault f) = f ≡ of_file p.kind p.name Nowhere
Tells None Memory = ⊤
Tells (Some p) Memory = ⊤
