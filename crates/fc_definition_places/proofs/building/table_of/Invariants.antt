use Rattle.std.proofs.Common.{◌≡◌, drop}
use Rattle.fc_syntax.specs.Tree.{Word}
use Rattle.fc_model.specs.NamelessView.{nmodules_of}
use Rattle.fc_definition_places.specs.Building.{place_before}
use Rattle.fc_definition_places.specs.Places.{place_in}
use Rattle.fc_definition_places.proofs.building.table_of.Given as goal

abbrev pub invariant-loop-number : goal.invariant-loop-number
invariant-loop-number l = (m w : Word) → place_before l.words l.table l.number (nmodules_of (drop l.number l.modules)) m w ≡ place_in (nmodules_of l.modules) m w
