use Rattle.std.proofs.Common.{◌≡◌, drop}
use Rattle.fc_syntax.specs.Tree.{Word}
use Rattle.fc_model.specs.Calling.{first_of}
use Rattle.fc_model.specs.NamelessView.{ndecls_of}
use Rattle.fc_reaching.specs.Numbering.{number_from}
use Rattle.fc_definition_places.specs.Building.{in_module}
use Rattle.fc_definition_places.specs.Places.{place_at, placed}
use Rattle.fc_definition_places.proofs.building.put_definitions.Given as goal

abbrev pub invariant-loop-index : goal.invariant-loop-index
invariant-loop-index l = (m w : Word) →
    first_of (place_at l.table m w) (in_module l.qualifier m (placed l.number (number_from l.index (ndecls_of (drop l.index l.decls)) w)))
    ≡ first_of (place_at l.initial.table m w) (in_module l.qualifier m (placed l.number (number_from 0 (ndecls_of l.decls) w)))
