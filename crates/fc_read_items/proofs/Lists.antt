-- Lists of demands, as the grammar gives them and as they are seen.
use Rattle.std.proofs.Common.{◌≡◌, List, [], ◌∷◌, map, refl, ap}
use Rattle.fc_syntax.specs.Demands.{MoreDemands}
use Rattle.fc_model.specs.Grammar.{demands_from}
use Rattle.fc_lattice.specs.View.{demand_of, demands_of}
use Rattle.fc_lattice.specs.declared.demand.Demand as D

pub demands_are : (ds : List D.Demand) → demands_from (map demand_of ds) ≡ demands_of ds
demands_are [] = refl
demands_are (d ∷ ds) = ap (MoreDemands (demand_of d)) (demands_are ds)
