-- What a walk has done that puts a type in for a variable, or that binds one.
use Rattle.std.specs.Prelude.{◌≡◌, ℕ, ◌<◌, List, Option, Some, length}
use Rattle.indexmap.specs.IndexMap.{IndexMap, get}
use Rattle.fc_type_table.specs.Trees.{closed_over, opened}
use Rattle.fc_type_table.specs.Nodes.{tree_at}
use Rattle.fc_type_table.specs.declared.node.Node.{Node}
use Rattle.fc_type_table.specs.declared.node.TypeId.{TypeId}
use Rattle.fc_type_table.specs.declared.spot.Spot.{Spot}
use Rattle.fc_type_table.specs.contracts.spot.SpotPartialEq.TheImpl as of_spots

-- what is noted at a spot
abbrev pub noted : {S : Type 0} → IndexMap Spot TypeId S → Spot → Option TypeId
noted done s = get of_spots.eq-value.it done s

-- each answer that is noted is right: the part of its spot with the type of the number by put in
pub record Opened {S : Type 0} (ns : List Node) (by : ℕ) (done : IndexMap Spot TypeId S) : Type 0 where
  pub from : (s : Spot) (r : TypeId) → noted done s ≡ Some r → s.part.0 < length ns
  pub into : (s : Spot) (r : TypeId) → noted done s ≡ Some r → r.0 < length ns
  pub right : (s : Spot) (r : TypeId) → noted done s ≡ Some r → tree_at ns r.0 ≡ opened s.depth (tree_at ns by) (tree_at ns s.part.0)

-- each answer that is noted is right: the part of its spot with the variable of a level bound
pub record Closed {S : Type 0} (ns : List Node) (level : ℕ) (done : IndexMap Spot TypeId S) : Type 0 where
  pub from : (s : Spot) (r : TypeId) → noted done s ≡ Some r → s.part.0 < length ns
  pub into : (s : Spot) (r : TypeId) → noted done s ≡ Some r → r.0 < length ns
  pub right : (s : Spot) (r : TypeId) → noted done s ≡ Some r → tree_at ns r.0 ≡ closed_over level s.depth (tree_at ns s.part.0)
