-- What a table notes of names, and of types that were put in for variables.
use Rattle.std.specs.Prelude.{◌≡◌, ◌<◌, List, Option, Some, length}
use Rattle.indexmap.specs.IndexMap.{IndexMap, get}
use Rattle.fc_type_table.specs.Trees.{LCon, opened}
use Rattle.fc_type_table.specs.Nodes.{tree_at}
use Rattle.fc_type_table.specs.declared.instance.Instance.{Instance}
use Rattle.fc_type_table.specs.declared.node.Node.{Node}
use Rattle.fc_type_table.specs.declared.node.TypeId.{TypeId}
use Rattle.fc_type_table.specs.Names.{name_of}
use Rattle.fc_type_table.specs.declared.node.NameKey.{NameKey}
use Rattle.fc_type_table.specs.contracts.node.NameKeyPartialEq.TheImpl as of_keys
use Rattle.fc_type_table.specs.contracts.instance.InstancePartialEq.TheImpl as of_instances

-- what is noted of an instance
abbrev pub instance_noted : {S : Type 0} → IndexMap Instance TypeId S → Instance → Option TypeId
instance_noted done i = get of_instances.eq-value.it done i

-- each answer that is noted is right: the body with the type put in for its variable
pub record Instances {S : Type 0} (ns : List Node) (done : IndexMap Instance TypeId S) : Type 0 where
  pub body_in : (i : Instance) (r : TypeId) → instance_noted done i ≡ Some r → i.body.0 < length ns
  pub by_in : (i : Instance) (r : TypeId) → instance_noted done i ≡ Some r → i.by.0 < length ns
  pub into : (i : Instance) (r : TypeId) → instance_noted done i ≡ Some r → r.0 < length ns
  pub right : (i : Instance) (r : TypeId) → instance_noted done i ≡ Some r → tree_at ns r.0 ≡ opened 0 (tree_at ns i.by.0) (tree_at ns i.body.0)

-- what is noted of a name
abbrev pub name_noted : {S : Type 0} → IndexMap NameKey TypeId S → NameKey → Option TypeId
name_noted done k = get of_keys.eq-value.it done k

-- each answer that is noted is right: the type of the name
pub record NamesNoted {S : Type 0} (ns : List Node) (done : IndexMap NameKey TypeId S) : Type 0 where
  pub into : (k : NameKey) (r : TypeId) → name_noted done k ≡ Some r → r.0 < length ns
  pub right : (k : NameKey) (r : TypeId) → name_noted done k ≡ Some r → tree_at ns r.0 ≡ LCon (name_of k)
