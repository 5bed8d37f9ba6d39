-- The parts of a type that is walked over.
use Rattle.std.specs.Prelude.{ℕ}
use Rattle.fc_model.specs.Nameless.{NTy}
use Rattle.fc_type_trees.specs.declared.walk.Walk.{Walk}
use Rattle.fc_type_table.specs.Nodes.{tree_at}
use Rattle.fc_type_table.specs.Scopes.{indexed}
use Rattle.fc_type_table.specs.TypeTables.{nodes_of}
use Rattle.fc_type_table.specs.declared.node.TypeId.{TypeId}

-- what the part of a number shows below so many binders of the type
abbrev pub part_of : Walk → ℕ → TypeId → NTy
part_of walk binders id = indexed walk.variables binders (tree_at (nodes_of walk.types.now) id.0)
