use Rattle.std.proofs.Common.{◌≡◌, ◌≤◌, drop, length}
use Rattle.fc_syntax.specs.View.{kind_of}
use Rattle.fc_model.specs.Kinding.{arrows}
use Rattle.fc_model.specs.NamelessView.{nplains_of}
use Rattle.fc_types.specs.ModuleViews.{modules_of}
use Rattle.fc_type_table.specs.Nodes.{Extends, IsKindAt, kind_at}
use Rattle.fc_type_table.proofs.table.TypeTable.kind_over_plains.Given as goal

-- the kind over the parameters that are done
abbrev pub invariant-loop-count : goal.invariant-loop-count
invariant-loop-count l = record {
  in_range : l.count ≤ length l.params;
  valid : IsKindAt l.self.nodes.keys l.kind.0;
  so_far : kind_at l.self.nodes.keys l.kind.0 ≡ arrows (nplains_of (drop l.count l.params)) (kind_of l.of);
  extends : Extends l.fn.self.nodes.keys l.self.nodes.keys;
  modules : modules_of l.self.declared.now ≡ modules_of l.fn.self.declared.now;
}

abbrev pub decreases-loop-count : goal.decreases-loop-count
decreases-loop-count l = l.count
