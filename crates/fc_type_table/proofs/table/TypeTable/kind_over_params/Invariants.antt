use Rattle.std.proofs.Common.{◌≡◌, ◌≤◌, drop, length}
use Rattle.fc_syntax.specs.Tree.{KStar}
use Rattle.fc_model.specs.Kinding.{arrows, param_kinds}
use Rattle.fc_model.specs.NamelessView.{nparams_of}
use Rattle.fc_types.specs.ModuleViews.{modules_of}
use Rattle.fc_type_table.specs.Nodes.{Extends, IsKindAt, kind_at}
use Rattle.fc_type_table.proofs.table.TypeTable.kind_over_params.Given as goal

-- the kind over the parameters that are done
abbrev pub invariant-loop-count : goal.invariant-loop-count
invariant-loop-count l = record {
  in_range : l.count ≤ length l.params;
  valid : IsKindAt l.self.nodes.keys l.kind.0;
  so_far : kind_at l.self.nodes.keys l.kind.0 ≡ arrows (param_kinds (nparams_of (drop l.count l.params))) KStar;
  extends : Extends l.fn.self.nodes.keys l.self.nodes.keys;
  modules : modules_of l.self.declared.now ≡ modules_of l.fn.self.declared.now;
}

abbrev pub decreases-loop-count : goal.decreases-loop-count
decreases-loop-count l = l.count
