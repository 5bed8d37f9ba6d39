use Rattle.std.proofs.Common.{◌≡◌, ◌<◌, ◌≤◌, drop, length, take}
use Rattle.fc_model.specs.Calling.{over_binders, type_count}
use Rattle.fc_model.specs.NamelessView.{nbinders_of}
use Rattle.fc_model.specs.Substituting.{raised_type}
use Rattle.fc_type_table.specs.InScope.{kinds_of}
use Rattle.fc_types.specs.ModuleViews.{modules_of}
use Rattle.fc_type_table.specs.Binders.{kinds_past}
use Rattle.fc_type_table.specs.Nodes.{Extends, tree_at}
use Rattle.fc_type_table.specs.Scopes.{leveled}
use Rattle.fc_type_table.specs.TypeTables.{shown}
use Rattle.fc_type_table.proofs.table.TypeTable.read_over.Given as goal

-- the whole so far is the type over the binders that are done, under the binders that are left
abbrev pub invariant-loop-at : goal.invariant-loop-at
invariant-loop-at l = record {
  in_range : l.at ≤ length l.binders;
  count : l.count ≡ type_count (nbinders_of (take l.at l.binders));
  within : l.whole.0 < length l.self.nodes.keys;
  so_far : tree_at l.self.nodes.keys l.whole.0
      ≡ leveled l.variables (kinds_past (nbinders_of (take l.at l.binders)) (kinds_of l.outer)) l.count
      (over_binders (nbinders_of (drop l.at l.binders)) (raised_type (type_count (nbinders_of l.binders)) (shown l.fn.self (kinds_of l.outer) l.fn.answer)));
  extends : Extends l.fn.self.nodes.keys l.self.nodes.keys;
  modules : modules_of l.self.declared.now ≡ modules_of l.fn.self.declared.now;
}

abbrev pub decreases-loop-at : goal.decreases-loop-at
decreases-loop-at l = l.at
