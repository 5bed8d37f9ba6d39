use Rattle.std.proofs.Common.{◌≡◌, ◌++◌, drop}
use Rattle.fc_model.specs.Kinding as words
use Rattle.fc_model.specs.NamelessView.{nparams_of}
use Rattle.fc_type_table.specs.InScope.{AreNumbered, own_kinds}
use Rattle.fc_type_table.specs.TypeTables.{Grows, nodes_of}
use Rattle.fc_lint_context.proofs.constructors.param_kinds.Given as goal

-- the kinds so far, before those that are still to come
abbrev pub invariant-loop-param : goal.invariant-loop-param
invariant-loop-param l = record {
  grows : Grows l.initial.types l.types;
  numbered : AreNumbered (nodes_of l.types) l.kinds;
  so_far : words.param_kinds (nparams_of l.params) ≡ own_kinds l.kinds ++ words.param_kinds (nparams_of (drop l.param-index l.params));
}
