use Rattle.std.proofs.Common.{◌≡◌, ◌≤◌, ◌++◌, length, reverse, take}
use Rattle.fc_model.specs.Coercing.{paired}
use Rattle.fc_model.specs.NamelessView.{nparams_of}
use Rattle.fc_model.specs.Needs.{param_roles}
use Rattle.fc_type_scope.specs.EndViews.{AreEndsAt, shown_all_ends_at}
use Rattle.fc_type_scope.specs.Scopes.{scope_in, shown_all}
use Rattle.fc_type_table.specs.TypeTables.{nodes_of}
use Rattle.fc_coercion_forms.proofs.parts.pairs.Given as goal

-- the pairs so far, before those that are still to come
abbrev pub invariant-loop-left : goal.invariant-loop-left
invariant-loop-left l = record {
  within : l.left ≤ length l.lefts;
  valid : AreEndsAt (nodes_of l.types) (scope_in l.scope) l.group;
  so_far : paired l.role (param_roles (nparams_of l.params)) (reverse (shown_all l.types (scope_in l.scope) l.lefts)) (reverse (shown_all l.types (scope_in l.scope) l.rights))
      ≡ shown_all_ends_at (nodes_of l.types) (scope_in l.scope) l.group
      ++ paired l.role (param_roles (nparams_of l.roles)) (reverse (shown_all l.types (scope_in l.scope) (take l.left l.lefts)))
      (reverse (shown_all l.types (scope_in l.scope) (take l.left l.rights)));
}

abbrev pub decreases-loop-left : goal.decreases-loop-left
decreases-loop-left l = l.left
