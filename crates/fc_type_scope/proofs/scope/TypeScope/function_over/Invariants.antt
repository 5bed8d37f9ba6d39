use Rattle.std.proofs.Common.{◌≡◌, ◌≤◌, length, take}
use Rattle.fc_model.specs.Calling.{over_binders, type_count}
use Rattle.fc_model.specs.NamelessView.{nbinders_of}
use Rattle.fc_type_scope.specs.Behind.{kinds_past, value_count}
use Rattle.fc_type_scope.specs.Scopes.{scope_in}
use Rattle.fc_type_table.specs.TypeTables.{Grows, IsType, shown}
use Rattle.fc_type_scope.proofs.scope.TypeScope.function_over.Given as goal

-- what takes arguments for the binders that are left and is then of the type so far is the whole
abbrev pub invariant-loop-at : goal.invariant-loop-at
invariant-loop-at l = record {
  within : l.at ≤ length l.binders;
  kinds : l.counts.kinds ≡ type_count (nbinders_of (take l.at l.binders));
  values : l.counts.values ≡ value_count (nbinders_of (take l.at l.binders));
  valid : IsType l.types (kinds_past (nbinders_of (take l.at l.binders)) (scope_in l.self)) l.whole;
  view : over_binders (nbinders_of (take l.at l.binders)) (shown l.types (kinds_past (nbinders_of (take l.at l.binders)) (scope_in l.self)) l.whole)
      ≡ over_binders (nbinders_of l.binders) (shown l.fn.types (kinds_past (nbinders_of l.binders) (scope_in l.self)) l.fn.answer);
  grows : Grows l.fn.types l.types;
}

abbrev pub decreases-loop-at : goal.decreases-loop-at
decreases-loop-at l = l.at
