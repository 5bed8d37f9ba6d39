use Rattle.fc_model.specs.NamelessView.{nmodules_of}
use Rattle.fc_type_table.specs.TypeTables.{Grows}
use Rattle.fc_simplify.specs.Phase.{Continues, FirstHasSpare, KeepsHeaders}
use Rattle.fc_simplify.proofs.settling.settle_waiting.Given as goal

-- what was done so far
abbrev pub invariant-loop : goal.invariant-loop
invariant-loop l = record {
  continues : Continues (nmodules_of l.fn.modules) (nmodules_of l.modules) l.fn.log l.log;
  keeps : KeepsHeaders (nmodules_of l.fn.modules) (nmodules_of l.modules);
  grows : Grows l.fn.types l.types;
  spare : FirstHasSpare l.left (nmodules_of l.modules);
}
