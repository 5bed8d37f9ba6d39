use Rattle.std.proofs.Common.{◌≡◌, ◌<◌, ℕ, [], true, Some}
use Rattle.std.specs.Prelude.{slice_get}
use Rattle.fc_model.specs.NamelessView.{nmodules_of}
use Rattle.fc_type_table.specs.TypeTables.{Grows}
use Rattle.fc_simplify.specs.Phase.{Continues, FirstHasSpare, IsSettled, KeepsHeaders}
use Rattle.fc_simplify.proofs.settling.settle_all.Given as goal

-- what was done so far
abbrev pub invariant-loop-number : goal.invariant-loop-number
invariant-loop-number l = record {
  continues : Continues (nmodules_of l.fn.modules) (nmodules_of l.modules) l.fn.log l.log;
  keeps : KeepsHeaders (nmodules_of l.fn.modules) (nmodules_of l.modules);
  grows : Grows l.fn.types l.types;
  spare : FirstHasSpare l.left (nmodules_of l.modules);
  unchanged : l.changed.items ≡ [] → (l.modules ≡ l.fn.modules) × (l.left ≡ l.spare);
  settled : l.changed.items ≡ [] → (i : ℕ) → i < l.number → slice_get l.firsts i ≡ Some true → IsSettled l.spare i (nmodules_of l.fn.modules);
}
