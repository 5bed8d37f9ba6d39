use Rattle.std.proofs.Common.{◌≡◌, drop}
use Rattle.std.specs.List.{list_all}
use Rattle.fc_syntax.specs.View.{cons_of}
use Rattle.fc_model.specs.ReadFaults.{con_counts_fit}
use Rattle.fc_reader.proofs.limits.constructors_fit.Given as goal

abbrev pub invariant-loop-con : goal.invariant-loop-con
invariant-loop-con l = list_all con_counts_fit (cons_of l.cons) ≡ list_all con_counts_fit (cons_of (drop l.con-index l.cons))
