use Rattle.std.proofs.Common.{drop}
use Rattle.fc_model.specs.NamelessView.{nmodule_of, nmodules_of}
use Rattle.fc_model.specs.WordSets.{set_of}
use Rattle.fc_rows.specs.Telling.{reached_by_imports}
use Rattle.fc_told.proofs.ReachedSoFar.{AreReached}
use Rattle.fc_told.proofs.reaching.reached.Given as goal

abbrev pub invariant-loop-x : goal.invariant-loop-x
invariant-loop-x l = AreReached (set_of l.words) l.all.items (drop l.x-index l.before) (reached_by_imports (nmodule_of l.m) (nmodules_of l.before))
