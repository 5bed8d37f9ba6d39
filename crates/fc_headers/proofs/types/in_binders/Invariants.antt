use Rattle.std.proofs.Common.{◌≡◌, drop}
use Rattle.fc_model.specs.NamelessView.{nbinders_of}
use Rattle.fc_model.specs.Resolution.{plus_all}
use Rattle.fc_model.specs.WordSets.{set_of}
use Rattle.fc_headers.specs.NamelessHeaders.{modules_in_binders}
use Rattle.fc_headers.proofs.types.in_binders.Given as goal

abbrev pub invariant-loop-x : goal.invariant-loop-x
invariant-loop-x l =
    plus_all (modules_in_binders (nbinders_of (drop l.x-index l.items))) (set_of l.to)
    ≡ plus_all (modules_in_binders (nbinders_of l.items)) (set_of l.fn.to)
