use Rattle.std.proofs.Common.{◌≡◌, drop}
use Rattle.std.specs.List.{flat_map}
use Rattle.fc_model.specs.NamelessView.{ncons_of}
use Rattle.fc_model.specs.Resolution.{plus_all}
use Rattle.fc_model.specs.WordSets.{set_of}
use Rattle.fc_headers.specs.NamelessHeaders.{modules_in_constructor}
use Rattle.fc_headers.proofs.mentioned.in_constructors.Given as goal

abbrev pub invariant-loop-x : goal.invariant-loop-x
invariant-loop-x l =
    plus_all (flat_map modules_in_constructor (ncons_of (drop l.x-index l.items))) (set_of l.to)
    ≡ plus_all (flat_map modules_in_constructor (ncons_of l.items)) (set_of l.fn.to)
