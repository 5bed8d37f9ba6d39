use Rattle.std.proofs.Common.{◌≡◌, drop}
use Rattle.fc_model.specs.NamelessView.{ntys_of}
use Rattle.fc_model.specs.Resolution.{plus_all}
use Rattle.fc_model.specs.WordSets.{set_of}
use Rattle.fc_headers.specs.NamelessHeaders.{modules_in_types}
use Rattle.fc_headers.proofs.types.in_types.Given as goal

abbrev pub invariant-loop-x : goal.invariant-loop-x
invariant-loop-x l =
    plus_all (modules_in_types (ntys_of (drop l.x-index l.items))) (set_of l.to)
    ≡ plus_all (modules_in_types (ntys_of l.items)) (set_of l.fn.to)
