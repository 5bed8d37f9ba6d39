use Rattle.std.proofs.Common.{◌≡◌, drop}
use Rattle.fc_model.specs.NamelessView.{ncos_of}
use Rattle.fc_model.specs.Resolution.{plus_all}
use Rattle.fc_model.specs.WordSets.{set_of}
use Rattle.fc_headers.specs.NamelessHeaders.{modules_in_coercions}
use Rattle.fc_headers.proofs.types.+coercions.Given as goal

abbrev pub invariant-in_coercions-loop-x : goal.invariant-in_coercions-loop-x
invariant-in_coercions-loop-x l =
    plus_all (modules_in_coercions (ncos_of (drop l.x-index l.items))) (set_of l.to)
    ≡ plus_all (modules_in_coercions (ncos_of l.items)) (set_of l.fn.to)
