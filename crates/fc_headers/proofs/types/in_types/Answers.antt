use Rattle.std.proofs.Common.{arith}
use Rattle.std.proofs.lemmas.List.Concat.{flat_map-cons}
use Rattle.fc_model.specs.NamelessView.{nty_of, ntys_of}
use Rattle.fc_headers.specs.NamelessHeaders.{modules_in_type, modules_in_types}
use Rattle.fc_headers.proofs.WordSteps.{item_added}
use Rattle.fc_headers.proofs.types.in_types.Goals as goal

pub loop-x-preserved : goal.loop-x-preserved
loop-x-preserved c =
    item_added (λ xs. modules_in_types (ntys_of xs)) (λ x. modules_in_type (nty_of x))
    (λ x xs. flat_map-cons modules_in_type (nty_of x) (ntys_of xs))
    c.args.items.now c.loop-x.x-index c.x-item.result _ _ _ c.loop-x.invariant (omega arith) c.x-item.is c.in_ok-in_type.ensures
