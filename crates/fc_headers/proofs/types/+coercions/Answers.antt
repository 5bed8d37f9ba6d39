use Rattle.std.proofs.Common.{arith, refl}
use Rattle.fc_model.specs.NamelessView.{nco_of, ncos_of}
use Rattle.fc_headers.specs.NamelessHeaders.{modules_in_coercion, modules_in_coercions}
use Rattle.fc_headers.proofs.WordSteps.{item_added}
use Rattle.fc_headers.proofs.types.+coercions.Goals as goal

pub in_coercions-loop-x-preserved : goal.in_coercions-loop-x-preserved
in_coercions-loop-x-preserved t c =
    item_added (λ xs. modules_in_coercions (ncos_of xs)) (λ x. modules_in_coercion (nco_of x)) (λ x xs. refl)
    c.args.items.now c.loop-x.x-index c.x-item.result _ _ _ c.loop-x.invariant (omega arith) c.x-item.is c.in_ok-in_coercion.ensures
