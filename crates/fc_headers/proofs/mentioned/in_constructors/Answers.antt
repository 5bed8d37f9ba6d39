use Rattle.std.proofs.Common.{arith}
use Rattle.std.proofs.lemmas.List.Concat.{flat_map-cons}
use Rattle.std.specs.List.{flat_map}
use Rattle.fc_model.specs.NamelessView.{nbinders_of, ncon_of, ncons_of, ntys_of}
use Rattle.fc_model.specs.WordSets.{set_of}
use Rattle.fc_headers.specs.NamelessHeaders.{modules_in_binders, modules_in_constructor, modules_in_types}
use Rattle.fc_headers.proofs.WordSteps.{both_added, item_added}
use Rattle.fc_headers.proofs.mentioned.in_constructors.Goals as goal

pub loop-x-preserved : goal.loop-x-preserved
loop-x-preserved c =
    item_added (λ xs. flat_map modules_in_constructor (ncons_of xs)) (λ x. modules_in_constructor (ncon_of x))
    (λ x xs. flat_map-cons modules_in_constructor (ncon_of x) (ncons_of xs))
    c.args.items.now c.loop-x.x-index c.x-item.result _ _ _ c.loop-x.invariant (omega arith) c.x-item.is
    (both_added (modules_in_binders (nbinders_of c.x-item.result.binders)) (modules_in_types (ntys_of c.x-item.result.fields)) _ (set_of c.in_binders.new.to) _
    (rw (← c.as_slice.ensures) c.in_ok-in_binders.ensures) (rw (← c.as_slice-in-loop-x.ensures) c.in_ok-in_types.ensures))
