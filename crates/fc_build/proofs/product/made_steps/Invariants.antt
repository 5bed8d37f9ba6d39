use Rattle.fc_model.specs.NamelessView.{nmodules_of}
use Rattle.fc_words.specs.Asking.{order_of}
use Rattle.fc_build.specs.Delivering.{steps_in}
use Rattle.fc_build.proofs.InOrder.{AreUnderWay}
use Rattle.fc_build.proofs.product.made_steps.Given as goal

abbrev pub invariant-loop-form : goal.invariant-loop-form
invariant-loop-form l =
    AreUnderWay (order_of l.fn.command) l.grow l.order (nmodules_of l.before.items) (nmodules_of l.form-iterator.rest.items) (nmodules_of l.fn.forms.items) (steps_in l.steps.items)
