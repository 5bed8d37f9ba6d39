use Rattle.std.proofs.Common.{rules, ◌≡◌, ◌∙◌, ◌++◌, ◌∷◌, [], length, subst, sym}
use Rattle.fc_lattice.specs.View.{as_interface}
use Rattle.fc_model.specs.NamelessView.{nmodule_of, nmodules_of}
use Rattle.fc_product.specs.Products.{CanBeBuilt, IsProduct}
use Rattle.fc_words.specs.Asking.{order_of}
use Rattle.fc_build.specs.Delivering.{steps_in}
use Rattle.fc_build.specs.SetSteps.{CanBeBuiltInOrder}
use Rattle.fc_build.proofs.InOrder.{AreUnderWay, all_done, next_can_be_built, one_more}
use Rattle.fc_build.proofs.product.made_steps.Goals as goal

pub make-requires-clause-built : goal.make-requires-clause-built
make-requires-clause-built c =
    let order = c.args.order.now in
    let before = c.loop-form.before.items in
    let rest : c.loop-form.form-iterator.rest.items ≡ c.in-Some.form ∷ c.next.new.self.rest.items = search rules in
    let can : CanBeBuiltInOrder order (nmodules_of before) (nmodules_of (c.in-Some.form ∷ c.next.new.self.rest.items)) =
    subst (λ fs. CanBeBuiltInOrder order (nmodules_of before) (nmodules_of fs)) rest c.loop-form.invariant.can in
    subst (λ fs. CanBeBuilt order (nmodules_of fs) (nmodule_of c.in-Some.form)) (sym c.as_slice.ensures.value)
    (next_can_be_built order (nmodules_of before) (nmodule_of c.in-Some.form) (nmodules_of c.next.new.self.rest.items) can)

pub loop-form-preserved : goal.loop-form-preserved
loop-form-preserved c =
    let asked = order_of c.args.command in
    let order = c.args.order.now in
    let grow = c.args.grow in
    let before = c.loop-form.before.items in
    let form = c.in-Some.form in
    let others = c.next.new.self.rest.items in
    let all = nmodules_of c.args.forms.items in
    let product = c.in_ok-product.product in
    let rest : c.loop-form.form-iterator.rest.items ≡ form ∷ others = search rules in
    let so_far : AreUnderWay asked grow order (nmodules_of before) (nmodules_of (form ∷ others)) all (steps_in c.loop-form.steps.items) =
    subst (λ fs. AreUnderWay asked grow order (nmodules_of before) (nmodules_of fs) all (steps_in c.loop-form.steps.items)) rest c.loop-form.invariant in
    let is : IsProduct grow order (nmodules_of before) (nmodule_of form) product =
    subst (λ fs. IsProduct grow order (nmodules_of fs) (nmodule_of form) product) c.as_slice.ensures.value c.in_ok-product.ensures in
    let put : c.insert.new.self.items ≡ product.told ∷ before = search rules in
    let pushed : c.push.new.self.items ≡ c.loop-form.steps.items ++ c.in_ok-step_for.field-0 ∷ [] = search rules in
    one_more asked grow order before c.insert.new.self.items form product.told (nmodules_of others) all c.loop-form.steps.items c.push.new.self.items c.in_ok-step_for.field-0 _ (as_interface product.interface) product.log
    so_far is.made is.told c.in_ok-step_for.ensures put pushed

pub returns : goal.returns
returns c =
    let rest = c.loop-form.form-iterator.rest in
    let counted : length rest.items ≡ rest.len = search rules in
    all_done (order_of c.args.command) c.args.grow c.args.order.now (nmodules_of c.loop-form.before.items) rest.items (nmodules_of c.args.forms.items) (steps_in c.loop-form.steps.items)
    (counted ∙ c.in-None.ensures.steps.0) c.loop-form.invariant
