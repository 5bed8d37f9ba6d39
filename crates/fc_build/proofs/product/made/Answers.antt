use Rattle.std.proofs.Common.{rules, ◌≡◌, [], map, subst, sym}
use Rattle.fc_model.specs.NamelessView.{nmodules_of}
use Rattle.fc_reaching.specs.Numbering.{word_of}
use Rattle.fc_build.specs.SetSteps.{CanBeBuiltInOrder}
use Rattle.fc_build.proofs.Products.{set_can_be_built}
use Rattle.fc_build.proofs.product.made.Goals as goal

pub made_steps-requires-clause-built : goal.made_steps-requires-clause-built
made_steps-requires-clause-built c =
    let ns = nmodules_of c.args.set.forms.items in
    let names : c.as_slice-2.result.now ≡ map word_of ns = search rules in
    subst (λ order. CanBeBuiltInOrder order [] ns) (sym names) (set_can_be_built c.args.set c.requires.ready)
