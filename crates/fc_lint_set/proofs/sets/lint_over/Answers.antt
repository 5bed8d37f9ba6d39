use Rattle.std.proofs.Common.{◌≡◌, true, subst, sym}
use Rattle.fc_model.specs.NamelessView.{nmodules_of}
use Rattle.fc_plan.specs.Modules.{behind}
use Rattle.fc_lint_set.specs.Sets.{AllNamed}
use Rattle.fc_lint_set.proofs.Told.{names_are}
use Rattle.fc_lint_set.proofs.sets.lint_over.Goals as goal

pub lint_against-requires-clause-names : goal.lint_against-requires-clause-names
lint_against-requires-clause-names c =
    let ms = behind c.args.modules.now in
    let named = subst (λ forms. c.args.forms.now.named ≡ true → AllNamed (nmodules_of forms) ms) (sym c.as_slice-found.ensures.value) c.requires.named in
    names_are (nmodules_of c.as_slice-found.result.now) ms c.args.forms.now.named c.in_ok-naming.naming named c.in_ok-naming.ensures.known c.in_ok-naming.ensures.among
