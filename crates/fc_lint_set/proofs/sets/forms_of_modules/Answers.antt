use Rattle.std.proofs.Common.{◌≡◌, ◌∙◌, [], map, sym, subst}
use Rattle.std.specs.Prelude.{IfSome}
use Rattle.std.proofs.lemmas.List.{length-map}
use Rattle.fc_syntax.specs.Hints.{module_hints}
use Rattle.fc_model.specs.NamelessView.{nmodule_of, nmodules_of}
use Rattle.fc_plan.specs.Modules.{behind}
use Rattle.fc_lint_set.specs.Sets.{ResolveBehind, hints_kept}
use Rattle.fc_lint_set.proofs.SetForms.{resolved_all, resolved_count}
use Rattle.fc_lint_set.proofs.sets.forms_of_modules.Goals as goal

pub returns-in-Some : goal.returns-in-Some
returns-in-Some c =
    let ms = behind c.args.modules.now in
    let ks = nmodules_of c.in-Some.forms.items in
    let named : ResolveBehind [] ms ks = subst (λ o. IfSome o (λ forms. ResolveBehind [] ms (nmodules_of forms.items))) c.in-Some.is c.in_ok-forms.ensures.forms in
    let words : map hints_kept c.in-Some.forms.items ≡ map module_hints ms = subst (λ o. IfSome o (λ forms. map hints_kept forms.items ≡ map module_hints ms)) c.in-Some.is c.in_ok-forms.ensures.words in
    let all = resolved_all [] ms ks named in
    record { forms = sym all.0; ends = sym (length-map c.in-Some.forms.items nmodule_of) ∙ resolved_count [] ms ks named; named = λ _. all.1; words = λ _. words }
