use Rattle.std.proofs.Common.{◌∙◌, ap, sym, true, false}
use Rattle.std.proofs.lemmas.Result.{IfOk-weaker}
use Rattle.fc_model.specs.NamelessView.{nalts_of, nargs_of, nexpr_of}
use Rattle.fc_subst.specs.Replacements.{renaming_of}
use Rattle.fc_lint_context.specs.ContextViews.{modules_of_context}
use Rattle.fc_case_known.proofs.Rows.{constructed, for_constructor}
use Rattle.fc_forms.specs.Forms.{construction_of}
use Rattle.fc_case_known.proofs.variables.case_of_bound.Goals as goal

pub returns-then-not-are_trivial : goal.returns-then-not-are_trivial
returns-then-not-are_trivial c =
    sym (constructed (modules_of_context c.args.context.now) (nexpr_of c.args.case.now.scrutinee.now) (renaming_of c.args.by) (nalts_of c.args.case.now.alternatives.now) (nexpr_of c.args.bound.now)
    (construction_of c.in-Some.known) false c.in-Some.ensures c.if-not-are_trivial.ensures)

pub returns : goal.returns
returns c =
    let ms = modules_of_context c.args.context.now in
    let y = nexpr_of c.args.case.now.scrutinee.now in
    let r = renaming_of c.args.by in
    let alts = nalts_of c.args.case.now.alternatives.now in
    IfOk-weaker c.case_of_variable.result _ _
    (λ _ h. h ∙ ap (for_constructor ms y r alts c.in-Some.known.name.now) (ap nargs_of c.as_slice.ensures ∙ c.in_ok-args.ensures)
    ∙ sym (constructed ms y r alts (nexpr_of c.args.bound.now) (construction_of c.in-Some.known) true c.in-Some.ensures c.if-not-are_trivial.ensures))
    c.case_of_variable.ensures
