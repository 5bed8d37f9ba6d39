use Rattle.std.proofs.Common.{Some, sym, ap, ◌∙◌}
use Rattle.fc_syntax.specs.View.{expr_of}
use Rattle.fc_model.specs.Worded.{bare_expr, bare_ty}
use Rattle.fc_forms.proofs.Parts.{case_form, default_form, same_case}
use Rattle.fc_shrink_terms.proofs.Rows.{case_merge_is}
use Rattle.fc_shrink_terms.proofs.cases.case_merge.Goals as goal

pub returns : goal.returns
unfolding expr_of
returns c =
    let merged = case_merge_is _ _ _ _ _ _ _ _ _ _ (case_form _ _ c.in-Some.ensures) (default_form _ _ c.in-Some-only_default.ensures) (case_form _ _ c.in-Some-as_case.ensures)
    (c.is_innermost.ensures.0 c.if-not-is_innermost.false) in
    ap Some (ap bare_expr c.in_ok-case_of.ensures ∙ same_case (ap bare_expr c.in_ok-scrutinee.ensures) (ap bare_ty c.in_ok-ty.ensures) (ap bare_ty c.in_ok-answer.ensures) c.in_ok-alternatives.ensures)
    ∙ sym merged
