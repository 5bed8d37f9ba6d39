use Rattle.std.proofs.Common.{Some, sym, ap, ◌∙◌}
use Rattle.fc_forms.proofs.Parts.{single_binding_form}
use Rattle.fc_shrink_terms.proofs.Rows.{let_once_is, none_if_not, not_once}
use Rattle.fc_shrink_terms.proofs.lets.let_once.Goals as goal

pub returns-in_ok-inlined-in-Once : goal.returns-in_ok-inlined-in-Once
returns-in_ok-inlined-in-Once c =
    let lifted = sym c.if-is_unlifted.false ∙ c.is_unlifted.ensures in
    ap Some c.in_ok-inlined-in-Once.ensures ∙ sym (let_once_is _ _ _ _ _ _ (single_binding_form _ _ c.in-Some.ensures) lifted (sym c.in-Once.is ∙ c.in_ok-occurrences_of_innermost.ensures))

pub returns-in_default-2 : goal.returns-in_default-2
returns-in_default-2 c =
    let lifted = sym c.if-is_unlifted.false ∙ c.is_unlifted.ensures in
    sym (let_once_is _ _ _ _ _ _ (single_binding_form _ _ c.in-Some.ensures) lifted c.in_ok-occurrences_of_innermost.ensures ∙ none_if_not _ _ (not_once _ c.in_default-2.not-Once))
