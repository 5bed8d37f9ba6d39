use Rattle.std.proofs.Common.{Some, sym, ap, ◌∙◌}
use Rattle.fc_numbers.proofs.Counted.{binds_counted}
use Rattle.fc_forms.proofs.Parts.{binding_form}
use Rattle.fc_shrink_terms.proofs.Rows.{let_dead_is, none_if_not, not_dead}
use Rattle.fc_shrink_terms.proofs.groups.let_dead.Goals as goal

pub returns-in_ok-without_values-in-Dead : goal.returns-in_ok-without_values-in-Dead
returns-in_ok-without_values-in-Dead c =
    let count = binds_counted c.in-Some.binding.bindings.now ∙ sym c.in_ok-count.ensures in
    ap Some c.in_ok-without_values-in-Dead.ensures ∙ sym (let_dead_is _ _ _ _ _ _ (binding_form _ _ c.in-Some.ensures) count (sym c.in-Dead.is ∙ c.in_ok-occurrences_of_innermost.ensures))

pub returns-in_default-2 : goal.returns-in_default-2
returns-in_default-2 c =
    let count = binds_counted c.in-Some.binding.bindings.now ∙ sym c.in_ok-count.ensures in
    sym (let_dead_is _ _ _ _ _ _ (binding_form _ _ c.in-Some.ensures) count c.in_ok-occurrences_of_innermost.ensures ∙ none_if_not _ _ (not_dead _ c.in_default-2.not-Dead))
