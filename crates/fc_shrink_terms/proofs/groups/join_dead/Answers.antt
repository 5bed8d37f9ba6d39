use Rattle.std.proofs.Common.{Some, sym, ap, ◌∙◌}
use Rattle.fc_numbers.proofs.Counted.{joins_counted}
use Rattle.fc_forms.proofs.Parts.{joining_form}
use Rattle.fc_shrink_terms.proofs.Rows.{join_dead_is, none_if_not, not_dead}
use Rattle.fc_shrink_terms.proofs.groups.join_dead.Goals as goal

pub returns-in_ok-without_joins-in-Dead : goal.returns-in_ok-without_joins-in-Dead
returns-in_ok-without_joins-in-Dead c =
    let count = joins_counted c.in-Some.joining.points.now ∙ sym c.in_ok-count.ensures in
    ap Some c.in_ok-without_joins-in-Dead.ensures ∙ sym (join_dead_is _ _ _ _ _ _ _ (joining_form _ _ c.in-Some.ensures) count (sym c.in-Dead.is ∙ c.in_ok-jumps_to_innermost.ensures))

pub returns-in_default-2 : goal.returns-in_default-2
returns-in_default-2 c =
    let count = joins_counted c.in-Some.joining.points.now ∙ sym c.in_ok-count.ensures in
    sym (join_dead_is _ _ _ _ _ _ _ (joining_form _ _ c.in-Some.ensures) count c.in_ok-jumps_to_innermost.ensures ∙ none_if_not _ _ (not_dead _ c.in_default-2.not-Dead))
