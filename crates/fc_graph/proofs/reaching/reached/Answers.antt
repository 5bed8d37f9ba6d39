use Rattle.std.proofs.Common.{◌∙◌, []}
use Rattle.fc_graph.proofs.Searching.{marked_by_next}
use Rattle.fc_graph.proofs.reaching.reached.Goals as goal

pub returns-in-Some : goal.returns-in-Some
returns-in-Some c = marked_by_next (λ marks. marks.items) _ _ _ c.reached_from.result (c.as_slice.ensures ∙ c.in-Some.ensures.lookup.3.1 []) c.reached_from.ensures
