use Rattle.std.proofs.Common.{ap, ◌∙◌}
use Rattle.std.proofs.lemmas.Result.{IfOk-weaker}
use Rattle.fc_model.specs.NamelessView.{nexpr_of}
use Rattle.fc_rows.specs.Occurrences.{occurrences}
use Rattle.fc_occur.proofs.Spans.{innermost_values_sought}
use Rattle.fc_occur.proofs.counting.occurrences_of_innermost.Goals as goal

pub returns : goal.returns
returns c = IfOk-weaker c.in_expression.result _ _ (λ _ h. h ∙ ap (λ u. occurrences u (nexpr_of c.args.e.now)) (innermost_values_sought c.args.count)) c.in_expression.ensures
