use Rattle.fc_occur.proofs.Spans.{values_more}
use Rattle.fc_occur.proofs.sought.Sought.behind_values.Goals as goal

pub returns : goal.returns
returns c = values_more c.args.count c.args.self c.in_ok-values.values c.in_ok-values.ensures
