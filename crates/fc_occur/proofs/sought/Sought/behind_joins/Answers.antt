use Rattle.fc_occur.proofs.Spans.{joins_more}
use Rattle.fc_occur.proofs.sought.Sought.behind_joins.Goals as goal

pub returns : goal.returns
returns c = joins_more c.args.count c.args.self c.in_ok-joins.joins c.in_ok-joins.ensures
