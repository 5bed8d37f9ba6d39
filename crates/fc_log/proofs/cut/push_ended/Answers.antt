use Rattle.std.proofs.Common.{◌++◌, ap, rules}
use Rattle.fc_log.specs.Seen.{seen_all}
use Rattle.fc_log.proofs.Cutting.{at_other}
use Rattle.fc_log.proofs.cut.push_ended.Goals as goal

pub returns-in_default-clause-same : goal.returns-in_default-clause-same
returns-in_default-clause-same c = λ fresh. ap (λ cs. seen_all c.args.pieces.now ++ cs) (at_other c.args.bytes.now fresh c.args.begun c.args.at c.requires.ordered c.requires.inside (search rules) (search rules))
