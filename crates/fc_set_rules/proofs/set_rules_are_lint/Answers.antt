use Rattle.fc_set_rules.proofs.SetsAre.{set_is_by_cases}
use Rattle.fc_set_rules.proofs.set_rules_are_lint.Goals as goal

pub returns : goal.returns
returns c = record { by_cases = set_is_by_cases }
