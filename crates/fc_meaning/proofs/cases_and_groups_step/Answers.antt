use Rattle.fc_meaning.proofs.Choosing
use Rattle.fc_meaning.proofs.cases_and_groups_step.Goals as goal

pub returns-clause-default : goal.returns-clause-default
returns-clause-default c = Choosing.default_takes_lambda

pub returns-clause-stuck : goal.returns-clause-stuck
returns-clause-stuck c p s alts = (Choosing.literal_is_stuck p s alts, Choosing.constructor_is_stuck p s alts, Choosing.lambda_is_stuck p s alts)

pub returns-clause-unrolls : goal.returns-clause-unrolls
returns-clause-unrolls c = Choosing.group_unrolls
