use Rattle.std.proofs.Common.{arith}
use Rattle.std.proofs.lemmas.Map.Text.{text_keys}
use Rattle.fc_plan.proofs.numbers.add.Goals as goal

pub returns-clause-put : goal.returns-clause-put
returns-clause-put c = λ _ w. grind (arith, text_keys)
