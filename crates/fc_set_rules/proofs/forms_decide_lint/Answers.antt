use Rattle.fc_set_rules.proofs.FormsLint.{forms_decide_lint}
use Rattle.fc_set_rules.proofs.forms_decide_lint.Goals as goal

pub returns : goal.returns
returns c = record { forms_decide = forms_decide_lint }
