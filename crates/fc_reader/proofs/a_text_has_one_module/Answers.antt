use Rattle.fc_reader.proofs.Laws.{one_spelled, none_spelled}
use Rattle.fc_reader.proofs.a_text_has_one_module.Goals as goal

pub returns : goal.returns
returns c = record { one = λ f. (one_spelled f, none_spelled f) }
