use Rattle.fc_reader.proofs.OneFault.{one_first_fault}
use Rattle.fc_reader.proofs.a_text_has_one_first_fault.Goals as goal

pub returns : goal.returns
returns c = record { one = one_first_fault }
