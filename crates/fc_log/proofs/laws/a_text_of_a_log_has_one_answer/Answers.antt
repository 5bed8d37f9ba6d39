use Rattle.fc_log.proofs.OneFault as law
use Rattle.fc_log.proofs.laws.a_text_of_a_log_has_one_answer.Goals as goal

pub returns : goal.returns
returns c = record { no_fault = law.no_fault; one_fault = law.one_first_fault }
