use Rattle.fc_read_answers.proofs.EachText.{has_an_answer}
use Rattle.fc_read_answers.proofs.every_text_has_an_answer.Goals as goal

pub returns : goal.returns
returns c = record { an_answer = has_an_answer }
