use Rattle.fc_build.proofs.OneAnswer.{have_one_answer}
use Rattle.fc_build.proofs.files_have_one_answer.Goals as goal

pub returns : goal.returns
returns c = record { one = have_one_answer }
