use Rattle.fc_meaning.proofs.WrittenMeans
use Rattle.fc_meaning.proofs.what_is_written_means_the_same.Goals as goal

pub returns : goal.returns
returns c = record { same = WrittenMeans.written_means_the_same }
