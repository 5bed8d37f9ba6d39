use Rattle.fc_row_nodes.proofs.WordsCounted.{words_add_no_nodes}
use Rattle.fc_row_nodes.proofs.words_add_no_nodes.Goals as goal

pub returns : goal.returns
returns c = record { words = words_add_no_nodes }
