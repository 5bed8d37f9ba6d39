use Rattle.fc_row_meaning.proofs.LocalsKnown.{surroundings_are_told}
use Rattle.fc_row_meaning.proofs.NamesKnown.{names_are_told}
use Rattle.fc_row_meaning.proofs.surroundings_are_true.Goals as goal

pub returns : goal.returns
returns c = record { told = surroundings_are_told; names = names_are_told }
