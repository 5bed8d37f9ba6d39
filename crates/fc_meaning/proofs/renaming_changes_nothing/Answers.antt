use Rattle.fc_meaning.proofs.RenamingModules
use Rattle.fc_meaning.proofs.renaming_changes_nothing.Goals as goal

pub returns : goal.returns
returns c = record { same = RenamingModules.renamed_same }
