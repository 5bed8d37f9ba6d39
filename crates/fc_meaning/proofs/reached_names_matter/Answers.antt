use Rattle.std.proofs.Common.{◌≡◌, true}
use Rattle.fc_meaning.proofs.Named.{sees_other}
use Rattle.fc_meaning.proofs.reached_names_matter.Goals as goal

pub returns : goal.returns
returns c = record { same = λ N P Q keep t w o. sees_other (λ x. N x ≡ true) P Q keep t w o }
