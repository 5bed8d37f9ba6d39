use Rattle.fc_scoped.proofs.Tested
use Rattle.fc_scoped.proofs.laws.test_agrees.Goals as goal

pub returns : goal.returns
returns c = Tested.scoped_is_tested
