use Rattle.fc_meaning.proofs.Determined
use Rattle.fc_meaning.proofs.evaluation_is_determined.Goals as goal

pub returns-clause-one_step : goal.returns-clause-one_step
returns-clause-one_step c = Determined.one_next

pub returns-clause-one_head : goal.returns-clause-one_head
returns-clause-one_head c p t g h j k q r = Determined.one_head p j k t g h q r

pub returns-clause-heads_stay : goal.returns-clause-heads_stay
returns-clause-heads_stay c = Determined.next-head
