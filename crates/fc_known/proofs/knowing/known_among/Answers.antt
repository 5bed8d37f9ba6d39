use Rattle.fc_known.proofs.Behind.{known_binding}
use Rattle.fc_known.proofs.knowing.known_among.Goals as goal

pub returns : goal.returns
returns c f = known_binding c.args.recursive c.args.count c.args.bindings.now f c.args.distance c.index-bindings-count.result c.past_group.result c.requires.count c.requires.distance c.index-bindings-count.is c.past_group.ensures
