use Rattle.std.proofs.Common.{◌+◌, ◌*◌, max}
use Rattle.fc_type_trees.proofs.walk.Walk.+parts.Given as goal

abbrev pub decreases-below : goal.decreases-below
decreases-below l = 3 * l.id.0

abbrev pub decreases-part : goal.decreases-part
decreases-part l = 3 * l.id.0 + 1

abbrev pub decreases-application : goal.decreases-application
decreases-application l = 3 * max l.head.0 l.argument.0 + 2

abbrev pub decreases-function : goal.decreases-function
decreases-function l = 3 * max l.from.0 l.to.0 + 2

abbrev pub decreases-forall : goal.decreases-forall
decreases-forall l = 3 * l.body.0 + 2

abbrev pub decreases-coforall : goal.decreases-coforall
decreases-coforall l = 3 * max (max l.ends.0.0 l.ends.1.0) l.body.0 + 2
