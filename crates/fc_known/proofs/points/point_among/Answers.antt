use Rattle.fc_known.proofs.BehindPoints.{of_other, of_recursive}
use Rattle.fc_known.proofs.points.point_among.Goals as goal

pub returns-then-recursive : goal.returns-then-recursive
returns-then-recursive c f =
    of_recursive c.args.recursive c.args.count c.args.points.now f c.args.distance c.index-points-count.result c.requires.count c.requires.distance c.index-points-count.is c.if-recursive.true

pub returns-else-recursive : goal.returns-else-recursive
returns-else-recursive c f =
    of_other c.args.recursive c.args.count c.args.points.now f c.args.distance c.index-points-count.result c.requires.count c.requires.distance c.index-points-count.is c.joins.result c.if-recursive.false c.joins.ensures
