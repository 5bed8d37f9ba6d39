use Rattle.std.proofs.Common.{sym, ap, ◌∙◌}
use Rattle.fc_rows.specs.Surroundings.{Point, PointOf, moved_point}
use Rattle.fc_model.specs.NamelessView.{nbinders_of, nexpr_of}
use Rattle.fc_subst.specs.Replacements.{renaming_of}
use Rattle.fc_known.specs.ToldOfPoints.{point_told}
use Rattle.fc_known.proofs.Moved.{moved_twice, point_moves}
use Rattle.fc_known.proofs.points.KnownPoint.past.Goals as goal

pub returns-in_ok-both-in-Bound : goal.returns-in_ok-both-in-Bound
returns-in_ok-both-in-Bound c =
    let point : Point = PointOf (nbinders_of c.in-Bound.point.now.params) (nexpr_of c.in-Bound.point.now.rhs) in
    ap (λ p. moved_point (renaming_of p) point) c.in_ok-both-in-Bound.ensures ∙ sym (moved_twice point_moves c.in-Bound.own c.args.by point) ∙ ap (λ k. moved_point (renaming_of c.args.by) (point_told k)) (sym c.in-Bound.is)
