-- What is told of a join point.
use Rattle.fc_model.specs.NamelessView.{nbinders_of, nexpr_of}
use Rattle.fc_rows.specs.Surroundings.{Point, NoPoint, PointOf, moved_point}
use Rattle.fc_subst.specs.Replacements.{renaming_of}
use Rattle.fc_known.specs.declared.points.KnownPoint.{KnownPoint}
use Rattle.fc_known.specs.declared.points.KnownPoint.TheVariants as known

abbrev pub point_told : KnownPoint → Point
point_told known.Nothing = NoPoint
point_told (known.Bound j p) = moved_point (renaming_of p) (PointOf (nbinders_of j.now.params) (nexpr_of j.now.rhs))
