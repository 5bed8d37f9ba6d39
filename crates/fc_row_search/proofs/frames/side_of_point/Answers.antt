use Rattle.std.proofs.Common.{length, refl, sym}
use Rattle.std.proofs.lemmas.Option.{slice_get_read}
use Rattle.fc_row_search.specs.Frames.{side_of_join}
use Rattle.fc_parts.proofs.PartRules.{join_there}
use Rattle.fc_row_search.proofs.frames.side_of_point.Goals as goal

pub returns-in-Some : goal.returns-in-Some
returns-in-Some c =
    let found = c.in-Some.ensures.lookup in
    let there = slice_get_read c.args.points.now (length c.args.points.now) c.args.number c.in-Some.point.now refl found.3.0 found.1 in
    sym (join_there c.args.number side_of_join c.args.points.now c.in-Some.point.now there)
