use Rattle.std.proofs.Common.{length, refl, sym}
use Rattle.std.proofs.lemmas.Option.{slice_get_read}
use Rattle.fc_row_search.specs.Frames.{side_of_bind}
use Rattle.fc_parts.proofs.PartRules.{bind_there}
use Rattle.fc_row_search.proofs.frames.side_of_binding.Goals as goal

pub returns-in-Some : goal.returns-in-Some
returns-in-Some c =
    let found = c.in-Some.ensures.lookup in
    let there = slice_get_read c.args.bindings.now (length c.args.bindings.now) c.args.number c.in-Some.binding.now refl found.3.0 found.1 in
    sym (bind_there c.args.number side_of_bind c.args.bindings.now c.in-Some.binding.now there)
