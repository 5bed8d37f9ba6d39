use Rattle.std.proofs.Common.{length, refl, sym, ◌∙◌}
use Rattle.std.proofs.lemmas.Option.{slice_get_read}
use Rattle.fc_row_search.specs.Frames.{side_of_alt}
use Rattle.fc_parts.proofs.PartRules.{alt_there}
use Rattle.fc_row_search.proofs.frames.side_among.Goals as goal

pub returns-in-Some : goal.returns-in-Some
returns-in-Some c =
    let found = c.in-Some.ensures.lookup in
    let there = slice_get_read c.args.alternatives.now (length c.args.alternatives.now) c.args.number c.in-Some.alternative.now refl found.3.0 found.1 in
    c.side_of.ensures ∙ sym (alt_there c.args.number side_of_alt c.args.alternatives.now c.in-Some.alternative.now there)
