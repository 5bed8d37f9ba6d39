use Rattle.std.proofs.Common.{length, Some, refl, sym, ◌∙◌}
use Rattle.std.proofs.lemmas.Option.{slice_get_read}
use Rattle.fc_parts.specs.PartsAt.{of_term}
use Rattle.fc_parts.proofs.PartRules.{arg_there}
use Rattle.fc_row_search.proofs.frames.term_among.Goals as goal

pub returns-in-Some : goal.returns-in-Some
returns-in-Some c =
    let found = c.in-Some.ensures.lookup in
    let there = slice_get_read c.args.arguments.now (length c.args.arguments.now) c.args.number c.in-Some.argument.now refl found.3.0 found.1 in
    c.term.ensures ∙ sym (arg_there c.args.number (of_term Some) c.args.arguments.now c.in-Some.argument.now there)
