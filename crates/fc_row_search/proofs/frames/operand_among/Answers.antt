use Rattle.std.proofs.Common.{length, Some, refl, sym}
use Rattle.std.proofs.lemmas.Option.{slice_get_read}
use Rattle.fc_parts.proofs.PartRules.{expr_there}
use Rattle.fc_row_search.proofs.frames.operand_among.Goals as goal

pub returns-in-Some : goal.returns-in-Some
returns-in-Some c =
    let found = c.in-Some.ensures.lookup in
    let there = slice_get_read c.args.operands.now (length c.args.operands.now) c.args.number c.in-Some.operand.now refl found.3.0 found.1 in
    sym (expr_there c.args.number Some c.args.operands.now c.in-Some.operand.now there)
