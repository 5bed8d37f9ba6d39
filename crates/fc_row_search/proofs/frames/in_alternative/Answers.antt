use Rattle.std.proofs.Common.{length, refl, sym}
use Rattle.std.proofs.lemmas.Option.{slice_get_read}
use Rattle.fc_model.specs.NamelessView.{nalts_of, nexpr_of, nty_of}
use Rattle.fc_rows.specs.Surroundings.{listed_heads}
use Rattle.fc_known.specs.Around.{surroundings_of}
use Rattle.fc_row_search.proofs.Counted.{branch_there}
use Rattle.fc_row_search.proofs.frames.in_alternative.Goals as goal

pub returns-clause-stands : goal.returns-clause-stands
returns-clause-stands c ms =
    let alternatives = c.args.alternatives.now in
    let found = c.in-Some.ensures.lookup in
    let there = slice_get_read alternatives (length alternatives) c.args.number c.in-Some.alternative.now refl found.3.0 found.1 in
    sym (branch_there (nexpr_of c.args.scrutinee.now) (nty_of c.args.ty.now) (listed_heads (nalts_of alternatives)) c.args.number alternatives c.in-Some.alternative.now (surroundings_of ms c.args.outer.now) there)
