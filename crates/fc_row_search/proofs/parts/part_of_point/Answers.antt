use Rattle.std.proofs.Common.{length, [], ◌∷◌, refl, sym, ap, ◌∙◌}
use Rattle.std.proofs.lemmas.Option.{slice_get_read}
use Rattle.fc_row_search.proofs.Counted.{join_there}
use Rattle.fc_row_search.proofs.parts.part_of_point.Goals as goal

pub returns-in_ok-number-in-Some : goal.returns-in_ok-number-in-Some
returns-in_ok-number-in-Some c =
    let found = c.in-Some.ensures.lookup in
    let there = slice_get_read c.args.points.now (length c.args.points.now) c.args.at c.in-Some.point.now refl found.3.0 found.1 in
    c.further.ensures ∙ ap (λ n. c.args.first ∷ n ∷ []) (c.in_ok-number-in-Some.ensures ∙ c.len.ensures) ∙ sym (join_there c.args.first c.args.at c.args.points.now c.in-Some.point.now there)
