use Rattle.std.proofs.Common.{◌≡◌, sym, ap, ◌∙◌}
use Rattle.std.specs.Option.{option_map}
use Rattle.std.proofs.lemmas.Result.{IfOk-weaker}
use Rattle.fc_model.specs.NamelessView.{nexpr_of}
use Rattle.fc_search_laws.specs.Searching.{alternatives_of}
use Rattle.fc_row_search.specs.Spots.{applying_of, dead_at}
use Rattle.fc_row_search.proofs.Kept.{still_read}
use Rattle.fc_row_search.proofs.Told.{here_by_dead, here_by_row}
use Rattle.fc_row_search.proofs.rows.row_here.Goals as goal

pub returns-in-Some-clause-found : goal.returns-in-Some-clause-found
returns-in-Some-clause-found c =
    let x = c.args.spot.now in
    let e = nexpr_of c.args.e.now in
    sym (here_by_row x e (applying_of c.in-Some.found) (sym c.in_ok-found.ensures.found ∙ ap (option_map applying_of) c.in-Some.is))

pub returns-in-None-clause-found : goal.returns-in-None-clause-found
returns-in-None-clause-found c =
    let x = c.args.spot.now in
    let e = nexpr_of c.args.e.now in
    let same = here_by_dead x e (sym c.in_ok-found.ensures.found ∙ ap (option_map applying_of) c.in-None.is) in
    IfOk-weaker c.first_dead.result (λ o. option_map applying_of o ≡ dead_at x (alternatives_of e) 0 e) _ (λ o h. h ∙ sym same) c.first_dead.ensures.found

pub first_dead-requires-clause-types : goal.first_dead-requires-clause-types
first_dead-requires-clause-types c = still_read c.args.types.now c.first_row.new.types c.args.spot.now c.in_ok-found.ensures.grows c.requires.types
