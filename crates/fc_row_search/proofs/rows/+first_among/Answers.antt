use Rattle.std.proofs.Common.{◌≡◌, ◌-◌, arith, length, take, sym, ◌∙◌}
use Rattle.std.specs.Option.{option_map}
use Rattle.std.specs.Prelude.{drop}
use Rattle.std.proofs.lemmas.Result.{IfOk-weaker}
use Rattle.fc_model.specs.NamelessView.{nexpr_of}
use Rattle.fc_row_search.specs.Spots.{applying_of, rows_at}
use Rattle.fc_row_search.proofs.Kept.{still_read}
use Rattle.fc_row_search.proofs.Told.{fewer, head_found, head_none}
use Rattle.fc_row_search.proofs.rows.+first_among.Goals as goal

pub first_among-requires : goal.first_among-requires
first_among-requires t c =
    let less = fewer c.args.spot.now (nexpr_of c.args.e.now) c.args.rows.now _ c.in-len1-up.len_at_least _ c.in_ok-found-in-len1-up.ensures.found in
    (omega (arith, less, c.decreases), (c.requires.spot, still_read c.args.types.now c.tried.new.types c.args.spot.now c.in_ok-found-in-len1-up.ensures.grows c.requires.types))

pub returns-in-Some-clause-found : goal.returns-in-Some-clause-found
returns-in-Some-clause-found t c = sym (head_found c.args.spot.now (nexpr_of c.args.e.now) c.args.rows.now _ c.in-len1-up.len_at_least _ c.in_ok-found-in-len1-up.ensures.found c.in-Some.found c.in-Some.is)

pub returns-in-None-clause-found : goal.returns-in-None-clause-found
returns-in-None-clause-found t c =
    let x = c.args.spot.now in
    let e = nexpr_of c.args.e.now in
    let rs = c.args.rows.now in
    let same = head_none x e rs _ c.in-len1-up.len_at_least _ c.in_ok-found-in-len1-up.ensures.found c.in-None.is in
    IfOk-weaker c.first_among.result (λ o. option_map applying_of o ≡ rows_at x (take (length rs - 1) (drop 1 rs)) e) (λ o. option_map applying_of o ≡ rows_at x rs e) (λ o h. h ∙ sym same) c.first_among.ensures.found
