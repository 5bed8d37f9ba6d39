use Rattle.std.proofs.Common.{◌≡◌, Some, None, sym, ap, ◌∙◌}
use Rattle.std.proofs.lemmas.Result.{IfOk-weaker}
use Rattle.fc_syntax.specs.View.{expr_of}
use Rattle.fc_model.specs.Calling.{from_some}
use Rattle.fc_model.specs.NamelessView.{nexpr_of}
use Rattle.fc_parts.proofs.RowsAtParts.{is_made, is_put}
use Rattle.fc_places.specs.Places.{exchanged}
use Rattle.fc_row_at_place.specs.Joins.{without_dead_join}
use Rattle.fc_row_at_place.proofs.joins.without_jump.Goals as goal

pub returns-in-Ok : goal.returns-in-Ok
returns-in-Ok c row s at =
    let by = expr_of c.args.taken in
    let put : exchanged by c.args.place.now (expr_of c.args.body.now) ≡ Some (expr_of c.in-Ok.field-0, expr_of c.exchange.new.e) =
    ap (exchanged by c.args.place.now) (sym c.in_ok-whole.ensures) ∙ sym c.in-Ok.ensures.answer in
    IfOk-weaker c.without_dead_join.result _ _ (λ o h. h ∙ sym (ap (from_some without_dead_join) (is_made row s c.args.place.now (expr_of c.args.body.now) by _ at put))) c.without_dead_join.ensures

pub returns : goal.returns
returns c row s at =
    let by = expr_of c.args.taken in
    let put : exchanged by c.args.place.now (expr_of c.args.body.now) ≡ None = ap (exchanged by c.args.place.now) (sym c.in_ok-whole.ensures) ∙ sym c.in-Err.ensures.answer in
    absurd (is_put row s c.args.place.now (expr_of c.args.body.now) by (nexpr_of c.args.taken) at put)
