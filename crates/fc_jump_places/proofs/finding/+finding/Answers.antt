use Rattle.std.proofs.Common.{◌&&◌, ◌∷◌, if◌then◌else◌, length, None, refl, sym, ap, ◌∙◌}
use Rattle.std.proofs.lemmas.Result.{IfOk-weaker}
use Rattle.fc_model.specs.NamelessView.{nalts_of, nbinders_of, nexpr_of, njoins_of}
use Rattle.fc_numbers.proofs.Counted.{binds_counted}
use Rattle.fc_rows.specs.Changing.{made}
use Rattle.fc_rows.specs.Shrinking.{is_jump, jump_place, jump_place_in_alts, jump_place_in_joins}
use Rattle.fc_jump_places.specs.Backwards.{place_of}
use Rattle.fc_jump_places.proofs.Steps.{found_in_body, found_in_sides, nothing_here, nothing_there}
use Rattle.fc_jump_places.proofs.finding.+finding.Goals as goal

pub in_alternatives-loop-alt-preserved : goal.in_alternatives-loop-alt-preserved
in_alternatives-loop-alt-preserved t c =
    nothing_here (λ n xs. jump_place_in_alts c.args.distance c.args.held n (nalts_of xs))
    (λ n a. if c.args.held && is_jump (nexpr_of a.body) then None else made (λ p. n ∷ length (nbinders_of a.binders) ∷ p) (jump_place c.args.distance (nexpr_of a.body)))
    (λ n a xs. refl) c.args.alts.now c.loop-alt.alt-index c.loop-alt.part c.in_ok-part.part c.alt-item.result (jump_place_in_alts c.args.distance c.args.held 3 (nalts_of c.args.alts.now)) c.loop-alt.invariant c.loop-alt-test.true c.alt-item.is
    (nothing_there c.in_ok-found.found _ (sym c.is_some.ensures ∙ c.if-is_some.false) c.in_ok-found.ensures) c.in_ok-part.ensures

pub in_join_points-loop-join-preserved : goal.in_join_points-loop-join-preserved
in_join_points-loop-join-preserved t c =
    nothing_here (λ n xs. jump_place_in_joins c.args.distance n (njoins_of xs)) (λ n j. made (λ p. n ∷ length (nbinders_of j.params) ∷ p) (jump_place c.args.distance (nexpr_of j.rhs)))
    (λ n j xs. refl) c.args.joins.now c.loop-join.join-index c.loop-join.part c.in_ok-part.part c.join-item.result (jump_place_in_joins c.args.distance 1 (njoins_of c.args.joins.now)) c.loop-join.invariant c.loop-join-test.true c.join-item.is
    (nothing_there c.in_ok-found.found _ (sym c.is_some.ensures ∙ c.if-is_some.false) c.in_ok-found.ensures) c.in_ok-part.ensures

pub in_let-returns : goal.in_let-returns
in_let-returns t c = IfOk-weaker c.in_part.result _ _ (λ o h.
    h ∙ ap (λ n. made (λ p. n ∷ p) (place_of c.in_ok-in_expression.field-0)) (c.in_ok-count.ensures ∙ sym (binds_counted c.args.binds.now)) ∙ ap (made (λ p. _ ∷ p)) c.in_ok-in_expression.ensures) c.in_part.ensures

pub in_join-returns-then-is_some : goal.in_join-returns-then-is_some
in_join-returns-then-is_some t c =
    found_in_sides c.args.recursive c.args.distance c.args.joins.now (nexpr_of c.args.body.now) c.in_ok-count.count c.in_ok-inner.inner c.in_ok-count.ensures c.in_ok-inner.ensures c.in_ok-found.found
    (sym c.is_some.ensures ∙ c.if-is_some.true) c.in_ok-found.ensures

pub in_join-returns : goal.in_join-returns
in_join-returns t c = IfOk-weaker c.in_part.result _ _
    (found_in_body c.args.recursive c.args.distance c.args.joins.now (nexpr_of c.args.body.now) c.in_ok-count.count c.in_ok-inner.inner c.in_ok-count.ensures c.in_ok-inner.ensures c.in_ok-found.found
    c.in_ok-in_expression.field-0 c.in_ok-sum.field-0 (sym c.is_some.ensures ∙ c.if-is_some.false) c.in_ok-found.ensures c.in_ok-in_expression.ensures c.in_ok-sum.ensures) c.in_part.ensures
