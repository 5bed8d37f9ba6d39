use Rattle.std.proofs.Common.{ℕ, ◌∙◌, sym, ap, arith, subst}
use Rattle.std.proofs.lemmas.Result.{IfOk-weaker}
use Rattle.fc_model.specs.NamelessView.{nbinders_of, njoins_of, nty_of}
use Rattle.fc_model.specs.Replacing.{join_count}
use Rattle.fc_numbers.proofs.Counted.{joins_counted}
use Rattle.fc_rows.specs.Surroundings.{moved_point, past_joins, points_in_group}
use Rattle.fc_subst.specs.Replacements.{renaming_of}
use Rattle.fc_known.specs.Around.{HasCounts, surroundings_of}
use Rattle.fc_known.specs.ToldOfPoints.{point_told}
use Rattle.fc_known.proofs.BehindPoints.{point_from_outside, point_outside_alternative, point_outside_group}
use Rattle.fc_known.proofs.Moved.{past_group, point_moves}
use Rattle.fc_known.proofs.points.+known_point.Goals as goal

pub returns-in_ok-known_point-in-Binders : goal.returns-in_ok-known_point-in-Binders
returns-in_ok-known_point-in-Binders t c ms = IfOk-weaker c.past.result _ _ (λ p h.
    h
    ∙ point_from_outside c.in-Binders.own (nbinders_of c.in-Binders.field-0.now) (surroundings_of ms c.in-Binders.outer.now) c.args.distance (point_told c.in_ok-known_point-in-Binders.field-0)
    (subst HasCounts c.in-Binders.is c.requires).0 (c.in_ok-known_point-in-Binders.ensures ms)
    ∙ ap (λ f. (surroundings_of ms f).points c.args.distance) (sym c.in-Binders.is)) c.past.ensures

pub returns-in_ok-known_point-in-Group : goal.returns-in_ok-known_point-in-Group
returns-in_ok-known_point-in-Group t c ms = IfOk-weaker c.past-in-Group.result _ _ (λ p h.
    h
    ∙ ap (λ q. moved_point (renaming_of q) (point_told c.in_ok-known_point-in-Group.field-0)) c.values.ensures
    ∙ past_group point_moves c.in-Group.bindings.now c.in_ok-count-in-Group.count (point_told c.in_ok-known_point-in-Group.field-0) _ c.in_ok-count-in-Group.ensures (c.in_ok-known_point-in-Group.ensures ms)
    ∙ ap (λ f. (surroundings_of ms f).points c.args.distance) (sym c.in-Group.is)) c.past-in-Group.ensures

pub returns-then-distance-count : goal.returns-then-distance-count
returns-then-distance-count t c ms =
    let others = λ (i : ℕ). moved_point (past_joins (join_count (njoins_of c.in-Joins.points.now))) ((surroundings_of ms c.in-Joins.outer.now).points i) in
    c.point_among.ensures others
    ∙ ap (λ n. points_in_group c.in-Joins.recursive n (njoins_of c.in-Joins.points.now) others c.args.distance) (c.in_ok-count-in-Joins.ensures ∙ sym (joins_counted c.in-Joins.points.now))
    ∙ ap (λ f. (surroundings_of ms f).points c.args.distance) (sym c.in-Joins.is)

pub returns-in_ok-known_point-in-Joins : goal.returns-in_ok-known_point-in-Joins
returns-in_ok-known_point-in-Joins t c ms = IfOk-weaker c.past-else-distance-count.result _ _ (λ p h.
    h
    ∙ ap (λ q. moved_point (renaming_of q) (point_told c.in_ok-known_point-in-Joins.field-0)) c.joins.ensures
    ∙ point_outside_group c.in-Joins.recursive (nty_of c.in-Joins.field-1.now) c.in-Joins.points.now (surroundings_of ms c.in-Joins.outer.now) c.in_ok-count-in-Joins.count c.args.distance
    (point_told c.in_ok-known_point-in-Joins.field-0) c.in_ok-count-in-Joins.ensures (omega (arith, c.if-distance-count.false)) (c.in_ok-known_point-in-Joins.ensures ms)
    ∙ ap (λ f. (surroundings_of ms f).points c.args.distance) (sym c.in-Joins.is)) c.past-else-distance-count.ensures

pub returns-in_ok-known_point-in-Alternative : goal.returns-in_ok-known_point-in-Alternative
returns-in_ok-known_point-in-Alternative t c ms = IfOk-weaker c.past-in-Alternative.result _ _ (λ p h.
    h
    ∙ point_outside_alternative c.in-Alternative.branch (surroundings_of ms c.in-Alternative.outer.now) c.args.distance c.in_ok-values-in-Alternative.values
    (point_told c.in_ok-known_point-in-Alternative.field-0) (subst HasCounts c.in-Alternative.is c.requires).0 c.in_ok-values-in-Alternative.ensures (c.in_ok-known_point-in-Alternative.ensures ms)
    ∙ ap (λ f. (surroundings_of ms f).points c.args.distance) (sym c.in-Alternative.is)) c.past-in-Alternative.ensures
