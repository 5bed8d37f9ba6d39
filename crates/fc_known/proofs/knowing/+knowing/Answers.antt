use Rattle.std.proofs.Common.{◌∙◌, sym, ap, arith, subst}
use Rattle.std.proofs.lemmas.Result.{IfOk-weaker}
use Rattle.fc_model.specs.NamelessView.{nbinders_of, nbinds_of}
use Rattle.fc_model.specs.Replacing.{bind_count}
use Rattle.fc_numbers.proofs.Counted.{binds_counted}
use Rattle.fc_rows.specs.Surroundings.{known_in_group, moved_known, past_values}
use Rattle.fc_subst.specs.Replacements.{renaming_of}
use Rattle.fc_known.specs.Around.{HasCounts, surroundings_of}
use Rattle.fc_known.specs.Told.{told}
use Rattle.fc_known.proofs.Behind.{alternative_from_outside, from_outside, group_from_outside, inside_it, one_of, own_unknown, tested_at}
use Rattle.fc_known.proofs.Moved.{known_moves, past_points}
use Rattle.fc_known.proofs.knowing.+knowing.Goals as goal

pub known-returns-then-distance-own : goal.known-returns-then-distance-own
known-returns-then-distance-own t c ms =
    let counted = (subst HasCounts c.in-Binders.is c.requires).0 in
    sym (one_of (nbinders_of c.in-Binders.field-0.now) (surroundings_of ms c.in-Binders.outer.now) c.args.distance (omega (arith, c.if-distance-own.true, ap (λ p. p.values) counted)))
    ∙ ap (λ f. (surroundings_of ms f).locals c.args.distance) (sym c.in-Binders.is)

pub known-returns-in_ok-known-in-Binders : goal.known-returns-in_ok-known-in-Binders
known-returns-in_ok-known-in-Binders t c ms = IfOk-weaker c.past.result _ _ (λ f h.
    h
    ∙ from_outside c.in-Binders.own (nbinders_of c.in-Binders.field-0.now) (surroundings_of ms c.in-Binders.outer.now) c.args.distance (told c.in_ok-known-in-Binders.field-0)
    (subst HasCounts c.in-Binders.is c.requires).0 (omega (arith, c.if-distance-own.false)) (c.in_ok-known-in-Binders.ensures ms)
    ∙ ap (λ f. (surroundings_of ms f).locals c.args.distance) (sym c.in-Binders.is)) c.past.ensures

pub known-returns-then-distance-count : goal.known-returns-then-distance-count
known-returns-then-distance-count t c ms =
    c.known_among.ensures (λ i. moved_known (past_values (bind_count (nbinds_of c.in-Group.bindings.now))) ((surroundings_of ms c.in-Group.outer.now).locals i))
    ∙ ap (λ n. known_in_group c.in-Group.recursive n (nbinds_of c.in-Group.bindings.now) (λ i. moved_known (past_values (bind_count (nbinds_of c.in-Group.bindings.now))) ((surroundings_of ms c.in-Group.outer.now).locals i)) c.args.distance)
    (c.in_ok-count-in-Group.ensures ∙ sym (binds_counted c.in-Group.bindings.now))
    ∙ ap (λ f. (surroundings_of ms f).locals c.args.distance) (sym c.in-Group.is)

pub known-returns-in_ok-known-in-Group : goal.known-returns-in_ok-known-in-Group
known-returns-in_ok-known-in-Group t c ms = IfOk-weaker c.past-else-distance-count.result _ _ (λ f h.
    h
    ∙ ap (λ p. moved_known (renaming_of p) (told c.in_ok-known-in-Group.field-0)) c.values.ensures
    ∙ group_from_outside c.in-Group.recursive c.in-Group.bindings.now (surroundings_of ms c.in-Group.outer.now) c.in_ok-count-in-Group.count c.args.distance (told c.in_ok-known-in-Group.field-0)
    c.in_ok-count-in-Group.ensures (omega (arith, c.if-distance-count.false)) (c.in_ok-known-in-Group.ensures ms)
    ∙ ap (λ f. (surroundings_of ms f).locals c.args.distance) (sym c.in-Group.is)) c.past-else-distance-count.ensures

pub known-returns-in_ok-known-in-Joins : goal.known-returns-in_ok-known-in-Joins
known-returns-in_ok-known-in-Joins t c ms = IfOk-weaker c.past-in-Joins.result _ _ (λ f h.
    h
    ∙ past_points known_moves c.in-Joins.points.now c.in_ok-joins-in-Joins.joins (told c.in_ok-known-in-Joins.field-0) _
    c.in_ok-joins-in-Joins.ensures (c.in_ok-known-in-Joins.ensures ms)
    ∙ ap (λ f. (surroundings_of ms f).locals c.args.distance) (sym c.in-Joins.is)) c.past-in-Joins.ensures

pub known-returns-in-Alternative : goal.known-returns-in-Alternative
known-returns-in-Alternative t c ms = IfOk-weaker c.known_inside.result _ _ (λ f h. h ∙ ap (λ f. (surroundings_of ms f).locals c.args.distance) (sym c.in-Alternative.is)) (c.known_inside.ensures ms)

pub known_inside-returns-then-is_looked_at : goal.known_inside-returns-then-is_looked_at
known_inside-returns-then-is_looked_at t c ms =
    inside_it c.args.branch.now (surroundings_of ms c.args.outer.now) c.requires.own c.args.distance (tested_at c.args.branch.now c.args.distance c.in_ok-values.values _ c.in_ok-values.ensures c.is_looked_at.ensures ∙ c.if-is_looked_at.true)

pub known_inside-returns-then-distance-values : goal.known_inside-returns-then-distance-values
known_inside-returns-then-distance-values t c ms =
    own_unknown c.args.branch.now (surroundings_of ms c.args.outer.now) c.requires.own c.args.distance (tested_at c.args.branch.now c.args.distance c.in_ok-values.values _ c.in_ok-values.ensures c.is_looked_at.ensures ∙ c.if-is_looked_at.false)
    (omega (arith, c.if-distance-values.true, c.in_ok-values.ensures))

pub known_inside-returns-in_ok-known : goal.known_inside-returns-in_ok-known
known_inside-returns-in_ok-known t c ms = IfOk-weaker c.past.result _ _ (λ f h.
    h
    ∙ alternative_from_outside c.args.branch.now (surroundings_of ms c.args.outer.now) c.requires.own c.args.distance c.in_ok-values.values (told c.in_ok-known.field-0)
    (tested_at c.args.branch.now c.args.distance c.in_ok-values.values _ c.in_ok-values.ensures c.is_looked_at.ensures ∙ c.if-is_looked_at.false)
    c.in_ok-values.ensures (omega (arith, c.if-distance-values.false)) (c.in_ok-known.ensures ms)) c.past.ensures
