use Rattle.std.proofs.Common.{◌∙◌, map}
use Rattle.std.proofs.lemmas.Result.{on_ok_weaker}
use Rattle.fc_syntax.specs.View.{binders_of, binds_of, expr_of, joins_of}
use Rattle.fc_model.specs.Resolution.{bind_words, join_words}
use Rattle.fc_model.specs.WordSets.{set_of}
use Rattle.fc_free.specs.Bound.{words_of}
use Rattle.fc_free.specs.Free.{free_in, free_in_binds, free_in_joins, of_words, value_words}
use Rattle.fc_free.proofs.Kept.{found_behind, found_group}
use Rattle.fc_free.proofs.collecting.+collecting.Goals as goal

pub in_let-returns : goal.in_let-returns
in_let-returns t c =
    on_ok_weaker c.in_expression.result
    (found_group c.args.recursive (set_of c.in_ok-bound.bound) (words_of c.args.around.now) (of_words (bind_words (binds_of c.args.binds.now))) (free_in_binds (binds_of c.args.binds.now)) (free_in (expr_of c.args.e.now))
    (map (λ n. n.now) c.args.to.now.items) (map (λ n. n.now) c.in_right_sides.new.to.items) (map (λ n. n.now) c.in_expression.new.to.items) c.in_ok-bound.ensures c.in_ok-in_right_sides.ensures)
    c.in_expression.ensures

pub in_join-returns : goal.in_join-returns
in_join-returns t c =
    on_ok_weaker c.in_expression.result
    (found_group c.args.recursive (set_of c.in_ok-bound.bound) (words_of c.args.around.now) (of_words (join_words (joins_of c.args.joins.now))) (free_in_joins (joins_of c.args.joins.now)) (free_in (expr_of c.args.e.now))
    (map (λ n. n.now) c.args.to.now.items) (map (λ n. n.now) c.in_join_sides.new.to.items) (map (λ n. n.now) c.in_expression.new.to.items) c.in_ok-bound.ensures c.in_ok-in_join_sides.ensures)
    c.in_expression.ensures

pub in_scoped-returns : goal.in_scoped-returns
in_scoped-returns t c =
    on_ok_weaker c.in_expression.result
    (λ h. h ∙ found_behind (set_of c.in_ok-bound.bound) (words_of c.args.around.now) (of_words (value_words (binders_of c.args.binders.now))) (free_in (expr_of c.args.e.now)) (map (λ n. n.now) c.args.to.now.items) c.in_ok-bound.ensures)
    c.in_expression.ensures
