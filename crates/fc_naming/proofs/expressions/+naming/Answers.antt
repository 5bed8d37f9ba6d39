use Rattle.std.proofs.Common.{arith, rules, ◌≡◌, ◌<◌, ◌∙◌, ap, length}
use Rattle.fc_syntax.specs.View.{binder_of, binds_of, joins_of}
use Rattle.fc_syntax.proofs.View.{view_rules}
use Rattle.fc_model.specs.Resolution.{bind_words, enter, join_words}
use Rattle.fc_scope.specs.ScopeWords.{locals_of, with_binders, with_joins, with_values}
use Rattle.fc_naming.proofs.Each.{each_all, each_start, each_step}
use Rattle.fc_naming.proofs.NamedExpressions.{bind_words_step, expr_as, expr_in, join_words_step, literal_as, named_alts, named_args, named_binds, named_exprs, named_joins}
use Rattle.fc_naming.proofs.Groups.{named_below, named_lambda}
use Rattle.fc_naming.proofs.NamedGroups.{below_in, binds_else, binds_then, joins_else, joins_then}
use Rattle.fc_naming.proofs.expressions.+naming.Goals as goal
use Rattle.fc_naming.proofs.expressions.+naming.Goals.{let_binds-then-recursive+in_ok-binds, let_binds-else-recursive+in_ok-binds-2, join_members-then-recursive+in_ok-joins, join_members-else-recursive+in_ok-joins-2}

pub named_args-loop-arg-init : goal.named_args-loop-arg-init
named_args-loop-arg-init t c = each_start c.args.args.now c.new-out.result c.new-out.ensures

pub named_args-returns : goal.named_args-returns
named_args-returns t c = named_args c.args.args.now c.loop-arg.out (each_all c.args.args.now c.loop-arg.arg-index c.loop-arg.out c.loop-arg-test.false c.loop-arg.invariant)

pub named_args-loop-arg-preserved : goal.named_args-loop-arg-preserved
named_args-loop-arg-preserved t c =
    each_step _ c.args.args.now c.loop-arg.arg-index c.arg-item.result c.loop-arg.out c.push.new.self c.in_ok-next.next (omega arith) c.arg-item.is c.loop-arg.invariant c.in_ok-next.ensures (search rules)

pub named_exprs-loop-e-init : goal.named_exprs-loop-e-init
named_exprs-loop-e-init t c = each_start c.args.es.now c.new-out.result c.new-out.ensures

pub named_exprs-returns : goal.named_exprs-returns
named_exprs-returns t c = named_exprs c.args.es.now c.loop-e.out (each_all c.args.es.now c.loop-e.e-index c.loop-e.out c.loop-e-test.false c.loop-e.invariant)

pub named_exprs-loop-e-preserved : goal.named_exprs-loop-e-preserved
named_exprs-loop-e-preserved t c =
    each_step _ c.args.es.now c.loop-e.e-index c.e-item.result c.loop-e.out c.push.new.self c.in_ok-next.next (omega arith) c.e-item.is c.loop-e.invariant c.in_ok-next.ensures (search rules)

pub named_alts-loop-alt-init : goal.named_alts-loop-alt-init
named_alts-loop-alt-init t c = each_start c.args.alts.now c.new-out.result c.new-out.ensures

pub named_alts-returns : goal.named_alts-returns
named_alts-returns t c = named_alts c.args.alts.now c.loop-alt.out (each_all c.args.alts.now c.loop-alt.alt-index c.loop-alt.out c.loop-alt-test.false c.loop-alt.invariant)

pub named_expr-returns-in-Lit : goal.named_expr-returns-in-Lit
named_expr-returns-in-Lit t c = literal_as c.in-Lit.n (search (rules, view_rules)) (search (rules, view_rules))

pub lambda-returns : goal.lambda-returns
lambda-returns t c =
    let s = locals_of c.args.scope.now in
    let b = binder_of c.in_ok-binder.binder in
    let inner : with_binders c.add_binder.new.words s ≡ enter b s = c.in_ok-add_binder.ensures s ∙ ap (λ w. enter b (with_binders w s)) c.new-words.ensures in
    expr_as (named_lambda c.in_ok-binder.ensures.uses c.in_ok-binder.ensures.takes (expr_in c.in_ok-e.ensures inner)) (search (rules, view_rules))

pub named_below-returns : goal.named_below-returns
named_below-returns t c = named_below c.in_ok-named.ensures.uses c.in_ok-named.ensures.take c.in_ok-body.ensures

pub named_alts-loop-alt-preserved : goal.named_alts-loop-alt-preserved
named_alts-loop-alt-preserved t c =
    each_step _ c.args.alts.now c.loop-alt.alt-index c.alt-item.result c.loop-alt.out c.push.new.self (record { head = c.in_ok-head.head; binders = c.in_ok-below.below.binders; body = c.in_ok-below.below.body }) (omega arith)
    c.alt-item.is c.loop-alt.invariant (c.in_ok-head.ensures (locals_of c.args.scope.now), below_in c.as_slice.result.now c.alt-item.result.binders c.as_slice.ensures c.in_ok-below.ensures) (search rules)

pub named_binds-loop-i-init : goal.named_binds-loop-i-init
named_binds-loop-i-init t c = record { each = each_start c.args.binds.now c.new-out.result c.new-out.ensures; words = ap (λ z. bind_words (binds_of z)) c.new-out.ensures }

pub named_binds-loop-i-preserved : goal.named_binds-loop-i-preserved
named_binds-loop-i-preserved t c =
    let low : c.loop-i.i < length c.args.binds.now = omega arith in
    let same : length c.args.words.now ≡ length c.args.binds.now = c.requires in record {
      each = each_step _ c.args.binds.now c.loop-i.i c.index-binds-i.result c.loop-i.out c.push.new.self (record { name = c.in_ok-name.name; ty = c.in_ok-ty.ty; rhs = c.in_ok-rhs.rhs }) low
          c.index-binds-i.is c.loop-i.invariant.each (c.in_ok-ty.ensures, c.in_ok-rhs.ensures) (search rules);
      words = bind_words_step c.args.words.now c.loop-i.i c.index-words-i.result c.loop-i.out c.push.new.self (record { name = c.in_ok-name.name; ty = c.in_ok-ty.ty; rhs = c.in_ok-rhs.rhs }) (omega arith)
          c.index-words-i.is c.loop-i.invariant.words (search rules) (search rules);
    }

pub named_binds-returns-clause-named : goal.named_binds-returns-clause-named
named_binds-returns-clause-named t c = named_binds c.args.binds.now c.loop-i.out (each_all c.args.binds.now c.loop-i.i c.loop-i.out (omega arith) c.loop-i.invariant.each)

pub named_joins-loop-i-init : goal.named_joins-loop-i-init
named_joins-loop-i-init t c = record { each = each_start c.args.joins.now c.new-out.result c.new-out.ensures; words = ap (λ z. join_words (joins_of z)) c.new-out.ensures }

pub named_joins-loop-i-preserved : goal.named_joins-loop-i-preserved
named_joins-loop-i-preserved t c =
    let low : c.loop-i.i < length c.args.joins.now = omega arith in
    let same : length c.args.words.now ≡ length c.args.joins.now = c.requires in record {
      each = each_step _ c.args.joins.now c.loop-i.i c.index-joins-i.result c.loop-i.out c.push.new.self (record { name = c.in_ok-name.name; params = c.in_ok-below.below.binders; rhs = c.in_ok-below.below.body }) low
          c.index-joins-i.is c.loop-i.invariant.each (below_in c.as_slice.result.now c.index-joins-i.result.params c.as_slice.ensures c.in_ok-below.ensures) (search rules);
      words = join_words_step c.args.words.now c.loop-i.i c.index-words-i.result c.loop-i.out c.push.new.self (record { name = c.in_ok-name.name; params = c.in_ok-below.below.binders; rhs = c.in_ok-below.below.body })
          (omega arith) c.index-words-i.is c.loop-i.invariant.words (search rules) (search rules);
    }

pub named_joins-returns-clause-named : goal.named_joins-returns-clause-named
named_joins-returns-clause-named t c = named_joins c.args.joins.now c.loop-i.out (each_all c.args.joins.now c.loop-i.i c.loop-i.out (omega arith) c.loop-i.invariant.each)

pub let_binds-returns-clause-named : goal.let_binds-returns-clause-named
let_binds-returns-clause-named t c =
    let s = locals_of c.args.scope.now in
    elim c.if-recursive.branch [
      | let_binds-then-recursive+in_ok-binds w ↦ binds_then (with_values c.args.group.now.names s) s w.if-recursive.true (ap binds_of w.binds-is) w.in_ok-binds.ensures.named
      | let_binds-else-recursive+in_ok-binds-2 w ↦ binds_else (with_values c.args.group.now.names s) s w.if-recursive.false (ap binds_of w.binds-is) w.in_ok-binds-2.ensures.named
    ]

pub let_binds-returns-clause-words : goal.let_binds-returns-clause-words
let_binds-returns-clause-words t c =
    elim c.if-recursive.branch [
      | let_binds-then-recursive+in_ok-binds w ↦ ap (λ z. bind_words (binds_of z)) w.binds-is ∙ w.in_ok-binds.ensures.words ∙ c.as_slice-words.ensures
      | let_binds-else-recursive+in_ok-binds-2 w ↦ ap (λ z. bind_words (binds_of z)) w.binds-is ∙ w.in_ok-binds-2.ensures.words ∙ c.as_slice-words.ensures
    ]

pub join_members-returns-clause-named : goal.join_members-returns-clause-named
join_members-returns-clause-named t c =
    let s = locals_of c.args.scope.now in
    elim c.if-recursive.branch [
      | join_members-then-recursive+in_ok-joins w ↦ joins_then (with_joins c.args.group.now.names s) s w.if-recursive.true (ap joins_of w.joins-is) w.in_ok-joins.ensures.named
      | join_members-else-recursive+in_ok-joins-2 w ↦ joins_else (with_joins c.args.group.now.names s) s w.if-recursive.false (ap joins_of w.joins-is) w.in_ok-joins-2.ensures.named
    ]

pub join_members-returns-clause-words : goal.join_members-returns-clause-words
join_members-returns-clause-words t c =
    elim c.if-recursive.branch [
      | join_members-then-recursive+in_ok-joins w ↦ ap (λ z. join_words (joins_of z)) w.joins-is ∙ w.in_ok-joins.ensures.words ∙ c.as_slice-words.ensures
      | join_members-else-recursive+in_ok-joins-2 w ↦ ap (λ z. join_words (joins_of z)) w.joins-is ∙ w.in_ok-joins-2.ensures.words ∙ c.as_slice-words.ensures
    ]
