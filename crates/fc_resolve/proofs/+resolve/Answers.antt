use Rattle.std.proofs.Common.{arith, rules, ◌≡◌, ℕ, ◌+◌, ◌∙◌, ◌∷◌, Err, ap, drop, if◌then◌else◌, length, subst, sym}
use Rattle.fc_syntax.specs.View.{binds_of, expr_of, joins_of}
use Rattle.fc_model.specs.DeclaredWords.{top_by}
use Rattle.fc_model.specs.Faulting.{under}
use Rattle.fc_model.specs.NamelessView.{nbinds_of, nexpr_of, njoins_of}
use Rattle.fc_model.specs.Resolution.{Locals, bind_words, enter_joins, enter_values, join_words, no_word, resolved_binds, resolved_expr, resolved_joins}
use Rattle.fc_model.specs.Says.{Refuses, Says}
use Rattle.fc_model.proofs.Lists.{drop_item}
use Rattle.fc_scope.specs.Among.{among}
use Rattle.fc_scope.specs.ScopeWords.{locals_of}
use Rattle.fc_resolve.specs.Building.{with_binds, with_joins}
use Rattle.fc_resolve.proofs.GroupSteps.{bind_refused, join_refused}
use Rattle.fc_resolve.proofs.InsideGroups.{as_many, joins_entered, values_entered}
use Rattle.fc_resolve.proofs.+resolve.Goals as goal

pub groups::group-returns-then-recursive-clause-form : goal.groups::group-returns-then-recursive-clause-form
groups::group-returns-then-recursive-clause-form t c =
    let s = locals_of c.args.scope.now in
    let ws = bind_words (binds_of c.args.binds.now) in
    let says = λ (z : Locals). Says nbinds_of c.resolved_binds.result (resolved_binds (top_by c.args.top.now) z no_word 0 (binds_of c.args.binds.now)) in
    subst (λ b. says (if b then enter_values ws s else s)) (sym c.if-recursive.true) (subst says (values_entered c.args.names.now ws s c.requires) c.resolved_binds.ensures.form)

pub groups::below_values-returns-clause-form : goal.groups::below_values-returns-clause-form
groups::below_values-returns-clause-form t c =
    let s = locals_of c.args.scope.now in
    let ws = bind_words (binds_of c.args.binds.now) in
    let says = λ (i : ℕ) (z : Locals). Says (λ n. nexpr_of n.value) c.boxed_part.result (under i (resolved_expr (top_by c.args.top.now) z (expr_of c.args.e.now))) in
    subst (λ i. says i (enter_values ws s)) (c.len.ensures ∙ as_many c.args.names.now ws c.requires)
    (subst (λ z. says c.len.result z) (values_entered c.args.names.now ws s c.requires) c.boxed_part.ensures.form)

pub groups::join_group-returns-then-recursive-clause-form : goal.groups::join_group-returns-then-recursive-clause-form
groups::join_group-returns-then-recursive-clause-form t c =
    let s = locals_of c.args.scope.now in
    let ws = join_words (joins_of c.args.joins.now) in
    let says = λ (z : Locals). Says njoins_of c.resolved_joins.result (resolved_joins (top_by c.args.top.now) z no_word 1 (joins_of c.args.joins.now)) in
    subst (λ b. says (if b then enter_joins ws s else s)) (sym c.if-recursive.true) (subst says (joins_entered c.args.names.now ws s c.requires) c.resolved_joins.ensures.form)

pub groups::below_joins-returns-clause-form : goal.groups::below_joins-returns-clause-form
groups::below_joins-returns-clause-form t c =
    let s = locals_of c.args.scope.now in
    let ws = join_words (joins_of c.args.joins.now) in
    let many = as_many c.args.names.now ws c.requires in
    let part : c.in_ok-part.part ≡ 1 + length ws = omega (arith, many, c.len.ensures, c.in_ok-part.ensures.next) in
    let says = λ (i : ℕ) (z : Locals). Says (λ n. nexpr_of n.value) c.boxed_part.result (under i (resolved_expr (top_by c.args.top.now) z (expr_of c.args.e.now))) in
    subst (λ i. says i (enter_joins ws s)) part (subst (λ z. says c.in_ok-part.part z) (joins_entered c.args.names.now ws s c.requires) c.boxed_part.ensures.form)

pub groups::resolved_binds-returns-in_err-next-clause-form : goal.groups::resolved_binds-returns-in_err-next-clause-form
groups::resolved_binds-returns-in_err-next-clause-form t c =
    let top = top_by c.args.top.now in
    let s = locals_of c.args.scope.now in
    let b = c.bind-item.result in
    let g = c.in_err-next.field-0.0 in
    let rest = drop (c.loop-bind.bind-index + 1) c.args.binds.now in
    let here : drop c.loop-bind.bind-index c.args.binds.now ≡ b ∷ rest = drop_item c.args.binds.now c.loop-bind.bind-index b (omega arith) c.bind-item.is in
    let whole = resolved_binds top s no_word 0 (binds_of c.args.binds.now) in
    let so_far = c.loop-bind.invariant.whole ∙ ap (λ bs. with_binds c.loop-bind.out (resolved_binds top s (among c.loop-bind.earlier) c.loop-bind.at (binds_of bs))) here in
    let refused : Refuses g whole = subst (Refuses g) (sym so_far) (bind_refused top s (among c.loop-bind.earlier) c.loop-bind.out c.loop-bind.at b rest g c.in_err-next.ensures.form) in
    let given : c.from_residual.result ≡ Err g = search rules in
    subst (λ r. Says nbinds_of r whole) (sym given) refused

pub groups::resolved_joins-returns-in_err-next-clause-form : goal.groups::resolved_joins-returns-in_err-next-clause-form
groups::resolved_joins-returns-in_err-next-clause-form t c =
    let top = top_by c.args.top.now in
    let s = locals_of c.args.scope.now in
    let b = c.join-item.result in
    let g = c.in_err-next.field-0.0 in
    let rest = drop (c.loop-join.join-index + 1) c.args.joins.now in
    let here : drop c.loop-join.join-index c.args.joins.now ≡ b ∷ rest = drop_item c.args.joins.now c.loop-join.join-index b (omega arith) c.join-item.is in
    let whole = resolved_joins top s no_word 1 (joins_of c.args.joins.now) in
    let so_far = c.loop-join.invariant.whole ∙ ap (λ bs. with_joins c.loop-join.out (resolved_joins top s (among c.loop-join.earlier) c.loop-join.at (joins_of bs))) here in
    let refused : Refuses g whole = subst (Refuses g) (sym so_far) (join_refused top s (among c.loop-join.earlier) c.loop-join.out c.loop-join.at b rest g c.in_err-next.ensures.form) in
    let given : c.from_residual.result ≡ Err g = search rules in
    subst (λ r. Says njoins_of r whole) (sym given) refused
