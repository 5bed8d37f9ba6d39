use Rattle.std.proofs.Common.{◌∙◌, ◌&&◌, ◌+◌, drop, sym, ap, arith}
use Rattle.fc_model.specs.Coercing as words
use Rattle.fc_type_scope.specs.EndViews.{shown_all_ends_at}
use Rattle.fc_type_scope.specs.Scopes.{scope_in}
use Rattle.fc_type_table.specs.InScope.{own_kinds}
use Rattle.fc_type_table.specs.TypeTables.{modules_in, nodes_of}
use Rattle.fc_coercion_forms.proofs.Fitting.{kinds-end, kinds-turn}
use Rattle.fc_coercion_forms.proofs.axioms.are_of_kinds.Goals as goal

pub returns-then-not-is_between : goal.returns-then-not-is_between
returns-then-not-is_between c =
    let ks = scope_in c.args.scope.now in
    let ms = modules_in c.args.types.now in
    let ns = nodes_of c.args.types.now in
    let i = c.loop-at.at in
    let rest = words.are_of_kinds ms ks (own_kinds (drop (i + 1) c.args.kinds.now)) (shown_all_ends_at ns ks (drop (i + 1) c.args.group.now)) in
    sym (c.loop-at.invariant.so_far
    ∙ kinds-turn ms ks ns c.args.kinds.now c.args.group.now i c.index-kinds-at.result c.is_between.result c.loop-at-test.true c.if-at-group.true c.requires.kinds_in c.is_between.ensures
    ∙ ap (λ x. x && rest) c.if-not-is_between.true)

pub loop-at-preserved : goal.loop-at-preserved
loop-at-preserved c =
    let ks = scope_in c.args.scope.now in
    let ms = modules_in c.args.types.now in
    let ns = nodes_of c.args.types.now in
    let i = c.loop-at.at in
    let rest = words.are_of_kinds ms ks (own_kinds (drop (i + 1) c.args.kinds.now)) (shown_all_ends_at ns ks (drop (i + 1) c.args.group.now)) in
    record {
      within = omega arith;
      so_far = c.loop-at.invariant.so_far
          ∙ kinds-turn ms ks ns c.args.kinds.now c.args.group.now i c.index-kinds-at.result c.is_between.result c.loop-at-test.true c.if-at-group.true c.requires.kinds_in c.is_between.ensures
          ∙ ap (λ x. x && rest) c.if-not-is_between.false;
    }

pub returns-else-at-group : goal.returns-else-at-group
returns-else-at-group c =
    let ks = scope_in c.args.scope.now in
    sym (c.loop-at.invariant.so_far
    ∙ kinds-end (modules_in c.args.types.now) ks (own_kinds (drop c.loop-at.at c.args.kinds.now)) (nodes_of c.args.types.now) c.args.group.now c.loop-at.at c.if-at-group.false)
