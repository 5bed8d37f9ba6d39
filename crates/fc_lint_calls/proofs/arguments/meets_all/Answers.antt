use Rattle.std.proofs.Common.{◌+◌, ◌∙◌, Some, None, drop, get_or, sym, ap, rules}
use Rattle.fc_model.specs.Calling.{met}
use Rattle.fc_type_scope.specs.Scopes.{scope_in}
use Rattle.fc_type_table.proofs.Numbers.{Grows-further, Grows-refl}
use Rattle.fc_type_table.specs.TypeTables.{IsType, nodes_of, shown}
use Rattle.fc_lint_calls.proofs.Givens.{AreGivenAt-grows, givens-end, no_given}
use Rattle.fc_lint_calls.proofs.Meets.{met_from-end, met_from-start, met_on-more, met_on-none, one_more}
use Rattle.fc_lint_calls.specs.GivenViews.{givens_in}
use Rattle.fc_lint_calls.specs.Meetings.{GoesOn, met_from}
use Rattle.fc_lint_calls.proofs.arguments.meets_all.Goals as goal

pub loop-given-init : goal.loop-given-init
loop-given-init c = record {
  grows = Grows-refl c.args.types.now;
  all_in = c.requires.givens_in;
  whole_in = c.requires.type_in;
  view = sym (met_from-start (nodes_of c.args.types.now) (scope_in c.args.scope.now) c.args.ty (givens_in c.args.types.now (scope_in c.args.scope.now) c.args.givens.now));
}

pub returns-in-None-clause-view : goal.returns-in-None-clause-view
returns-in-None-clause-view c =
    let ks = scope_in c.args.scope.now in
    let old = nodes_of c.loop-given.types in
    let new = nodes_of c.meets.new.types in
    let on : GoesOn old new ks c.loop-given.so_far (get_or c.args.givens.now c.loop-given.given-index no_given) None = search rules in
    sym (one_more old new ks (met (shown c.args.types.now ks c.args.ty) (givens_in c.args.types.now ks c.args.givens.now)) c.loop-given.so_far None c.args.givens.now c.loop-given.given-index
    c.in_ok-meets.ensures.grows.nodes c.loop-given.invariant.all_in c.loop-given.invariant.view c.loop-given-test.true on
    ∙ met_on-none new ks (givens_in c.meets.new.types ks (drop (c.loop-given.given-index + 1) c.args.givens.now)))

pub loop-given-preserved : goal.loop-given-preserved
loop-given-preserved c =
    let ks = scope_in c.args.scope.now in
    let old = nodes_of c.loop-given.types in
    let new = nodes_of c.meets.new.types in
    let on : GoesOn old new ks c.loop-given.so_far (get_or c.args.givens.now c.loop-given.given-index no_given) (Some c.in-Some.next) = search rules in
    let valid : IsType c.meets.new.types ks c.in-Some.next.whole = search rules in
    record {
      grows = Grows-further c.args.types.now c.loop-given.types c.meets.new.types c.loop-given.invariant.grows c.in_ok-meets.ensures.grows;
      all_in = AreGivenAt-grows old new ks c.args.givens.now c.in_ok-meets.ensures.grows.nodes c.loop-given.invariant.all_in;
      whole_in = valid;
      view = one_more old new ks (met (shown c.args.types.now ks c.args.ty) (givens_in c.args.types.now ks c.args.givens.now)) c.loop-given.so_far (Some c.in-Some.next) c.args.givens.now c.loop-given.given-index
          c.in_ok-meets.ensures.grows.nodes c.loop-given.invariant.all_in c.loop-given.invariant.view c.loop-given-test.true on
          ∙ met_on-more new ks c.in-Some.next (givens_in c.meets.new.types ks (drop (c.loop-given.given-index + 1) c.args.givens.now));
    }

pub returns-clause-view : goal.returns-clause-view
returns-clause-view c =
    let ks = scope_in c.args.scope.now in
    let ns = nodes_of c.loop-given.types in
    sym (c.loop-given.invariant.view ∙ ap (met_from ns ks c.loop-given.so_far) (givens-end ns ks c.args.givens.now c.loop-given.given-index c.loop-given-test.false) ∙ met_from-end ns ks c.loop-given.so_far)
