use Rattle.fc_type_scope.specs.Scopes.{scope_in}
use Rattle.fc_type_table.proofs.Numbers.{Grows-further}
use Rattle.fc_type_table.specs.TypeTables.{nodes_of, shown}
use Rattle.fc_coercion_forms.specs.Axioms.{sides_at}
use Rattle.fc_type_scope.specs.EndViews.{shown_all_ends_at}
use Rattle.fc_coercion_forms.proofs.BothSides.{sides-end, sides-none, sides-some}
use Rattle.fc_coercion_forms.proofs.axioms.at_all_ends.Goals as goal

pub returns-in-None-clause-view : goal.returns-in-None-clause-view
returns-in-None-clause-view c =
    let ks = scope_in c.args.scope.now in
    let old = nodes_of c.args.types.now in
    let whole = sides_at (shown c.args.types.now ks c.args.pair.left) (shown c.args.types.now ks c.args.pair.right) (shown_all_ends_at old ks c.args.group.now) in
    let found = rw c.in-None.is at c.in_ok-at_ends.ensures.view in
    sides-none ks old (nodes_of c.loop-ends.types) c.args.group.now c.loop-ends.ends-index (shown c.loop-ends.types ks c.loop-ends.so_far.left)
    (shown c.loop-ends.types ks c.loop-ends.so_far.right) whole
    c.loop-ends-test.true c.loop-ends.invariant.grows.nodes c.requires.group_in c.loop-ends.invariant.so_far found

pub loop-ends-preserved : goal.loop-ends-preserved
loop-ends-preserved c =
    let ks = scope_in c.args.scope.now in
    let old = nodes_of c.args.types.now in
    let whole = sides_at (shown c.args.types.now ks c.args.pair.left) (shown c.args.types.now ks c.args.pair.right) (shown_all_ends_at old ks c.args.group.now) in
    let found = rw c.in-Some.is at c.in_ok-at_ends.ensures.view in
    let valid = rw c.in-Some.is at c.in_ok-at_ends.ensures.valid in
    record {
      grows = Grows-further c.args.types.now c.loop-ends.types c.at_ends.new.types c.loop-ends.invariant.grows c.in_ok-at_ends.ensures.grows;
      left_in = valid.0;
      right_in = valid.1;
      so_far = sides-some ks old (nodes_of c.loop-ends.types) c.args.group.now c.loop-ends.ends-index (shown c.loop-ends.types ks c.loop-ends.so_far.left)
          (shown c.loop-ends.types ks c.loop-ends.so_far.right)
          (shown c.at_ends.new.types ks c.in-Some.next.left) (shown c.at_ends.new.types ks c.in-Some.next.right) whole
          c.loop-ends-test.true c.loop-ends.invariant.grows.nodes c.requires.group_in c.loop-ends.invariant.so_far found;
    }

pub returns-clause-view : goal.returns-clause-view
returns-clause-view c =
    let ks = scope_in c.args.scope.now in
    let old = nodes_of c.args.types.now in
    let whole = sides_at (shown c.args.types.now ks c.args.pair.left) (shown c.args.types.now ks c.args.pair.right) (shown_all_ends_at old ks c.args.group.now) in
    sides-end ks old c.args.group.now c.loop-ends.ends-index (shown c.loop-ends.types ks c.loop-ends.so_far.left) (shown c.loop-ends.types ks c.loop-ends.so_far.right) whole
    c.loop-ends-test.false c.loop-ends.invariant.so_far
