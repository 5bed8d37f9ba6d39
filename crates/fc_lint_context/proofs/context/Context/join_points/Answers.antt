use Rattle.std.proofs.Common.{◌∙◌}
use Rattle.fc_type_scope.specs.Scopes.{scope_in}
use Rattle.fc_type_table.proofs.Numbers.{Extends-further, IsTypeAt-grows, shown_at-grows}
use Rattle.fc_type_table.specs.TypeTables.{nodes_of, shown}
use Rattle.fc_lint_context.proofs.Joined.{points_more}
use Rattle.fc_lint_context.proofs.Reached.{AreJoinsAt-push}
use Rattle.fc_type_scope.proofs.ScopeKinds.{scope_grows}
use Rattle.fc_lint_context.proofs.context.Context.join_points.Goals as goal

pub join_point-requires-clause-scope : goal.join_point-requires-clause-scope
join_point-requires-clause-scope c = scope_grows (nodes_of c.args.types.now) (nodes_of c.loop-join.types) c.args.self.now.scope.kinds.now c.loop-join.invariant.grows.nodes c.requires.scope

pub loop-join-preserved : goal.loop-join-preserved
loop-join-preserved c =
    let ks = scope_in c.args.self.now.scope in
    let old = nodes_of c.loop-join.types in
    let new = nodes_of c.join_point.new.types in
    let so = c.loop-join.invariant in
    let more = c.in_ok-point.ensures.grows in
    let t = shown c.args.types.now ks c.args.answer in
    record {
      grows = record { nodes = Extends-further _ _ _ so.grows.nodes more.nodes; modules = more.modules ∙ so.grows.modules };
      answer_in = IsTypeAt-grows old new ks c.args.answer.0 more.nodes so.answer_in;
      same_answer = shown_at-grows old new ks c.args.answer.0 more.nodes so.answer_in ∙ so.same_answer;
      points_in = AreJoinsAt-push old new ks c.loop-join.points c.push.new.self c.in_ok-point.point more.nodes so.points_in c.in_ok-point.ensures.valid c.in_ok-push.ensures.ok;
      so_far =
          points_more old new ks c.loop-join.points c.push.new.self c.in_ok-point.point t (shown c.loop-join.types ks c.args.answer) c.args.joins.now c.loop-join.join-index c.join-item.result _ more.nodes so.points_in so.same_answer
          c.loop-join-test.true c.join-item.is c.as_slice.ensures c.in_ok-point.ensures.view c.in_ok-push.ensures.ok so.so_far;
    }
