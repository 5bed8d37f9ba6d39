use Rattle.std.proofs.Common.{refl}
use Rattle.fc_type_scope.proofs.ScopeKinds.{numbered_push}
use Rattle.fc_type_table.proofs.Numbers.{Grows-further}
use Rattle.fc_type_table.specs.TypeTables.{nodes_of}
use Rattle.fc_lint_context.proofs.Foralls.{plains_more}
use Rattle.fc_lint_context.proofs.axioms.plain_kinds.Goals as goal

pub loop-param-preserved : goal.loop-param-preserved
loop-param-preserved c =
    let so = c.loop-param.invariant in
    let id = c.in_ok-id.ensures in
    let pushed = c.in_ok-push.ensures.ok in
    record {
      grows = Grows-further _ _ _ so.grows id.grows;
      numbered = numbered_push (nodes_of c.loop-param.types) (nodes_of c.read_kind.new.self) c.loop-param.kinds c.push.new.self _ id.grows.nodes so.numbered (record { is_kind = id.valid; shows = id.view }) pushed;
      so_far = plains_more c.loop-param.kinds c.push.new.self _ c.args.params.now c.loop-param.param-index c.param-item.result _ so.so_far c.loop-param-test.true c.param-item.is pushed refl;
    }
