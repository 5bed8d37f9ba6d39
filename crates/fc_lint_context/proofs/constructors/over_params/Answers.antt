use Rattle.std.proofs.Common.{arith, ◌∙◌}
use Rattle.fc_type_table.proofs.Numbers.{Extends-further}
use Rattle.fc_type_table.specs.TypeTables.{nodes_of}
use Rattle.fc_lint_context.proofs.Foralls.{forall_more}
use Rattle.fc_lint_context.proofs.constructors.over_params.Goals as goal

pub loop-left-preserved : goal.loop-left-preserved
loop-left-preserved c =
    let grown = c.loop-left.invariant.grows in
    let more = c.in_ok-id.ensures.grows in
    record {
      within = omega arith;
      grows = record { nodes = Extends-further _ _ _ grown.nodes more.nodes; modules = more.modules ∙ grown.modules };
      valid = c.in_ok-id.ensures.valid;
      so_far =
          forall_more c.args.kinds.now c.loop-left.left c.index-kinds-left.result (nodes_of c.loop-left.types) (nodes_of c.forall_behind.new.types) c.loop-left.id.0 c.in_ok-id.id.0 _ c.loop-left-test.true
          c.loop-left.invariant.within c.loop-left.invariant.so_far c.in_ok-id.ensures.view;
    }
