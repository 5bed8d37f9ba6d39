use Rattle.std.proofs.Common.{sym, arith}
use Rattle.fc_model.specs.NamelessView.{nexpr_of}
use Rattle.fc_type_scope.specs.Scopes.{scope_in}
use Rattle.fc_type_table.specs.TypeTables.{nodes_of}
use Rattle.fc_lets_for_terms.proofs.Behind.{lets_end, lets_step}
use Rattle.fc_lets_for_terms.proofs.lets.lets_around.Goals as goal

pub loop-left-init : goal.loop-left-init
loop-left-init c = record { within = omega arith; so_far = sym (lets_end (nodes_of c.args.types.now) (scope_in c.args.scope.now) c.args.asked.now (nexpr_of c.args.body) _ (omega arith)) }

pub loop-left-preserved : goal.loop-left-preserved
loop-left-preserved c = record {
  within = omega arith;
  so_far = lets_step (nodes_of c.args.types.now) (scope_in c.args.scope.now) c.args.asked.now (nexpr_of c.args.body) c.loop-left.left _ c.index-asked-left.result _ _ (omega arith) (omega arith) c.index-asked-left.is
      c.loop-left.invariant.so_far c.in_ok-whole.ensures;
}
