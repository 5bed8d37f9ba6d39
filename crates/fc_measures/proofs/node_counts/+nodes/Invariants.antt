use Rattle.std.proofs.Common.{◌≡◌, ◌≤◌, ◌+◌, min, drop}
use Rattle.fc_syntax.specs.View.{exprs_of, args_of, binds_of, joins_of, alts_of}
use Rattle.fc_syntax.specs.Measures.{exprs_nodes, args_nodes, fields_nodes, binds_nodes, alts_nodes, joins_nodes}
use Rattle.fc_measures.proofs.node_counts.+nodes.Given as goal

abbrev pub invariant-nodes_of_all-loop-e : goal.invariant-nodes_of_all-loop-e
invariant-nodes_of_all-loop-e l = (l.sum ≤ l.most) × (min (exprs_nodes (exprs_of l.es)) l.most ≡ min (l.sum + exprs_nodes (exprs_of (drop l.e-index l.es))) l.most)

abbrev pub invariant-nodes_of_alts-loop-a : goal.invariant-nodes_of_alts-loop-a
invariant-nodes_of_alts-loop-a l = (l.sum ≤ l.most) × (min (alts_nodes (alts_of l.alts)) l.most ≡ min (l.sum + alts_nodes (alts_of (drop l.a-index l.alts))) l.most)

abbrev pub invariant-nodes_of_args-loop-a : goal.invariant-nodes_of_args-loop-a
invariant-nodes_of_args-loop-a l = (l.sum ≤ l.most) × (min (args_nodes (args_of l.args)) l.most ≡ min (l.sum + args_nodes (args_of (drop l.a-index l.args))) l.most)

abbrev pub invariant-nodes_of_binds-loop-b : goal.invariant-nodes_of_binds-loop-b
invariant-nodes_of_binds-loop-b l = (l.sum ≤ l.most) × (min (binds_nodes (binds_of l.binds)) l.most ≡ min (l.sum + binds_nodes (binds_of (drop l.b-index l.binds))) l.most)

abbrev pub invariant-nodes_of_fields-loop-a : goal.invariant-nodes_of_fields-loop-a
invariant-nodes_of_fields-loop-a l = (l.sum ≤ l.most) × (min (fields_nodes (args_of l.args)) l.most ≡ min (l.sum + fields_nodes (args_of (drop l.a-index l.args))) l.most)

abbrev pub invariant-nodes_of_joins-loop-b : goal.invariant-nodes_of_joins-loop-b
invariant-nodes_of_joins-loop-b l = (l.sum ≤ l.most) × (min (joins_nodes (joins_of l.binds)) l.most ≡ min (l.sum + joins_nodes (joins_of (drop l.b-index l.binds))) l.most)
