use Rattle.std.proofs.Common.{◌≡◌, ◌+◌, max, drop}
use Rattle.fc_syntax.specs.View.{exprs_of, args_of, binds_of, joins_of, alts_of}
use Rattle.fc_syntax.specs.Measures.{alts_depth, alts_nodes, alts_size, args_depth, args_nodes, args_size, binds_depth, binds_nodes, binds_size, exprs_depth, exprs_nodes, exprs_size, fields_nodes, joins_depth, joins_nodes, joins_size}
use Rattle.fc_nameless_measures.proofs.expressions.+expressions.Given as goal

abbrev pub invariant-of_expressions-loop-x : goal.invariant-of_expressions-loop-x
invariant-of_expressions-loop-x l = (l.all.nodes + exprs_nodes (exprs_of (drop l.x-index l.items)) ≡ exprs_nodes (exprs_of l.items))
    × (l.all.size + exprs_size (exprs_of (drop l.x-index l.items)) ≡ exprs_size (exprs_of l.items))
    × (max l.all.depth (exprs_depth (exprs_of (drop l.x-index l.items))) ≡ exprs_depth (exprs_of l.items))

abbrev pub invariant-of_arguments-loop-x : goal.invariant-of_arguments-loop-x
invariant-of_arguments-loop-x l = (l.all.nodes + args_nodes (args_of (drop l.x-index l.items)) ≡ args_nodes (args_of l.items))
    × (l.all.size + args_size (args_of (drop l.x-index l.items)) ≡ args_size (args_of l.items))
    × (max l.all.depth (args_depth (args_of (drop l.x-index l.items))) ≡ args_depth (args_of l.items))

abbrev pub invariant-of_fields-loop-x : goal.invariant-of_fields-loop-x
invariant-of_fields-loop-x l = (l.all.nodes + fields_nodes (args_of (drop l.x-index l.items)) ≡ fields_nodes (args_of l.items))
    × (l.all.size + args_size (args_of (drop l.x-index l.items)) ≡ args_size (args_of l.items))
    × (max l.all.depth (args_depth (args_of (drop l.x-index l.items))) ≡ args_depth (args_of l.items))

abbrev pub invariant-of_binds-loop-x : goal.invariant-of_binds-loop-x
invariant-of_binds-loop-x l = (l.all.nodes + binds_nodes (binds_of (drop l.x-index l.items)) ≡ binds_nodes (binds_of l.items))
    × (l.all.size + binds_size (binds_of (drop l.x-index l.items)) ≡ binds_size (binds_of l.items))
    × (max l.all.depth (binds_depth (binds_of (drop l.x-index l.items))) ≡ binds_depth (binds_of l.items))

abbrev pub invariant-of_join_points-loop-x : goal.invariant-of_join_points-loop-x
invariant-of_join_points-loop-x l = (l.all.nodes + joins_nodes (joins_of (drop l.x-index l.items)) ≡ joins_nodes (joins_of l.items))
    × (l.all.size + joins_size (joins_of (drop l.x-index l.items)) ≡ joins_size (joins_of l.items))
    × (max l.all.depth (joins_depth (joins_of (drop l.x-index l.items))) ≡ joins_depth (joins_of l.items))

abbrev pub invariant-of_alternatives-loop-x : goal.invariant-of_alternatives-loop-x
invariant-of_alternatives-loop-x l = (l.all.nodes + alts_nodes (alts_of (drop l.x-index l.items)) ≡ alts_nodes (alts_of l.items))
    × (l.all.size + alts_size (alts_of (drop l.x-index l.items)) ≡ alts_size (alts_of l.items))
    × (max l.all.depth (alts_depth (alts_of (drop l.x-index l.items))) ≡ alts_depth (alts_of l.items))
