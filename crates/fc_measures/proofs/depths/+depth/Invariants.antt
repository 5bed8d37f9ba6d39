use Rattle.std.proofs.Common.{◌≡◌, ◌≤◌, max, min, drop}
use Rattle.fc_syntax.specs.View.{exprs_of, args_of, binds_of, joins_of, alts_of}
use Rattle.fc_syntax.specs.Measures.{exprs_depth, args_depth, binds_depth, joins_depth, alts_depth}
use Rattle.fc_measures.proofs.depths.+depth.Given as goal

abbrev pub invariant-depth_of_exprs-loop-x : goal.invariant-depth_of_exprs-loop-x
invariant-depth_of_exprs-loop-x l = (l.deepest ≤ l.most) × (min (exprs_depth (exprs_of l.items)) l.most ≡ min (max l.deepest (exprs_depth (exprs_of (drop l.x-index l.items)))) l.most)

abbrev pub invariant-depth_of_args-loop-x : goal.invariant-depth_of_args-loop-x
invariant-depth_of_args-loop-x l = (l.deepest ≤ l.most) × (min (args_depth (args_of l.items)) l.most ≡ min (max l.deepest (args_depth (args_of (drop l.x-index l.items)))) l.most)

abbrev pub invariant-depth_of_binds-loop-x : goal.invariant-depth_of_binds-loop-x
invariant-depth_of_binds-loop-x l = (l.deepest ≤ l.most) × (min (binds_depth (binds_of l.items)) l.most ≡ min (max l.deepest (binds_depth (binds_of (drop l.x-index l.items)))) l.most)

abbrev pub invariant-depth_of_joins-loop-x : goal.invariant-depth_of_joins-loop-x
invariant-depth_of_joins-loop-x l = (l.deepest ≤ l.most) × (min (joins_depth (joins_of l.items)) l.most ≡ min (max l.deepest (joins_depth (joins_of (drop l.x-index l.items)))) l.most)

abbrev pub invariant-depth_of_alts-loop-x : goal.invariant-depth_of_alts-loop-x
invariant-depth_of_alts-loop-x l = (l.deepest ≤ l.most) × (min (alts_depth (alts_of l.items)) l.most ≡ min (max l.deepest (alts_depth (alts_of (drop l.x-index l.items)))) l.most)
