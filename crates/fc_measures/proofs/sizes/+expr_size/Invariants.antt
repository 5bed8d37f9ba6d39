use Rattle.std.proofs.Common.{◌≡◌, ◌≤◌, ◌+◌, min, drop}
use Rattle.fc_syntax.specs.View.{exprs_of, args_of, binds_of, joins_of, alts_of}
use Rattle.fc_syntax.specs.Measures.{exprs_size, args_size, binds_size, joins_size, alts_size}
use Rattle.fc_measures.proofs.sizes.+expr_size.Given as goal

abbrev pub invariant-size_of_exprs-loop-x : goal.invariant-size_of_exprs-loop-x
invariant-size_of_exprs-loop-x l = (l.sum ≤ l.most) × (min (exprs_size (exprs_of l.items)) l.most ≡ min (l.sum + exprs_size (exprs_of (drop l.x-index l.items))) l.most)

abbrev pub invariant-size_of_args-loop-x : goal.invariant-size_of_args-loop-x
invariant-size_of_args-loop-x l = (l.sum ≤ l.most) × (min (args_size (args_of l.items)) l.most ≡ min (l.sum + args_size (args_of (drop l.x-index l.items))) l.most)

abbrev pub invariant-size_of_binds-loop-x : goal.invariant-size_of_binds-loop-x
invariant-size_of_binds-loop-x l = (l.sum ≤ l.most) × (min (binds_size (binds_of l.items)) l.most ≡ min (l.sum + binds_size (binds_of (drop l.x-index l.items))) l.most)

abbrev pub invariant-size_of_joins-loop-x : goal.invariant-size_of_joins-loop-x
invariant-size_of_joins-loop-x l = (l.sum ≤ l.most) × (min (joins_size (joins_of l.items)) l.most ≡ min (l.sum + joins_size (joins_of (drop l.x-index l.items))) l.most)

abbrev pub invariant-size_of_alts-loop-x : goal.invariant-size_of_alts-loop-x
invariant-size_of_alts-loop-x l = (l.sum ≤ l.most) × (min (alts_size (alts_of l.items)) l.most ≡ min (l.sum + alts_size (alts_of (drop l.x-index l.items))) l.most)
