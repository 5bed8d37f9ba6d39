use Rattle.std.proofs.Common.{◌≡◌, drop}
use Rattle.fc_syntax.specs.View.{alts_of, args_of, binds_of, exprs_of, joins_of}
use Rattle.fc_free.specs.Free.{free_in_alts, free_in_args, free_in_binds, free_in_exprs, free_in_joins, is_among}
use Rattle.fc_free.proofs.mentioning.+mentions.Given as goal

-- the name occurs in what is still to come where it occurs in all
abbrev pub invariant-in_arguments-loop-x : goal.invariant-in_arguments-loop-x
invariant-in_arguments-loop-x l = is_among l.name (free_in_args (args_of (drop l.x-index l.items))) ≡ is_among l.name (free_in_args (args_of l.items))

abbrev pub invariant-in_expressions-loop-x : goal.invariant-in_expressions-loop-x
invariant-in_expressions-loop-x l = is_among l.name (free_in_exprs (exprs_of (drop l.x-index l.items))) ≡ is_among l.name (free_in_exprs (exprs_of l.items))

abbrev pub invariant-in_binds-loop-x : goal.invariant-in_binds-loop-x
invariant-in_binds-loop-x l = is_among l.name (free_in_binds (binds_of (drop l.x-index l.items))) ≡ is_among l.name (free_in_binds (binds_of l.items))

abbrev pub invariant-in_join_points-loop-x : goal.invariant-in_join_points-loop-x
invariant-in_join_points-loop-x l = is_among l.name (free_in_joins (joins_of (drop l.x-index l.items))) ≡ is_among l.name (free_in_joins (joins_of l.items))

abbrev pub invariant-in_alternatives-loop-x : goal.invariant-in_alternatives-loop-x
invariant-in_alternatives-loop-x l = is_among l.name (free_in_alts (alts_of (drop l.x-index l.items))) ≡ is_among l.name (free_in_alts (alts_of l.items))
