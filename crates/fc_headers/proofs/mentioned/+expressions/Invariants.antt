use Rattle.std.proofs.Common.{◌≡◌, drop}
use Rattle.fc_model.specs.NamelessView.{nalts_of, nargs_of, nbinds_of, nexprs_of, njoins_of}
use Rattle.fc_model.specs.Resolution.{plus_all}
use Rattle.fc_model.specs.WordSets.{set_of}
use Rattle.fc_headers.specs.NamelessHeaders.{modules_in_alts, modules_in_args, modules_in_binds, modules_in_exprs, modules_in_joins}
use Rattle.fc_headers.proofs.mentioned.+expressions.Given as goal

abbrev pub invariant-in_arguments-loop-x : goal.invariant-in_arguments-loop-x
invariant-in_arguments-loop-x l =
    plus_all (modules_in_args (nargs_of (drop l.x-index l.items))) (set_of l.to)
    ≡ plus_all (modules_in_args (nargs_of l.items)) (set_of l.fn.to)

abbrev pub invariant-in_expressions-loop-x : goal.invariant-in_expressions-loop-x
invariant-in_expressions-loop-x l =
    plus_all (modules_in_exprs (nexprs_of (drop l.x-index l.items))) (set_of l.to)
    ≡ plus_all (modules_in_exprs (nexprs_of l.items)) (set_of l.fn.to)

abbrev pub invariant-in_binds-loop-x : goal.invariant-in_binds-loop-x
invariant-in_binds-loop-x l =
    plus_all (modules_in_binds (nbinds_of (drop l.x-index l.items))) (set_of l.to)
    ≡ plus_all (modules_in_binds (nbinds_of l.items)) (set_of l.fn.to)

abbrev pub invariant-in_join_points-loop-x : goal.invariant-in_join_points-loop-x
invariant-in_join_points-loop-x l =
    plus_all (modules_in_joins (njoins_of (drop l.x-index l.items))) (set_of l.to)
    ≡ plus_all (modules_in_joins (njoins_of l.items)) (set_of l.fn.to)

abbrev pub invariant-in_alternatives-loop-x : goal.invariant-in_alternatives-loop-x
invariant-in_alternatives-loop-x l =
    plus_all (modules_in_alts (nalts_of (drop l.x-index l.items))) (set_of l.to)
    ≡ plus_all (modules_in_alts (nalts_of l.items)) (set_of l.fn.to)
