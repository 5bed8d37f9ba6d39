use Rattle.std.proofs.Common.{◌≡◌, drop}
use Rattle.fc_model.specs.NamelessView.{nalts_of, nargs_of, nbinds_of, nexprs_of, njoins_of}
use Rattle.fc_rows.specs.Occurrences.{and_further, in_alts, in_args, in_binds, in_exprs, in_fields, in_joins}
use Rattle.fc_occur.specs.Spans.{sought_of}
use Rattle.fc_occur.proofs.counting.+counting.Given as goal

abbrev pub invariant-in_arguments-loop-x : goal.invariant-in_arguments-loop-x
invariant-in_arguments-loop-x l = and_further l.all (in_args (sought_of l.sought) (nargs_of (drop l.x-index l.items))) ≡ in_args (sought_of l.sought) (nargs_of l.items)

abbrev pub invariant-in_constructor-loop-x : goal.invariant-in_constructor-loop-x
invariant-in_constructor-loop-x l = and_further l.all (in_fields (sought_of l.sought) (nargs_of (drop l.x-index l.items))) ≡ in_fields (sought_of l.sought) (nargs_of l.items)

abbrev pub invariant-in_expressions-loop-x : goal.invariant-in_expressions-loop-x
invariant-in_expressions-loop-x l = and_further l.all (in_exprs (sought_of l.sought) (nexprs_of (drop l.x-index l.items))) ≡ in_exprs (sought_of l.sought) (nexprs_of l.items)

abbrev pub invariant-in_group-loop-x : goal.invariant-in_group-loop-x
invariant-in_group-loop-x l = and_further l.all (in_binds (sought_of l.sought) (nbinds_of (drop l.x-index l.items))) ≡ in_binds (sought_of l.sought) (nbinds_of l.items)

abbrev pub invariant-in_join_points-loop-x : goal.invariant-in_join_points-loop-x
invariant-in_join_points-loop-x l = and_further l.all (in_joins (sought_of l.sought) (njoins_of (drop l.x-index l.items))) ≡ in_joins (sought_of l.sought) (njoins_of l.items)

abbrev pub invariant-in_alternatives-loop-x : goal.invariant-in_alternatives-loop-x
invariant-in_alternatives-loop-x l = and_further l.all (in_alts (sought_of l.sought) (nalts_of (drop l.x-index l.items))) ≡ in_alts (sought_of l.sought) (nalts_of l.items)

abbrev pub decreases-in_expression : goal.decreases-in_expression
decreases-in_expression l = l.fuel

abbrev pub decreases-in_application : goal.decreases-in_application
decreases-in_application l = l.fuel

abbrev pub decreases-in_let : goal.decreases-in_let
decreases-in_let l = l.fuel

abbrev pub decreases-in_right_sides : goal.decreases-in_right_sides
decreases-in_right_sides l = l.fuel

abbrev pub decreases-in_case : goal.decreases-in_case
decreases-in_case l = l.fuel

abbrev pub decreases-in_join : goal.decreases-in_join
decreases-in_join l = l.fuel

abbrev pub decreases-in_lambda : goal.decreases-in_lambda
decreases-in_lambda l = l.fuel

abbrev pub decreases-in_argument : goal.decreases-in_argument
decreases-in_argument l = l.fuel

abbrev pub decreases-in_constructor_argument : goal.decreases-in_constructor_argument
decreases-in_constructor_argument l = l.fuel

abbrev pub decreases-in_arguments : goal.decreases-in_arguments
decreases-in_arguments l = l.fuel

abbrev pub decreases-in_constructor : goal.decreases-in_constructor
decreases-in_constructor l = l.fuel

abbrev pub decreases-in_expressions : goal.decreases-in_expressions
decreases-in_expressions l = l.fuel

abbrev pub decreases-in_group : goal.decreases-in_group
decreases-in_group l = l.fuel

abbrev pub decreases-in_scoped : goal.decreases-in_scoped
decreases-in_scoped l = l.fuel

abbrev pub decreases-in_join_points : goal.decreases-in_join_points
decreases-in_join_points l = l.fuel

abbrev pub decreases-in_join_sides : goal.decreases-in_join_sides
decreases-in_join_sides l = l.fuel

abbrev pub decreases-in_alternatives : goal.decreases-in_alternatives
decreases-in_alternatives l = l.fuel
