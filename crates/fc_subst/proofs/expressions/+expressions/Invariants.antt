use Rattle.std.proofs.Common.{◌≡◌, take}
use Rattle.fc_model.specs.NamelessView.{nexprs_of, nargs_of, nbinds_of, njoins_of, nalts_of}
use Rattle.fc_model.specs.Replacing.{expressions, put_in_alts, put_in_args, put_in_binds, put_in_exprs, put_in_joins, whole_coercions}
use Rattle.fc_subst.specs.Replacements.{lifted_of}
use Rattle.fc_subst.proofs.expressions.+expressions.Given as goal

abbrev pub decreases-value_at : goal.decreases-value_at
decreases-value_at l = l.fuel

abbrev pub decreases-value_for : goal.decreases-value_for
decreases-value_for l = l.fuel

abbrev pub decreases-shifted_expression : goal.decreases-shifted_expression
decreases-shifted_expression l = l.fuel

abbrev pub decreases-expression_with : goal.decreases-expression_with
decreases-expression_with l = l.fuel

abbrev pub decreases-let_with : goal.decreases-let_with
decreases-let_with l = l.fuel

abbrev pub decreases-case_with : goal.decreases-case_with
decreases-case_with l = l.fuel

abbrev pub decreases-join_with : goal.decreases-join_with
decreases-join_with l = l.fuel

abbrev pub decreases-argument_with : goal.decreases-argument_with
decreases-argument_with l = l.fuel

abbrev pub decreases-expression_behind : goal.decreases-expression_behind
decreases-expression_behind l = l.fuel

abbrev pub decreases-expression_below_values : goal.decreases-expression_below_values
decreases-expression_below_values l = l.fuel

abbrev pub decreases-expression_below_joins : goal.decreases-expression_below_joins
decreases-expression_below_joins l = l.fuel

abbrev pub decreases-group_with : goal.decreases-group_with
decreases-group_with l = l.fuel

abbrev pub decreases-join_group_with : goal.decreases-join_group_with
decreases-join_group_with l = l.fuel

abbrev pub decreases-alternatives_below : goal.decreases-alternatives_below
decreases-alternatives_below l = l.fuel

abbrev pub decreases-bind_with : goal.decreases-bind_with
decreases-bind_with l = l.fuel

abbrev pub decreases-join_point_with : goal.decreases-join_point_with
decreases-join_point_with l = l.fuel

abbrev pub decreases-alternative_with : goal.decreases-alternative_with
decreases-alternative_with l = l.fuel

abbrev pub decreases-scoped_with : goal.decreases-scoped_with
decreases-scoped_with l = l.fuel

abbrev pub decreases-further_with : goal.decreases-further_with
decreases-further_with l = l.fuel

abbrev pub decreases-expressions_with : goal.decreases-expressions_with
decreases-expressions_with l = l.fuel

abbrev pub decreases-arguments_with : goal.decreases-arguments_with
decreases-arguments_with l = l.fuel

abbrev pub decreases-binds_with : goal.decreases-binds_with
decreases-binds_with l = l.fuel

abbrev pub decreases-join_points_with : goal.decreases-join_points_with
decreases-join_points_with l = l.fuel

abbrev pub decreases-alternatives_with : goal.decreases-alternatives_with
decreases-alternatives_with l = l.fuel

abbrev pub invariant-expressions_with-loop-x : goal.invariant-expressions_with-loop-x
invariant-expressions_with-loop-x l = nexprs_of l.all ≡ put_in_exprs expressions whole_coercions (lifted_of l.by) (nexprs_of (take l.x-index l.items))

abbrev pub invariant-arguments_with-loop-x : goal.invariant-arguments_with-loop-x
invariant-arguments_with-loop-x l = nargs_of l.all ≡ put_in_args expressions whole_coercions (lifted_of l.by) (nargs_of (take l.x-index l.items))

abbrev pub invariant-binds_with-loop-x : goal.invariant-binds_with-loop-x
invariant-binds_with-loop-x l = nbinds_of l.all ≡ put_in_binds expressions whole_coercions (lifted_of l.by) (nbinds_of (take l.x-index l.items))

abbrev pub invariant-join_points_with-loop-x : goal.invariant-join_points_with-loop-x
invariant-join_points_with-loop-x l = njoins_of l.all ≡ put_in_joins expressions whole_coercions (lifted_of l.by) (njoins_of (take l.x-index l.items))

abbrev pub invariant-alternatives_with-loop-x : goal.invariant-alternatives_with-loop-x
invariant-alternatives_with-loop-x l = nalts_of l.all ≡ put_in_alts expressions whole_coercions (lifted_of l.by) (nalts_of (take l.x-index l.items))
