use Rattle.std.proofs.Common.{◌≡◌, ℕ, ◌+◌, ◌*◌, max, drop}
use denote.Param.Weighed.{most}
use Rattle.fc_syntax.specs.declared.expr.Alt.{size-Alt}
use Rattle.fc_syntax.specs.declared.expr.Arg.{size-Arg}
use Rattle.fc_syntax.specs.declared.expr.Bind.{size-Bind}
use Rattle.fc_syntax.specs.declared.expr.Expr.{size-Expr}
use Rattle.fc_syntax.specs.declared.expr.JoinBind.{size-JoinBind}
use Rattle.fc_syntax.specs.declared.ty.Ref.{Ref}
use Rattle.fc_model.specs.NamelessView.{nalts_of, nbinds_of, njoins_of}
use Rattle.fc_model.specs.Typing.{Start, alts_judged, binds_judged, joins_judged, without_joins}
use Rattle.fc_type_scope.specs.Scopes.{scope_in}
use Rattle.fc_type_table.specs.TypeTables.{Grows, IsType, shown}
use Rattle.fc_lint_calls.specs.AltViews.{before_of}
use Rattle.fc_lint_calls.specs.GivenViews.{AreGiven, givens_in}
use Rattle.fc_lint_context.specs.ContextViews.{IsContextOver, context_in, modules_of_context}
use Rattle.fc_lint_expr.specs.Lists.{args_from, operands_from, with_givens}
use Rattle.fc_lint_expr.proofs.+lint.Given as goal

-- what is still to come answers as the whole, in the table as it was
abbrev pub invariant-arguments::arguments-loop-arg : goal.invariant-arguments::arguments-loop-arg
invariant-arguments::arguments-loop-arg l = record {
  grows : Grows l.initial.types l.types;
  context : IsContextOver l.types l.context;
  are_given : AreGiven l.types (scope_in l.context.scope) l.given;
  so_far : args_from (modules_of_context l.context) (without_joins (context_in l.initial.types l.context)) 0 l.args
      ≡ with_givens (givens_in l.types (scope_in l.context.scope) l.given) (args_from (modules_of_context l.context) (without_joins (context_in l.initial.types l.context)) l.part (drop l.arg-index l.args));
}

abbrev pub invariant-arguments::operands-loop-operand : goal.invariant-arguments::operands-loop-operand
invariant-arguments::operands-loop-operand l = record {
  grows : Grows l.initial.types l.types;
  context : IsContextOver l.types l.context;
  are_given : AreGiven l.types (scope_in l.context.scope) l.given;
  so_far : operands_from (modules_of_context l.context) (without_joins (context_in l.initial.types l.context)) 0 l.operands
      ≡ with_givens (givens_in l.types (scope_in l.context.scope) l.given) (operands_from (modules_of_context l.context) (without_joins (context_in l.initial.types l.context)) l.part (drop l.operand-index l.operands));
}

abbrev pub invariant-cases::each_alternative_fits-loop-alternative : goal.invariant-cases::each_alternative_fits-loop-alternative
invariant-cases::each_alternative_fits-loop-alternative l = record {
  grows : Grows l.initial.types l.types;
  context : IsContextOver l.types l.context;
  scrutinee : IsType l.types (scope_in l.context.scope) l.wanted.scrutinee;
  answer : IsType l.types (scope_in l.context.scope) l.wanted.answer;
  so_far : alts_judged (modules_of_context l.context) (context_in l.initial.types l.context) (shown l.initial.types (scope_in l.context.scope) l.wanted.scrutinee) (shown l.initial.types (scope_in l.context.scope) l.wanted.answer) 3 Start (nalts_of l.alternatives)
      ≡ alts_judged (modules_of_context l.context) (context_in l.initial.types l.context) (shown l.initial.types (scope_in l.context.scope) l.wanted.scrutinee) (shown l.initial.types (scope_in l.context.scope) l.wanted.answer) l.part (before_of l.before) (nalts_of (drop l.alternative-index l.alternatives));
}

abbrev pub invariant-joins::each_join_fits-loop-bind : goal.invariant-joins::each_join_fits-loop-bind
invariant-joins::each_join_fits-loop-bind l = record {
  grows : Grows l.initial.types l.types;
  context : IsContextOver l.types l.context;
  answer : IsType l.types (scope_in l.context.scope) l.answer;
  so_far : joins_judged (modules_of_context l.context) (context_in l.initial.types l.context) (shown l.initial.types (scope_in l.context.scope) l.answer) 1 (njoins_of l.binds)
      ≡ joins_judged (modules_of_context l.context) (context_in l.initial.types l.context) (shown l.initial.types (scope_in l.context.scope) l.answer) l.part (njoins_of (drop l.bind-index l.binds));
}

abbrev pub invariant-lets::each_bind_fits-loop-bind : goal.invariant-lets::each_bind_fits-loop-bind
invariant-lets::each_bind_fits-loop-bind l = record {
  grows : Grows l.initial.types l.types;
  context : IsContextOver l.types l.context;
  so_far : binds_judged (modules_of_context l.context) (context_in l.initial.types l.context) l.recursive 0 (nbinds_of l.binds)
      ≡ binds_judged (modules_of_context l.context) (context_in l.initial.types l.context) l.recursive l.part (nbinds_of (drop l.bind-index l.binds));
}

-- ---- measures: the depth of what is judged, where a function that is given the same or several parts stands above those that it calls

abbrev pub decreases-arguments::argument : goal.decreases-arguments::argument
decreases-arguments::argument l = 10 * size-Arg ℕ Ref l.arg.now

abbrev pub decreases-arguments::argument_of_part : goal.decreases-arguments::argument_of_part
decreases-arguments::argument_of_part l = 10 * size-Arg ℕ Ref l.arg.now + 1

abbrev pub decreases-arguments::arguments : goal.decreases-arguments::arguments
decreases-arguments::arguments l = 10 * most (size-Arg ℕ Ref) l.args.now + 2

abbrev pub decreases-arguments::operand_of_part : goal.decreases-arguments::operand_of_part
decreases-arguments::operand_of_part l = 10 * size-Expr ℕ Ref l.e.now + 2

abbrev pub decreases-arguments::operands : goal.decreases-arguments::operands
decreases-arguments::operands l = 10 * most (size-Expr ℕ Ref) l.operands.now + 3

abbrev pub decreases-binding::type_behind : goal.decreases-binding::type_behind
decreases-binding::type_behind l = 10 * size-Expr ℕ Ref l.body.now + 2

abbrev pub decreases-binding::type_of_body : goal.decreases-binding::type_of_body
decreases-binding::type_of_body l = 10 * size-Expr ℕ Ref l.body.now + 2

abbrev pub decreases-binding::type_below : goal.decreases-binding::type_below
decreases-binding::type_below l = 10 * size-Expr ℕ Ref l.body.now + 3

abbrev pub decreases-binding::type_of_lambda : goal.decreases-binding::type_of_lambda
decreases-binding::type_of_lambda l = 10 * size-Expr ℕ Ref l.body.now + 4

abbrev pub decreases-cases::alternative_fits : goal.decreases-cases::alternative_fits
decreases-cases::alternative_fits l = 10 * size-Alt ℕ Ref l.alternative.now

abbrev pub decreases-cases::alternative_part_fits : goal.decreases-cases::alternative_part_fits
decreases-cases::alternative_part_fits l = 10 * size-Alt ℕ Ref l.alternative.now + 1

abbrev pub decreases-cases::each_alternative_fits : goal.decreases-cases::each_alternative_fits
decreases-cases::each_alternative_fits l = 10 * most (size-Alt ℕ Ref) l.alternatives.now + 2

abbrev pub decreases-cases::alternatives_fit : goal.decreases-cases::alternatives_fit
decreases-cases::alternatives_fit l = 10 * most (size-Alt ℕ Ref) l.alternatives.now + 3

abbrev pub decreases-cases::type_of_case : goal.decreases-cases::type_of_case
decreases-cases::type_of_case l = 10 * most (size-Alt ℕ Ref) l.alternatives.now + 4

abbrev pub decreases-expressions::type_of_part : goal.decreases-expressions::type_of_part
decreases-expressions::type_of_part l = 10 * size-Expr ℕ Ref l.e.now + 1

abbrev pub decreases-expressions::type_of_constructor : goal.decreases-expressions::type_of_constructor
decreases-expressions::type_of_constructor l = 10 * most (size-Arg ℕ Ref) l.args.now + 3

abbrev pub decreases-expressions::type_of_primitive : goal.decreases-expressions::type_of_primitive
decreases-expressions::type_of_primitive l = 10 * most (size-Expr ℕ Ref) l.args.now + 4

abbrev pub decreases-expressions::type_of_jump : goal.decreases-expressions::type_of_jump
decreases-expressions::type_of_jump l = 10 * most (size-Arg ℕ Ref) l.args.now + 3

abbrev pub decreases-expressions::judge : goal.decreases-expressions::judge
decreases-expressions::judge l = 10 * size-Expr ℕ Ref l.e.now

abbrev pub decreases-joins::join_fits : goal.decreases-joins::join_fits
decreases-joins::join_fits l = 10 * size-JoinBind ℕ Ref l.bind.now

abbrev pub decreases-joins::join_part_fits : goal.decreases-joins::join_part_fits
decreases-joins::join_part_fits l = 10 * size-JoinBind ℕ Ref l.bind.now + 1

abbrev pub decreases-joins::each_join_fits : goal.decreases-joins::each_join_fits
decreases-joins::each_join_fits l = 10 * most (size-JoinBind ℕ Ref) l.binds.now + 2

abbrev pub decreases-joins::joins_fit : goal.decreases-joins::joins_fit
decreases-joins::joins_fit l = 10 * most (size-JoinBind ℕ Ref) l.binds.now + 3

abbrev pub decreases-joins::type_behind_joins : goal.decreases-joins::type_behind_joins
decreases-joins::type_behind_joins l = 10 * size-Expr ℕ Ref l.body.now + 2

abbrev pub decreases-joins::type_of_join : goal.decreases-joins::type_of_join
decreases-joins::type_of_join l = 10 * max (size-Expr ℕ Ref l.body.now) (most (size-JoinBind ℕ Ref) l.binds.now) + 4

abbrev pub decreases-lets::bind_fits : goal.decreases-lets::bind_fits
decreases-lets::bind_fits l = 10 * size-Bind ℕ Ref l.bind.now

abbrev pub decreases-lets::bind_part_fits : goal.decreases-lets::bind_part_fits
decreases-lets::bind_part_fits l = 10 * size-Bind ℕ Ref l.bind.now + 1

abbrev pub decreases-lets::each_bind_fits : goal.decreases-lets::each_bind_fits
decreases-lets::each_bind_fits l = 10 * most (size-Bind ℕ Ref) l.binds.now + 2

abbrev pub decreases-lets::binds_fit : goal.decreases-lets::binds_fit
decreases-lets::binds_fit l = 10 * most (size-Bind ℕ Ref) l.binds.now + 3

abbrev pub decreases-lets::type_behind_binds : goal.decreases-lets::type_behind_binds
decreases-lets::type_behind_binds l = 10 * size-Expr ℕ Ref l.body.now + 2

abbrev pub decreases-lets::type_of_let : goal.decreases-lets::type_of_let
decreases-lets::type_of_let l = 10 * max (size-Expr ℕ Ref l.body.now) (most (size-Bind ℕ Ref) l.binds.now) + 4

abbrev pub decreases-expressions::type_apart : goal.decreases-expressions::type_apart
decreases-expressions::type_apart l = 10 * size-Expr ℕ Ref l.e.now + 1

abbrev pub decreases-expressions::type_of_first : goal.decreases-expressions::type_of_first
decreases-expressions::type_of_first l = 10 * size-Expr ℕ Ref l.e.now + 2

abbrev pub decreases-expressions::type_of_applied : goal.decreases-expressions::type_of_applied
decreases-expressions::type_of_applied l = 10 * size-Arg ℕ Ref l.arg.now + 2
