use Rattle.std.proofs.Common.{◌≡◌, take}
use Rattle.fc_syntax.specs.View.{arg_of, binders_of, binds_of, expr_of, joins_of, ty_of}
use Rattle.fc_model.specs.Resolution.{bind_words, join_words}
use Rattle.fc_model.specs.DeclaredWords.{top_by}
use Rattle.fc_scope.specs.ScopeWords.{locals_of}
use Rattle.fc_naming.specs.Named.{IsNamedArg, IsNamedBelow, IsNamedExpr, IsNamedHead, IsNamedTy}
use Rattle.fc_naming.proofs.Each.{AreEach}
use Rattle.fc_naming.proofs.expressions.+naming.Given as goal

abbrev pub invariant-named_args-loop-arg : goal.invariant-named_args-loop-arg
invariant-named_args-loop-arg l = AreEach (λ x y. IsNamedArg (top_by l.top) (locals_of l.scope) (arg_of x) (arg_of y)) (take l.arg-index l.args) l.out

abbrev pub invariant-named_exprs-loop-e : goal.invariant-named_exprs-loop-e
invariant-named_exprs-loop-e l = AreEach (λ x y. IsNamedExpr (top_by l.top) (locals_of l.scope) (expr_of x) (expr_of y)) (take l.e-index l.es) l.out

abbrev pub invariant-named_alts-loop-alt : goal.invariant-named_alts-loop-alt
invariant-named_alts-loop-alt l = AreEach (λ x y. IsNamedHead (top_by l.top) (locals_of l.scope) x.head y.head × IsNamedBelow (top_by l.top) (locals_of l.scope) (binders_of x.binders) (expr_of x.body) (binders_of y.binders) (expr_of y.body)) (take l.alt-index l.alts) l.out

abbrev pub invariant-named_binds-loop-i : goal.invariant-named_binds-loop-i
invariant-named_binds-loop-i l = record {
  each : AreEach (λ x y. IsNamedTy (top_by l.top) (locals_of l.scope) (ty_of x.ty) (ty_of y.ty) × IsNamedExpr (top_by l.top) (locals_of l.scope) (expr_of x.rhs) (expr_of y.rhs)) (take l.i l.binds) l.out;
  words : bind_words (binds_of l.out) ≡ take l.i l.words;
}

abbrev pub invariant-named_joins-loop-i : goal.invariant-named_joins-loop-i
invariant-named_joins-loop-i l = record {
  each : AreEach (λ x y. IsNamedBelow (top_by l.top) (locals_of l.scope) (binders_of x.params) (expr_of x.rhs) (binders_of y.params) (expr_of y.rhs)) (take l.i l.joins) l.out;
  words : join_words (joins_of l.out) ≡ take l.i l.words;
}
