-- How many binders there are, and how deep a right side is.
use Rattle.std.proofs.Common.{rules, ◌≡◌, ◌<◌, ℕ, suc, List, [], ◌∷◌, length, refl, ap}
use Rattle.fc_syntax.specs.declared.expr.Arg.TheFolds.{the_lemmas}
use Rattle.fc_syntax.specs.declared.expr.Bind as B
use Rattle.fc_syntax.specs.declared.expr.Bind.{size-Bind}
use Rattle.fc_syntax.specs.declared.expr.Binder.{Binder}
use Rattle.fc_syntax.specs.declared.expr.Expr.{size-Expr}
use Rattle.fc_syntax.specs.declared.ty.Ref.{Ref}
use Rattle.fc_model.specs.NamelessView.{nbinders_of}

pub binders_length : (bs : List (Binder ℕ)) → length bs ≡ length (nbinders_of bs)
binders_length [] = refl
binders_length (b ∷ bs) = ap suc (binders_length bs)

pub rhs_smaller : (b : B.Bind ℕ Ref) → size-Expr ℕ Ref b.rhs < size-Bind ℕ Ref b
rhs_smaller b = search (rules, the_lemmas)
