-- How often a word of the terms occurs free in an expression of the named tree, as a variable or as the join point of a jump, and what a count says of that.
use Rattle.std.specs.Prelude.{Bool, if◌then◌else◌, [], ◌∷◌}
use Rattle.fc_syntax.specs.Tree.{Word, Binder, BValue, BType, BCo, Arg, ATerm, AType, ACo, Bound, Joined, Branch}
use Rattle.fc_syntax.specs.Tree.{Expr, EVar, ELit, EApp, ELam, ELet, ECase, ECast, ECon, EPrim, EFail, EJoin, EJump}
use Rattle.fc_syntax.specs.Tree.{Exprs, NoExprs, MoreExprs, Args, NoArgs, MoreArgs, Binds, NoBinds, MoreBinds, Joins, NoJoins, MoreJoins, Alts, NoAlts, MoreAlts}
use Rattle.fc_model.specs.Resolution.{bind_words, join_words}
use Rattle.fc_free.specs.Free.{is_bound_by, of_one, of_words, value_words}
use Rattle.fc_rows.specs.Occurrences.{and_further, inside}
use Rattle.fc_rows.specs.declared.occurrence.Occurrence.{Occurrence}
use Rattle.fc_rows.specs.declared.occurrence.Occurrence.TheVariants.{Dead, Once, OnceAsField, OnceInside, Many}
use Rattle.fc_occur.specs.declared.counts.Count.{Count}
use Rattle.fc_occur.specs.declared.counts.Count.TheVariants as count

-- what occurs below binders that may bind the word
abbrev pub unless : Bool → Occurrence → Occurrence
unless bound d = if bound then Dead else d

-- a lambda over a type does not run again
abbrev pub below : Binder → Occurrence → Occurrence
below (BValue x t) d = inside d
below (BType a k) d = d
below (BCo c r t u) d = inside d

abbrev mutual
  pub counted : Word → Expr → Occurrence
  counted w (EVar n) = if is_bound_by (of_one w) n.module n.text then Once else Dead
  counted w (ELit n) = Dead
  counted w (EApp f a) = and_further (counted w f) (counted_in_arg w a)
  counted w (ELam b e) = unless (of_words (value_words (b ∷ [])) w) (below b (counted w e))
  counted w (ELet r bs e) =
      and_further (if r then unless (of_words (bind_words bs) w) (counted_in_binds w bs) else counted_in_binds w bs) (unless (of_words (bind_words bs) w) (counted w e))
  counted w (ECase e x t u alts) = and_further (counted w e) (unless (of_one x w) (counted_in_alts w alts))
  counted w (ECast e g) = counted w e
  counted w (ECon n args) = counted_in_args w args
  counted w (EPrim op es) = counted_in_exprs w es
  counted w (EFail t) = Dead
  counted w (EJoin r t js e) =
      and_further (if r then unless (of_words (join_words js) w) (inside (counted_in_joins w js)) else counted_in_joins w js) (unless (of_words (join_words js) w) (counted w e))
  counted w (EJump j args) = and_further (if of_one w j then Once else Dead) (counted_in_args w args)

  pub counted_in_arg : Word → Arg → Occurrence
  counted_in_arg w (ATerm e) = counted w e
  counted_in_arg w (AType t) = Dead
  counted_in_arg w (ACo g) = Dead

  pub counted_in_args : Word → Args → Occurrence
  counted_in_args w NoArgs = Dead
  counted_in_args w (MoreArgs a rest) = and_further (counted_in_arg w a) (counted_in_args w rest)

  pub counted_in_exprs : Word → Exprs → Occurrence
  counted_in_exprs w NoExprs = Dead
  counted_in_exprs w (MoreExprs e rest) = and_further (counted w e) (counted_in_exprs w rest)

  pub counted_in_binds : Word → Binds → Occurrence
  counted_in_binds w NoBinds = Dead
  counted_in_binds w (MoreBinds (Bound x t e) rest) = and_further (counted w e) (counted_in_binds w rest)

  pub counted_in_joins : Word → Joins → Occurrence
  counted_in_joins w NoJoins = Dead
  counted_in_joins w (MoreJoins (Joined j ps e) rest) = and_further (unless (of_words (value_words ps) w) (counted w e)) (counted_in_joins w rest)

  pub counted_in_alts : Word → Alts → Occurrence
  counted_in_alts w NoAlts = Dead
  counted_in_alts w (MoreAlts (Branch h bs e) rest) = and_further (unless (of_words (value_words bs) w) (counted w e)) (counted_in_alts w rest)

-- an argument of a constructor is one place, like any other
abbrev pub count_of : Occurrence → Count
count_of Dead = count.Dead
count_of Once = count.Once
count_of OnceAsField = count.Once
count_of OnceInside = count.OnceInside
count_of Many = count.Many
