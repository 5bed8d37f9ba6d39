-- How often variables and join points occur in an expression: not at all; once; once, and as an argument of a constructor; once, inside of a lambda over a value or
-- a coercion or of the right side of a recursive join point, which may run more than once; or more than once.
use Rattle.std.specs.Prelude.{ℕ, zero, suc, Bool, true, false, nat_lt, if◌then◌else◌, List, [], ◌∷◌}
use Rattle.fc_model.specs.Nameless.{NBinder, NBValue, NBType, NBCo, NATerm, NAType, NACo, NBound, NJoined, NBranch}
use Rattle.fc_model.specs.Nameless.{NExpr, NLocal, NVar, NLit, NApp, NLam, NLet, NCase, NCast, NCon, NPrim, NFail, NJoin, NJump}
use Rattle.fc_model.specs.Nameless.{NArg, NArgs, NoNArgs, MoreNArgs, NExprs, NoNExprs, MoreNExprs, NBinds, NoNBinds, MoreNBinds, NJoins, NoNJoins, MoreNJoins, NAlts, NoNAlts, MoreNAlts}
use Rattle.fc_model.specs.Replacing.{bind_count, join_count, times}
use Rattle.fc_rows.specs.declared.occurrence.Occurrence.{Occurrence}
use Rattle.fc_rows.specs.declared.occurrence.Occurrence.TheVariants.{Dead, Once, OnceAsField, OnceInside, Many}

abbrev pub is_dead : Occurrence → Bool
is_dead Dead = true
is_dead Once = false
is_dead OnceAsField = false
is_dead OnceInside = false
is_dead Many = false

abbrev pub and_further : Occurrence → Occurrence → Occurrence
and_further Dead d = d
and_further Once d = if is_dead d then Once else Many
and_further OnceAsField d = if is_dead d then OnceAsField else Many
and_further OnceInside d = if is_dead d then OnceInside else Many
and_further Many d = Many

abbrev pub inside : Occurrence → Occurrence
inside Dead = Dead
inside Once = OnceInside
inside OnceAsField = OnceInside
inside OnceInside = OnceInside
inside Many = Many

abbrev pub as_field : Occurrence → Occurrence
as_field Dead = Dead
as_field Once = OnceAsField
as_field OnceAsField = OnceAsField
as_field OnceInside = OnceInside
as_field Many = Many

-- What is sought: what each variable of a value and each join point counts where it occurs.
pub record Sought : Type 0 where
  pub values : ℕ → Occurrence
  pub joins : ℕ → Occurrence

abbrev pub dead_before : (ℕ → Occurrence) → ℕ → Occurrence
dead_before f zero = Dead
dead_before f (suc i) = f i

abbrev pub behind_values : ℕ → Sought → Sought
behind_values n u = record { values = times n dead_before u.values; joins = u.joins }

abbrev pub behind_joins : ℕ → Sought → Sought
behind_joins n u = record { values = u.values; joins = times n dead_before u.joins }

abbrev pub behind : NBinder → Sought → Sought
behind (NBValue t) u = behind_values 1 u
behind (NBType k) u = u
behind (NBCo r t w) u = u

abbrev pub behind_all : List NBinder → Sought → Sought
behind_all [] u = u
behind_all (b ∷ bs) u = behind_all bs (behind b u)

-- a lambda over a type does not run again
abbrev pub below_lambda : NBinder → Occurrence → Occurrence
below_lambda (NBValue t) d = inside d
below_lambda (NBType k) d = d
below_lambda (NBCo r t u) d = inside d

abbrev pub is_local : NExpr → Bool
is_local (NLocal i) = true
is_local _ = false

abbrev mutual
  pub occurrences : Sought → NExpr → Occurrence
  occurrences u (NLocal i) = u.values i
  occurrences u (NVar n) = Dead
  occurrences u (NLit n) = Dead
  occurrences u (NApp f a) = and_further (occurrences u f) (in_arg u a)
  occurrences u (NLam b e) = below_lambda b (occurrences (behind b u) e)
  occurrences u (NLet r bs e) = and_further (in_binds (if r then behind_values (bind_count bs) u else u) bs) (occurrences (behind_values (bind_count bs) u) e)
  occurrences u (NCase e t v alts) = and_further (occurrences u e) (in_alts (behind_values 1 u) alts)
  occurrences u (NCast e g) = occurrences u e
  occurrences u (NCon n args) = in_fields u args
  occurrences u (NPrim op es) = in_exprs u es
  occurrences u (NFail t) = Dead
  occurrences u (NJoin r t js e) =
      and_further (if r then inside (in_joins (behind_joins (join_count js) u) js) else in_joins u js) (occurrences (behind_joins (join_count js) u) e)
  occurrences u (NJump i args) = and_further (u.joins i) (in_args u args)

  pub in_arg : Sought → NArg → Occurrence
  in_arg u (NATerm e) = occurrences u e
  in_arg u (NAType t) = Dead
  in_arg u (NACo g) = Dead

  pub in_args : Sought → NArgs → Occurrence
  in_args u NoNArgs = Dead
  in_args u (MoreNArgs a rest) = and_further (in_arg u a) (in_args u rest)

  pub in_fields : Sought → NArgs → Occurrence
  in_fields u NoNArgs = Dead
  in_fields u (MoreNArgs a rest) = and_further (in_field u a) (in_fields u rest)

  pub in_field : Sought → NArg → Occurrence
  in_field u (NATerm e) = if is_local e then as_field (occurrences u e) else occurrences u e
  in_field u (NAType t) = Dead
  in_field u (NACo g) = Dead

  pub in_exprs : Sought → NExprs → Occurrence
  in_exprs u NoNExprs = Dead
  in_exprs u (MoreNExprs e rest) = and_further (occurrences u e) (in_exprs u rest)

  pub in_binds : Sought → NBinds → Occurrence
  in_binds u NoNBinds = Dead
  in_binds u (MoreNBinds (NBound t e) rest) = and_further (occurrences u e) (in_binds u rest)

  pub in_joins : Sought → NJoins → Occurrence
  in_joins u NoNJoins = Dead
  in_joins u (MoreNJoins (NJoined ps e) rest) = and_further (occurrences (behind_all ps u) e) (in_joins u rest)

  pub in_alts : Sought → NAlts → Occurrence
  in_alts u NoNAlts = Dead
  in_alts u (MoreNAlts (NBranch h bs e) rest) = and_further (occurrences (behind_all bs u) e) (in_alts u rest)

-- one variable, by its distance; the n innermost variables; and the n innermost join points
abbrev pub first_ones : ℕ → ℕ → Occurrence
first_ones n i = if nat_lt i n then Once else Dead

abbrev pub no_ones : ℕ → Occurrence
no_ones i = Dead

abbrev pub innermost_values : ℕ → Sought
innermost_values n = record { values = first_ones n; joins = no_ones }

abbrev pub innermost_joins : ℕ → Sought
innermost_joins n = record { values = no_ones; joins = first_ones n }
