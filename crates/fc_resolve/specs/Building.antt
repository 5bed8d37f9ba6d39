-- The parts of expressions that are resolved so far, before what is still to come.
use Rattle.std.specs.Prelude.{ℕ, List, [], ◌∷◌, Result, Ok, Err}
use Rattle.fc_syntax.specs.declared.ty.Ref.{Ref}
use Rattle.fc_syntax.specs.declared.expr.Expr as E
use Rattle.fc_syntax.specs.declared.expr.Arg as A
use Rattle.fc_syntax.specs.declared.expr.Bind as RustBind
use Rattle.fc_syntax.specs.declared.expr.JoinBind as RustJoin
use Rattle.fc_syntax.specs.declared.expr.Alt as RustAlt
use Rattle.fc_model.specs.Faulting.{F}
use Rattle.fc_model.specs.Nameless.{NExprs, MoreNExprs, NArgs, MoreNArgs, NBinds, MoreNBinds, NJoins, MoreNJoins, NAlts, MoreNAlts}
use Rattle.fc_model.specs.NamelessView.{nexpr_of, narg_of, nbind_of, njoin_of, nalt_of}

abbrev pub exprs_before : List (E.Expr ℕ Ref) → NExprs → NExprs
exprs_before [] rest = rest
exprs_before (x ∷ items) rest = MoreNExprs (nexpr_of x) (exprs_before items rest)

unfoldable pub with_exprs : List (E.Expr ℕ Ref) → Result NExprs F → Result NExprs F
with_exprs items (Ok rest) = Ok (exprs_before items rest)
with_exprs items (Err f) = Err f

abbrev pub args_before : List (A.Arg ℕ Ref) → NArgs → NArgs
args_before [] rest = rest
args_before (x ∷ items) rest = MoreNArgs (narg_of x) (args_before items rest)

unfoldable pub with_args : List (A.Arg ℕ Ref) → Result NArgs F → Result NArgs F
with_args items (Ok rest) = Ok (args_before items rest)
with_args items (Err f) = Err f

abbrev pub binds_before : List (RustBind.Bind ℕ Ref) → NBinds → NBinds
binds_before [] rest = rest
binds_before (x ∷ items) rest = MoreNBinds (nbind_of x) (binds_before items rest)

unfoldable pub with_binds : List (RustBind.Bind ℕ Ref) → Result NBinds F → Result NBinds F
with_binds items (Ok rest) = Ok (binds_before items rest)
with_binds items (Err f) = Err f

abbrev pub joins_before : List (RustJoin.JoinBind ℕ Ref) → NJoins → NJoins
joins_before [] rest = rest
joins_before (x ∷ items) rest = MoreNJoins (njoin_of x) (joins_before items rest)

unfoldable pub with_joins : List (RustJoin.JoinBind ℕ Ref) → Result NJoins F → Result NJoins F
with_joins items (Ok rest) = Ok (joins_before items rest)
with_joins items (Err f) = Err f

abbrev pub alts_before : List (RustAlt.Alt ℕ Ref) → NAlts → NAlts
alts_before [] rest = rest
alts_before (x ∷ items) rest = MoreNAlts (nalt_of x) (alts_before items rest)

unfoldable pub with_alts : List (RustAlt.Alt ℕ Ref) → Result NAlts F → Result NAlts F
with_alts items (Ok rest) = Ok (alts_before items rest)
with_alts items (Err f) = Err f
