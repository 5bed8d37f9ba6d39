-- What one thing more stands around counts no less.
use Rattle.std.proofs.Common.{◌≤◌, arith}
use Rattle.fc_model.specs.Nameless.{NATerm, NAType, NACo, NBound, NJoined, NBranch}
use Rattle.fc_model.specs.Nameless.{NExpr, NLocal, NVar, NLit, NApp, NLam, NLet, NCase, NCast, NCon, NPrim, NFail, NJoin, NJump}
use Rattle.fc_model.specs.Nameless.{NArgs, NoNArgs, MoreNArgs, NExprs, NoNExprs, MoreNExprs, NBinds, NoNBinds, MoreNBinds, NJoins, NoNJoins, MoreNJoins, NAlts, NoNAlts, MoreNAlts}
use Rattle.fc_row_ends.proofs.Numbers.{Number, Nodes, Forms, Fields, Lets, Around, Casts, Level, further, around, count, in_alts, in_args, in_binds, in_exprs, in_fields, in_joins}

around_rises : (n : Number) (l : Level n) → around n l ≤ around n (further n l)
around_rises Nodes l = omega arith
around_rises Forms l = omega arith
around_rises Fields l = omega arith
around_rises Lets l = omega arith
around_rises Around l = omega arith
around_rises Casts l = omega arith

module _ (n : Number) where
  mutual
    pub count_rises : (l : Level n) (e : NExpr) → count n l e ≤ count n (further n l) e
    count_rises l (NLocal i) = omega arith
    count_rises l (NVar x) = omega arith
    count_rises l (NLit z) = omega arith
    count_rises l (NApp f (NATerm a)) = omega (arith, count_rises (further n l) f, count_rises (further n l) a)
    count_rises l (NApp f (NAType t)) = omega (arith, count_rises (further n l) f)
    count_rises l (NApp f (NACo g)) = omega (arith, count_rises (further n l) f)
    count_rises l (NLam b e) = omega (arith, count_rises l e)
    count_rises l (NLet r bs e) = omega (arith, around_rises n l, binds_rise (further n l) bs, count_rises l e)
    count_rises l (NCase e t u alts) = omega (arith, count_rises (further n l) e, alts_rise (further n l) alts)
    count_rises l (NCast e g) = omega (arith, count_rises (further n l) e)
    count_rises l (NCon k args) = omega (arith, fields_rise l args)
    count_rises l (NPrim op es) = omega (arith, exprs_rise l es)
    count_rises l (NFail t) = omega arith
    count_rises l (NJoin r t js e) = omega (arith, joins_rise l js, count_rises l e)
    count_rises l (NJump j args) = omega (arith, args_rise l args)

    exprs_rise : (l : Level n) (es : NExprs) → in_exprs n l es ≤ in_exprs n (further n l) es
    exprs_rise l NoNExprs = omega arith
    exprs_rise l (MoreNExprs e es) = omega (arith, count_rises l e, exprs_rise l es)

    args_rise : (l : Level n) (args : NArgs) → in_args n l args ≤ in_args n (further n l) args
    args_rise l NoNArgs = omega arith
    args_rise l (MoreNArgs (NATerm e) rest) = omega (arith, count_rises l e, args_rise l rest)
    args_rise l (MoreNArgs (NAType t) rest) = omega (arith, args_rise l rest)
    args_rise l (MoreNArgs (NACo g) rest) = omega (arith, args_rise l rest)

    fields_rise : (l : Level n) (args : NArgs) → in_fields n l args ≤ in_fields n (further n l) args
    fields_rise l NoNArgs = omega arith
    fields_rise l (MoreNArgs (NATerm e) rest) = omega (arith, count_rises l e, fields_rise l rest)
    fields_rise l (MoreNArgs (NAType t) rest) = omega (arith, fields_rise l rest)
    fields_rise l (MoreNArgs (NACo g) rest) = omega (arith, fields_rise l rest)

    pub binds_rise : (l : Level n) (bs : NBinds) → in_binds n l bs ≤ in_binds n (further n l) bs
    binds_rise l NoNBinds = omega arith
    binds_rise l (MoreNBinds (NBound t e) bs) = omega (arith, count_rises l e, binds_rise l bs)

    joins_rise : (l : Level n) (js : NJoins) → in_joins n l js ≤ in_joins n (further n l) js
    joins_rise l NoNJoins = omega arith
    joins_rise l (MoreNJoins (NJoined ps e) js) = omega (arith, count_rises l e, joins_rise l js)

    pub alts_rise : (l : Level n) (alts : NAlts) → in_alts n l alts ≤ in_alts n (further n l) alts
    alts_rise l NoNAlts = omega arith
    alts_rise l (MoreNAlts (NBranch h bs e) rest) = omega (arith, count_rises l e, alts_rise l rest)
