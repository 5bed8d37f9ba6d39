-- A tree has one piece at least, and so a list of trees has no more items than pieces.
use Rattle.std.proofs.Common.{◌≤◌, List, [], ◌∷◌, length, arith}
use Rattle.fc_syntax.specs.GenericTree.{Ty, TVar, TCon, TInt, TApp, TFun, TForall, TCoForall}
use Rattle.fc_syntax.specs.GenericTree.{Co, GVar, GRefl, GSym, GTrans, GTc, GCapp, GFun, GAll, GCoAll, GInst, GNth, GLeft, GRight, GSub, GAx, GUniv}
use Rattle.fc_syntax.specs.GenericTree.{Arg, ATerm, AType, ACo, Expr, EVar, ELit, EApp, ELam, ELet, ECase, ECast, ECon, EPrim, EFail, EJoin, EJump}
use Rattle.fc_syntax.specs.Measures.{arg_size, binders_size, binds_size, co_size, expr_size, joins_size, ty_size}
use Rattle.fc_model.specs.Nameless.{NBinder, NBValue, NBType, NBCo, NBinds, NoNBinds, MoreNBinds, NBound, NJoins, NoNJoins, MoreNJoins, NJoined}
use Rattle.fc_model.specs.Replacing.{bind_count, join_count}
use Rattle.fc_result_limits.proofs.Blank.{blank_binders, blank_binds, blank_joins}

-- ONE AT LEAST

type_has_one : {L B : Type 0} (t : Ty L B) → 1 ≤ ty_size t
type_has_one (TVar a) = omega arith
type_has_one (TCon n) = omega arith
type_has_one TInt = omega arith
type_has_one (TApp t u) = omega arith
type_has_one (TFun t u) = omega arith
type_has_one (TForall a k t) = omega arith
type_has_one (TCoForall r t u v) = omega arith

coercion_has_one : {L B : Type 0} (g : Co L B) → 1 ≤ co_size g
coercion_has_one (GVar c) = omega arith
coercion_has_one (GRefl r t) = omega arith
coercion_has_one (GSym g) = omega arith
coercion_has_one (GTrans g h) = omega arith
coercion_has_one (GTc r n gs) = omega arith
coercion_has_one (GCapp g h) = omega arith
coercion_has_one (GFun g h) = omega arith
coercion_has_one (GAll a k g) = omega arith
coercion_has_one (GCoAll r s f g h) = omega arith
coercion_has_one (GInst g h) = omega arith
coercion_has_one (GNth n g) = omega arith
coercion_has_one (GLeft g) = omega arith
coercion_has_one (GRight g) = omega arith
coercion_has_one (GSub g) = omega arith
coercion_has_one (GAx n gs) = omega arith
coercion_has_one (GUniv t u) = omega arith

pub expression_has_one : {L V B : Type 0} (e : Expr L V B) → 1 ≤ expr_size e
expression_has_one (EVar n) = omega arith
expression_has_one (ELit n) = omega arith
expression_has_one (EApp f a) = omega arith
expression_has_one (ELam b e) = omega arith
expression_has_one (ELet r bs e) = omega arith
expression_has_one (ECase e x t u alts) = omega arith
expression_has_one (ECast e g) = omega arith
expression_has_one (ECon n args) = omega arith
expression_has_one (EPrim op es) = omega arith
expression_has_one (EFail t) = omega arith
expression_has_one (EJoin r t js e) = omega arith
expression_has_one (EJump j args) = omega arith

pub argument_has_one : {L V B : Type 0} (a : Arg L V B) → 1 ≤ arg_size a
argument_has_one (ATerm e) = expression_has_one e
argument_has_one (AType t) = type_has_one t
argument_has_one (ACo g) = coercion_has_one g

-- NO MORE ITEMS THAN PIECES

pub binders_within : (bs : List NBinder) → length bs ≤ binders_size (blank_binders bs)
binders_within [] = omega arith
binders_within (NBValue t ∷ bs) = omega (arith, binders_within bs)
binders_within (NBType k ∷ bs) = omega (arith, binders_within bs)
binders_within (NBCo r t u ∷ bs) = omega (arith, binders_within bs)

pub binds_within : (bs : NBinds) → bind_count bs ≤ binds_size (blank_binds bs)
binds_within NoNBinds = omega arith
binds_within (MoreNBinds (NBound t e) rest) = omega (arith, binds_within rest)

pub joins_within : (js : NJoins) → join_count js ≤ joins_size (blank_joins js)
joins_within NoNJoins = omega arith
joins_within (MoreNJoins (NJoined ps e) rest) = omega (arith, joins_within rest)
