-- Each view by its equation of one level: what a function's proof needs of the trees.
use Rattle.std.proofs.Common.{◌≡◌, refl, sym, ap, ◌∙◌}
use denote.Hole.Carrier as Carrier
use Rattle.fc_syntax.specs.GenericTree.{ATerm, AType, ACo, MoreCos, GTc, GAx, ELet, ECase, ECon, EPrim, EJoin, EJump, Bound, Joined, Branch, MoreExprs, MoreArgs, MoreBinds, MoreJoins, MoreAlts}
use Rattle.fc_syntax.specs.View.{kind_of, kind_layer, ty_of, ty_layer, co_of, co_layer, cos_row, cos_of, binders_of, expr_of, expr_layer, exprs_row, exprs_of, args_row, args_of, binds_row, binds_of, joins_row, joins_of, alts_row, alts_of}
use Rattle.fc_syntax.specs.declared.ty.Kind as K
use Rattle.fc_syntax.specs.declared.ty.Kind.{out-Kind}
use Rattle.fc_syntax.specs.declared.ty.Ty as T
use Rattle.fc_syntax.specs.declared.ty.Ty.{out-Ty}
use Rattle.fc_syntax.specs.declared.co.Co as G
use Rattle.fc_syntax.specs.declared.co.Co.{out-Co, Row_of-Co, end_of-Co, more_of-Co, items-the_row-Co}
use Rattle.fc_syntax.specs.declared.co.Co.TheBlock as cos
use Rattle.fc_syntax.specs.declared.expr.Arg as A
use Rattle.fc_syntax.specs.declared.expr.Arg.TheBlock as block
use Rattle.fc_syntax.specs.declared.expr.Expr as E
use Rattle.fc_syntax.specs.declared.expr.Expr.{out-Expr, Row_of-Expr, end_of-Expr, more_of-Expr, Row_of-Arg, end_of-Arg, more_of-Arg, Row_of-Bind, end_of-Bind, more_of-Bind, Row_of-Alt, end_of-Alt, more_of-Alt, Row_of-JoinBind, end_of-JoinBind, more_of-JoinBind}
use Rattle.fc_syntax.specs.declared.expr.Expr.{items-the_row-Expr, items-the_row-Arg, items-the_row-Bind, items-the_row-Alt, items-the_row-JoinBind}

pub kind_out : (k : K.Kind) → kind_of k ≡ kind_layer (out-Kind k)
unfolding kind_of out-Kind Carrier.out Carrier.shown
kind_out K.Star = refl
kind_out K.Hash = refl
kind_out (K.Arrow' s a s' b) = refl

pub ty_out : {L : Type 0} (t : T.Ty L) → ty_of t ≡ ty_layer (out-Ty L t)
unfolding ty_of out-Ty Carrier.out Carrier.shown
ty_out (T.Var a) = refl
ty_out (T.Con n) = refl
ty_out T.IntHash = refl
ty_out (T.App' s a s' b) = refl
ty_out (T.Fun' s a s' b) = refl
ty_out (T.Forall' x k s b) = refl
ty_out (T.CoForall' r s a s' b s'' c) = refl

cos_items : {L : Type 0} (n : _) (row : Row_of-Co L n) → cos_row row ≡ cos_of (items-the_row-Co L n row)
unfolding cos_row
cos_items n end_of-Co = refl
cos_items n (more_of-Co g rest) = ap (λ gs. MoreCos (co_of g) gs) (cos_items _ rest)

pub co_out : {L : Type 0} (g : G.Co L) → co_of g ≡ co_layer (out-Co L g)
unfolding co_of out-Co Carrier.out Carrier.shown
co_out (G.Var c) = refl
co_out (G.Refl r t) = refl
co_out (G.Sym' s g) = refl
co_out (G.Trans' s g s' h) = refl
co_out (G.Tc' r n s gs) = ap (λ x. GTc r n x) (cos_items _ gs ∙ sym (ap cos_of (cos.items_shown-the_row-Co-0 _ s gs)))
co_out (G.Capp' s g s' h) = refl
co_out (G.FunCo' s g s' h) = refl
co_out (G.AllCo' a k s g) = refl
co_out (G.CoAllCo' r e s f s' g s'' h) = refl
co_out (G.Inst' s g s' h) = refl
co_out (G.Nth' n s g) = refl
co_out (G.Left' s g) = refl
co_out (G.Right' s g) = refl
co_out (G.Sub' s g) = refl
co_out (G.Ax' n s gs) = ap (λ x. GAx n x) (cos_items _ gs ∙ sym (ap cos_of (cos.items_shown-the_row-Co-0 _ s gs)))
co_out (G.Univ t u) = refl

-- a row means what the list of its items means
exprs_items : {L V : Type 0} (n : _) (row : Row_of-Expr L V n) → exprs_row row ≡ exprs_of (items-the_row-Expr L V n row)
unfolding exprs_row
exprs_items n end_of-Expr = refl
exprs_items n (more_of-Expr e rest) = ap (λ es. MoreExprs (expr_of e) es) (exprs_items _ rest)

args_items : {L V : Type 0} (n : _) (row : Row_of-Arg L V n) → args_row row ≡ args_of (items-the_row-Arg L V n row)
unfolding args_row
args_items n end_of-Arg = refl
args_items n (more_of-Arg (A.Term e) rest) = ap (λ xs. MoreArgs (ATerm (expr_of e)) xs) (args_items _ rest)
args_items n (more_of-Arg (A.OfType t) rest) = ap (λ xs. MoreArgs (AType (ty_of t)) xs) (args_items _ rest)
args_items n (more_of-Arg (A.OfCo g) rest) = ap (λ xs. MoreArgs (ACo (co_of g)) xs) (args_items _ rest)

binds_items : {L V : Type 0} (n : _) (row : Row_of-Bind L V n) → binds_row row ≡ binds_of (items-the_row-Bind L V n row)
unfolding binds_row
binds_items n end_of-Bind = refl
binds_items n (more_of-Bind x t e rest) = ap (λ bs. MoreBinds (Bound x (ty_of t) (expr_of e)) bs) (binds_items _ rest)

joins_items : {L V : Type 0} (n : _) (row : Row_of-JoinBind L V n) → joins_row row ≡ joins_of (items-the_row-JoinBind L V n row)
unfolding joins_row
joins_items n end_of-JoinBind = refl
joins_items n (more_of-JoinBind j ps e rest) = ap (λ js. MoreJoins (Joined j (binders_of ps) (expr_of e)) js) (joins_items _ rest)

alts_items : {L V : Type 0} (n : _) (row : Row_of-Alt L V n) → alts_row row ≡ alts_of (items-the_row-Alt L V n row)
unfolding alts_row
alts_items n end_of-Alt = refl
alts_items n (more_of-Alt h bs e rest) = ap (λ xs. MoreAlts (Branch h (binders_of bs) (expr_of e)) xs) (alts_items _ rest)

pub expr_out : {L V : Type 0} (e : E.Expr L V) → expr_of e ≡ expr_layer (out-Expr L V e)
unfolding expr_of out-Expr Carrier.out Carrier.shown
expr_out (E.Var n) = refl
expr_out (E.Lit n) = refl
expr_out (E.App' s f s' (A.Term a)) = refl
expr_out (E.App' s f s' (A.OfType t)) = refl
expr_out (E.App' s f s' (A.OfCo g)) = refl
expr_out (E.Lam' b s e) = refl
expr_out (E.Let' r s bs s' e) = ap (λ x. ELet r x (expr_of e)) (binds_items _ bs ∙ sym (ap binds_of (block.items_shown-the_row-Bind-0 _ _ s bs)))
expr_out (E.Case' s e x t u s' alts) = ap (λ z. ECase (expr_of e) x (ty_of t) (ty_of u) z) (alts_items _ alts ∙ sym (ap alts_of (block.items_shown-the_row-Alt-1 _ _ s' alts)))
expr_out (E.Cast' s e g) = refl
expr_out (E.Con' n s args) = ap (λ x. ECon n x) (args_items _ args ∙ sym (ap args_of (block.items_shown-the_row-Arg-2 _ _ s args)))
expr_out (E.Prim' op s es) = ap (λ x. EPrim op x) (exprs_items _ es ∙ sym (ap exprs_of (block.items_shown-the_row-Expr-3 _ _ s es)))
expr_out (E.Fail t) = refl
expr_out (E.Join' r t s js s' e) = ap (λ x. EJoin r (ty_of t) x (expr_of e)) (joins_items _ js ∙ sym (ap joins_of (block.items_shown-the_row-JoinBind-4 _ _ s js)))
expr_out (E.Jump' j s args) = ap (λ x. EJump j x) (args_items _ args ∙ sym (ap args_of (block.items_shown-the_row-Arg-2 _ _ s args)))

pub ruleset ty_rules = (K.the_lemmas, T.the_lemmas, kind_out, ty_out)

pub ruleset view_rules = (K.the_lemmas, T.the_lemmas, G.the_lemmas, E.the_lemmas, kind_out, ty_out, co_out, expr_out)
