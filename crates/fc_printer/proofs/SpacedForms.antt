-- What stands in front of other pieces, behind one space: coercions, binders, parameters and what is in expressions.
use Rattle.std.specs.Prelude.{if◌then◌else◌}
use Rattle.std.proofs.Common.{arith, ◌≡◌, Bool, codes, true, false, ◌∷◌, ◌++◌, refl, sym, ap, ◌∙◌, append_assoc}
use Rattle.std.proofs.lemmas.List.{append-nil}
use Rattle.fc_syntax.specs.Tree as tree
use Rattle.fc_syntax.specs.declared.expr.Head.TheVariants as head
use Rattle.fc_syntax.specs.Tree.{Co, GVar, Binder, BValue, Ty, Arg, ATerm, Bind, Bound, JoinBind, Joined, Alt, Branch, Expr, EVar, EApp, ELet}
use Rattle.fc_syntax.specs.Tree.{Binds, NoBinds, MoreBinds, Joins, NoJoins, MoreJoins, Param, ParamOf, Plain, PlainOf, ConDecl, ConOf}
use Rattle.fc_syntax.proofs.View.{view_rules}
use Rattle.fc_model.specs.Pieces.{Pieces, NoPieces, first_text, pieces_text, spaced_text}
use Rattle.fc_model.specs.Spelling.{Alone, AsHead, alt_pieces, arg_pieces, bind_pieces, binder_pieces, binds_pieces, co_pieces, con_pieces, expr_pieces, join_pieces, joins_pieces, param_pieces, plain_pieces, type_pieces}
use Rattle.fc_printer.proofs.Spaced.{ended, next_type, spaced, twice}

pub alone_co : (g : Co) → spaced_text (co_pieces g NoPieces) ≡ 32 ∷ first_text (co_pieces g NoPieces)
alone_co (GVar c) = ended c
alone_co g = ended (first_text (co_pieces g NoPieces))

pub next_co : (g : Co) (more : Pieces) → spaced_text (co_pieces g more) ≡ spaced_text (co_pieces g NoPieces) ++ spaced_text more
next_co (GVar c) more = spaced c more
next_co g more = spaced (first_text (co_pieces g NoPieces)) more

-- binders and parameters
pub alone_binder : (b : Binder) → spaced_text (binder_pieces b NoPieces) ≡ 32 ∷ first_text (binder_pieces b NoPieces)
alone_binder (BValue x t) = ended (first_text (binder_pieces (BValue x t) NoPieces))
alone_binder b = ended (first_text (binder_pieces b NoPieces))

pub next_binder : (b : Binder) (more : Pieces) → spaced_text (binder_pieces b more) ≡ spaced_text (binder_pieces b NoPieces) ++ spaced_text more
next_binder (BValue x t) more = spaced (first_text (binder_pieces (BValue x t) NoPieces)) more
next_binder b more = spaced (first_text (binder_pieces b NoPieces)) more

pub first_binder : (b : Binder) (more : Pieces) → pieces_text (binder_pieces b more) ≡ first_text (binder_pieces b NoPieces) ++ spaced_text more
first_binder (BValue x t) more = refl
first_binder b more = refl

pub next_param : (p : Param) (more : Pieces) → spaced_text (param_pieces p more) ≡ 32 ∷ (first_text (param_pieces p NoPieces) ++ spaced_text more)
next_param (ParamOf a k r) more = refl

pub next_plain : (p : Plain) (more : Pieces) → spaced_text (plain_pieces p more) ≡ 32 ∷ (first_text (plain_pieces p NoPieces) ++ spaced_text more)
next_plain (PlainOf a k) more = refl

pub next_con : (c : ConDecl) (more : Pieces) → spaced_text (con_pieces c more) ≡ 32 ∷ (first_text (con_pieces c NoPieces) ++ spaced_text more)
next_con (ConOf n bs fields) more = refl

-- expressions and what is in them
pub alone_expr : (e : Expr) → spaced_text (expr_pieces Alone e NoPieces) ≡ 32 ∷ first_text (expr_pieces Alone e NoPieces)
alone_expr (EVar n) = ended (first_text (expr_pieces Alone (EVar n) NoPieces))
alone_expr (ELet false bs e) = ended (first_text (expr_pieces Alone (ELet false bs e) NoPieces))
alone_expr (ELet true bs e) = ended (first_text (expr_pieces Alone (ELet true bs e) NoPieces))
alone_expr (tree.EJoin false t js e) = ended (first_text (expr_pieces Alone (tree.EJoin false t js e) NoPieces))
alone_expr (tree.EJoin true t js e) = ended (first_text (expr_pieces Alone (tree.EJoin true t js e) NoPieces))
alone_expr e = ended (first_text (expr_pieces Alone e NoPieces))

pub next_expr : (e : Expr) (more : Pieces) → spaced_text (expr_pieces Alone e more) ≡ spaced_text (expr_pieces Alone e NoPieces) ++ spaced_text more
next_expr (EVar n) more = spaced (first_text (expr_pieces Alone (EVar n) NoPieces)) more
next_expr (ELet false bs e) more = spaced (first_text (expr_pieces Alone (ELet false bs e) NoPieces)) more
next_expr (ELet true bs e) more = spaced (first_text (expr_pieces Alone (ELet true bs e) NoPieces)) more
next_expr (tree.EJoin false t js e) more = spaced (first_text (expr_pieces Alone (tree.EJoin false t js e) NoPieces)) more
next_expr (tree.EJoin true t js e) more = spaced (first_text (expr_pieces Alone (tree.EJoin true t js e) NoPieces)) more
next_expr e more = spaced (first_text (expr_pieces Alone e NoPieces)) more

pub next_arg : (a : Arg) (more : Pieces) → spaced_text (arg_pieces a more) ≡ spaced_text (arg_pieces a NoPieces) ++ spaced_text more
next_arg (ATerm e) more = next_expr e more
next_arg a more = spaced (first_text (arg_pieces a NoPieces)) more

-- the head of an application stands in front of its arguments
pub headed_expr : (e : Expr) (more : Pieces) → spaced_text (expr_pieces AsHead e more) ≡ spaced_text (expr_pieces AsHead e NoPieces) ++ spaced_text more
headed_expr (EApp f a) more =
    let front = spaced_text (expr_pieces AsHead f NoPieces) in
    headed_expr f (arg_pieces a more) ∙ twice front (arg_pieces a more) more (spaced_text (arg_pieces a NoPieces)) (next_arg a more) _ (sym (headed_expr f (arg_pieces a NoPieces)))
headed_expr (ELet false bs e) more = next_expr (ELet false bs e) more
headed_expr (ELet true bs e) more = next_expr (ELet true bs e) more
headed_expr (tree.EJoin false t js e) more = next_expr (tree.EJoin false t js e) more
headed_expr (tree.EJoin true t js e) more = next_expr (tree.EJoin true t js e) more
headed_expr e more = next_expr e more

pub next_bind : (b : Bind) (more : Pieces) → spaced_text (bind_pieces b more) ≡ spaced_text (bind_pieces b NoPieces) ++ spaced_text more
next_bind (Bound x t e) more = spaced (first_text (bind_pieces (Bound x t e) NoPieces)) more

pub spaced_bind : (b : Bind) (more : Pieces) → spaced_text (bind_pieces b more) ≡ 32 ∷ (first_text (bind_pieces b NoPieces) ++ spaced_text more)
spaced_bind (Bound x t e) more = refl

pub first_bind : (b : Bind) (more : Pieces) → pieces_text (bind_pieces b more) ≡ first_text (bind_pieces b NoPieces) ++ spaced_text more
first_bind (Bound x t e) more = refl

pub next_binds : (bs : Binds) (more : Pieces) → spaced_text (binds_pieces bs more) ≡ spaced_text (binds_pieces bs NoPieces) ++ spaced_text more
next_binds NoBinds more = refl
next_binds (MoreBinds b bs) more =
    let front = spaced_text (bind_pieces b NoPieces) in
    next_bind b (binds_pieces bs more) ∙ twice front (binds_pieces bs more) more (spaced_text (binds_pieces bs NoPieces)) (next_binds bs more) _ (sym (next_bind b (binds_pieces bs NoPieces)))

pub next_join : (j : JoinBind) (more : Pieces) → spaced_text (join_pieces j more) ≡ spaced_text (join_pieces j NoPieces) ++ spaced_text more
next_join (Joined j params e) more = spaced (first_text (join_pieces (Joined j params e) NoPieces)) more

pub spaced_join : (j : JoinBind) (more : Pieces) → spaced_text (join_pieces j more) ≡ 32 ∷ (first_text (join_pieces j NoPieces) ++ spaced_text more)
spaced_join (Joined j params e) more = refl

pub first_join : (j : JoinBind) (more : Pieces) → pieces_text (join_pieces j more) ≡ first_text (join_pieces j NoPieces) ++ spaced_text more
first_join (Joined j params e) more = refl

pub next_joins : (js : Joins) (more : Pieces) → spaced_text (joins_pieces js more) ≡ spaced_text (joins_pieces js NoPieces) ++ spaced_text more
next_joins NoJoins more = refl
next_joins (MoreJoins j js) more =
    let front = spaced_text (join_pieces j NoPieces) in
    next_join j (joins_pieces js more) ∙ twice front (joins_pieces js more) more (spaced_text (joins_pieces js NoPieces)) (next_joins js more) _ (sym (next_join j (joins_pieces js NoPieces)))

pub next_alt : (a : Alt) (more : Pieces) → spaced_text (alt_pieces a more) ≡ 32 ∷ (first_text (alt_pieces a NoPieces) ++ spaced_text more)
next_alt (Branch head.Default bs e) more = refl
next_alt (Branch (head.Lit n) bs e) more = refl
next_alt (Branch (head.Con n) bs e) more = refl

-- a group of bindings or of join points, by whether it is recursive
pub let_text : (r : Bool) (bs : Binds) (e : Expr) → first_text (expr_pieces Alone (ELet r bs e) NoPieces)
    ≡ (if r then codes "(letrec (" ++ (pieces_text (binds_pieces bs NoPieces) ++ codes ")") else codes "(let" ++ spaced_text (binds_pieces bs NoPieces)) ++ (spaced_text (expr_pieces Alone e NoPieces) ++ codes ")")
let_text false bs e = ap (λ x. codes "(let" ++ (x ++ codes ")")) (next_binds bs (expr_pieces Alone e NoPieces)) ∙ ap (λ x. codes "(let" ++ x) (append_assoc (spaced_text (binds_pieces bs NoPieces)) (spaced_text (expr_pieces Alone e NoPieces)) (codes ")"))
let_text true bs e = grind (arith, append_assoc)

pub join_text : (r : Bool) (t : Ty) (js : Joins) (e : Expr) → first_text (expr_pieces Alone (tree.EJoin r t js e) NoPieces)
    ≡ (if r then codes "(joinrec" ++ (spaced_text (type_pieces Alone t NoPieces) ++ (codes " (" ++ (pieces_text (joins_pieces js NoPieces) ++ codes ")")))
    else codes "(join" ++ (spaced_text (type_pieces Alone t NoPieces) ++ spaced_text (joins_pieces js NoPieces)))
    ++ (spaced_text (expr_pieces Alone e NoPieces) ++ codes ")")
join_text false t js e = grind (arith, append_assoc, next_type, next_joins)
join_text true t js e = grind (arith, append_assoc, next_type)

pub ruleset next_co_rules = (append_assoc, alone_co)

pub ruleset next_binder_rules = (append_assoc, alone_binder)

pub ruleset next_expr_rules = (append_assoc, alone_expr)

pub ruleset first_bind_rules = (first_bind, spaced_bind)

pub ruleset first_join_rules = (first_join, spaced_join)

pub ruleset co_rules = (view_rules, append_assoc, append-nil, next_co)

pub ruleset body_rules = (view_rules, append_assoc, append-nil, next_binder)

pub ruleset expr_rules = (view_rules, append_assoc, append-nil, next_type, next_expr, next_arg, headed_expr, first_binder, let_text, join_text)
