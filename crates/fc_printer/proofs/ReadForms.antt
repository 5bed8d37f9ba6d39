-- Each form of an expression reads back where its parts do.
use Rattle.std.proofs.Common.{◌≡◌, true, false, List, ◌∷◌, refl, ◌∙◌, Option, Some, None}
use Rattle.fc_syntax.specs.declared.ty.Name.{Name}
use Rattle.fc_syntax.specs.declared.expr.Head.TheVariants as head
use Rattle.fc_syntax.specs.declared.expr.PrimOp.{PrimOp}
use Rattle.fc_syntax.specs.declared.expr.PrimOp.TheVariants as op
use Rattle.fc_syntax.specs.Tree.{Word, Ty, Co, Binder, Arg, ATerm, Bind, Bound, JoinBind, Joined, Alt, Branch}
use Rattle.fc_syntax.specs.Tree.{Expr, EVar, ELit, EApp, ELam, ELet, ECase, ECast, ECon, EPrim, EFail, EJoin, EJump}
use Rattle.fc_syntax.specs.Tree.{Exprs, MoreExprs, Args, MoreArgs, Binds, NoBinds, MoreBinds, Joins, NoJoins, MoreJoins, Alts, MoreAlts}
use Rattle.fc_model.specs.Words.{Tok, Close, Lower, LowerOf}
use Rattle.fc_model.specs.Grammar.{Part, Given, Steps, ◌▸◌, Many, Several, AnOpen, AClose, ALower, AnOperator, AType, ACoercion, ABinder, AnArgument, AnExpression, ABind, AJoinBind, AnAlternative}
use Rattle.fc_model.specs.Grammar.{applications, lambdas, args_from, exprs_from, binds_from, joins_from, alts_from}
use Rattle.fc_model.specs.Reading.{read_steps}
use Rattle.fc_model.specs.Pieces.{Pieces, NoPieces, pieces_toks}
use Rattle.fc_model.specs.Spelling.{group, leaf, Alone, AsHead, Binders, Body, type_pieces, co_pieces, binder_pieces, expr_pieces, arg_pieces, args_pieces, exprs_pieces, bind_pieces, binds_pieces, join_pieces, joins_pieces, alt_pieces, alts_pieces, lower_tok, operator_tok}
use Rattle.fc_printer.proofs.ReadKinds.{Begins, ReadsBack, goes_on, several_is, upper_back}
use Rattle.fc_printer.proofs.ReadCoercions.{binder_begins}

lower_begins : (n : Name) (ts : List Tok) → Begins (lower_tok n ∷ ts)
lower_begins n ts = at n.module
  where
    at : (o : Option Word) → Begins ((elim o [ None ↦ Lower n.text | Some m ↦ LowerOf m n.text ]) ∷ ts)
    at None = tt
    at (Some m) = tt

expr_begins : (e : Expr) (ps : Pieces) (rest : List Tok) → Begins (pieces_toks (expr_pieces Alone e ps) rest)
expr_begins (EVar n) ps rest = lower_begins n (pieces_toks ps rest)
expr_begins (ELet false bs e) ps rest = tt
expr_begins (ELet true bs e) ps rest = tt
expr_begins (EJoin false t js e) ps rest = tt
expr_begins (EJoin true t js e) ps rest = tt
expr_begins e ps rest = tt

arg_begins : (a : Arg) (ps : Pieces) (rest : List Tok) → Begins (pieces_toks (arg_pieces a ps) rest)
arg_begins (ATerm e) ps rest = expr_begins e ps rest
arg_begins a ps rest = tt

var_back : (n : Name) → ReadsBack AnExpression (expr_pieces Alone (EVar n)) (EVar n)
var_back n ps rest q f = at n.module
  where
    at : (o : Option Word) → read_steps ((elim o [ None ↦ Lower n.text | Some m ↦ LowerOf m n.text ]) ∷ pieces_toks ps rest) (AnExpression ▸ f)
        ≡ read_steps (pieces_toks ps rest) (f (EVar (record { «module» = o; text = n.text })))
    at None = refl
    at (Some m) = refl

operator_back : (o : PrimOp) (ts : List Tok) (q : Part) (f : PrimOp → Steps (Given q)) → read_steps (operator_tok o ∷ ts) (AnOperator ▸ f) ≡ read_steps ts (f o)
operator_back op.Quot ts q f = refl
operator_back op.Rem ts q f = refl
operator_back o ts q f = refl

-- an expression, its place as the head of an application with an argument, and as the body of a lambda
abbrev pub AloneBack : Expr → Type 0
AloneBack e = ReadsBack AnExpression (expr_pieces Alone e) e

abbrev pub ArgBack : Arg → Type 0
ArgBack a = ReadsBack AnArgument (arg_pieces a) a

abbrev pub HeadBack : Expr → Type 0
HeadBack e = (a : Arg) → ArgBack a → (ps : Pieces) (rest : List Tok) (q : Part) (g : Expr → Steps (Given q))
    → read_steps (pieces_toks (expr_pieces AsHead e (arg_pieces a ps)) rest) (AnExpression ▸ λ h. Several AnArgument ▸ λ args. g (applications h args))
    ≡ read_steps (pieces_toks ps rest) (Many AnArgument ▸ λ args. g (applications (EApp e a) args))

abbrev pub BodyBack : Expr → Type 0
BodyBack e = (rest : List Tok) (q : Part) (g : Expr → Steps (Given q))
    → read_steps (pieces_toks (expr_pieces Binders e NoPieces) (Close ∷ pieces_toks (expr_pieces Body e NoPieces) (Close ∷ rest))) (Many ABinder ▸ λ bs. AnExpression ▸ λ e. AClose ▸ λ _. g (lambdas bs e))
    ≡ read_steps rest (g e)

pub record ExprBack (e : Expr) : Type 0 where
  pub alone : AloneBack e
  pub head : HeadBack e
  pub body : BodyBack e

-- the lists
abbrev pub ArgsBack : Args → Type 0
ArgsBack xs = (rest : List Tok) (q : Part) (f : Args → Steps (Given q)) → read_steps (pieces_toks (args_pieces xs NoPieces) (Close ∷ rest)) (Many AnArgument ▸ λ ys. f (args_from ys)) ≡ read_steps rest (f xs)

abbrev pub ExprsBack : Exprs → Type 0
ExprsBack xs = (rest : List Tok) (q : Part) (f : Exprs → Steps (Given q)) → read_steps (pieces_toks (exprs_pieces xs NoPieces) (Close ∷ rest)) (Many AnExpression ▸ λ ys. f (exprs_from ys)) ≡ read_steps rest (f xs)

abbrev pub BindsBack : Binds → Type 0
BindsBack xs = (rest : List Tok) (q : Part) (f : Binds → Steps (Given q)) → read_steps (pieces_toks (binds_pieces xs NoPieces) (Close ∷ rest)) (Many ABind ▸ λ ys. f (binds_from ys)) ≡ read_steps rest (f xs)

abbrev pub JoinsBack : Joins → Type 0
JoinsBack xs = (rest : List Tok) (q : Part) (f : Joins → Steps (Given q)) → read_steps (pieces_toks (joins_pieces xs NoPieces) (Close ∷ rest)) (Many AJoinBind ▸ λ ys. f (joins_from ys)) ≡ read_steps rest (f xs)

abbrev pub AltsBack : Alts → Type 0
AltsBack xs = (rest : List Tok) (q : Part) (f : Alts → Steps (Given q)) → read_steps (pieces_toks (alts_pieces xs NoPieces) (Close ∷ rest)) (Many AnAlternative ▸ λ ys. f (alts_from ys)) ≡ read_steps rest (f xs)

pub more_args : (a : Arg) (xs : Args) → ArgBack a → ArgsBack xs → ArgsBack (MoreArgs a xs)
more_args a xs b c rest q f =
    goes_on (pieces_toks (args_pieces (MoreArgs a xs) NoPieces) (Close ∷ rest)) (arg_begins a (args_pieces xs NoPieces) (Close ∷ rest)) AnArgument q (λ ys. f (args_from ys))
    ∙ b (args_pieces xs NoPieces) (Close ∷ rest) q (λ x. Many AnArgument ▸ λ ys. f (MoreArgs x (args_from ys))) ∙ c rest q (λ ys. f (MoreArgs a ys))

pub more_exprs : (e : Expr) (xs : Exprs) → AloneBack e → ExprsBack xs → ExprsBack (MoreExprs e xs)
more_exprs e xs b c rest q f =
    goes_on (pieces_toks (exprs_pieces (MoreExprs e xs) NoPieces) (Close ∷ rest)) (expr_begins e (exprs_pieces xs NoPieces) (Close ∷ rest)) AnExpression q (λ ys. f (exprs_from ys))
    ∙ b (exprs_pieces xs NoPieces) (Close ∷ rest) q (λ x. Many AnExpression ▸ λ ys. f (MoreExprs x (exprs_from ys))) ∙ c rest q (λ ys. f (MoreExprs e ys))

bind_begins : (b : Bind) (ps : Pieces) (rest : List Tok) → Begins (pieces_toks (bind_pieces b ps) rest)
bind_begins (Bound x t e) ps rest = tt

pub more_binds : (b : Bind) (xs : Binds) → ReadsBack ABind (bind_pieces b) b → BindsBack xs → BindsBack (MoreBinds b xs)
more_binds a xs b c rest q f =
    goes_on (pieces_toks (binds_pieces (MoreBinds a xs) NoPieces) (Close ∷ rest)) (bind_begins a (binds_pieces xs NoPieces) (Close ∷ rest)) ABind q (λ ys. f (binds_from ys))
    ∙ b (binds_pieces xs NoPieces) (Close ∷ rest) q (λ x. Many ABind ▸ λ ys. f (MoreBinds x (binds_from ys))) ∙ c rest q (λ ys. f (MoreBinds a ys))

join_begins : (j : JoinBind) (ps : Pieces) (rest : List Tok) → Begins (pieces_toks (join_pieces j ps) rest)
join_begins (Joined j params e) ps rest = tt

pub more_joins : (j : JoinBind) (xs : Joins) → ReadsBack AJoinBind (join_pieces j) j → JoinsBack xs → JoinsBack (MoreJoins j xs)
more_joins a xs b c rest q f =
    goes_on (pieces_toks (joins_pieces (MoreJoins a xs) NoPieces) (Close ∷ rest)) (join_begins a (joins_pieces xs NoPieces) (Close ∷ rest)) AJoinBind q (λ ys. f (joins_from ys))
    ∙ b (joins_pieces xs NoPieces) (Close ∷ rest) q (λ x. Many AJoinBind ▸ λ ys. f (MoreJoins x (joins_from ys))) ∙ c rest q (λ ys. f (MoreJoins a ys))

alt_begins : (a : Alt) (ps : Pieces) (rest : List Tok) → Begins (pieces_toks (alt_pieces a ps) rest)
alt_begins (Branch head.Default bs e) ps rest = tt
alt_begins (Branch (head.Lit n) bs e) ps rest = tt
alt_begins (Branch (head.Con n) bs e) ps rest = tt

pub more_alts : (a : Alt) (xs : Alts) → ReadsBack AnAlternative (alt_pieces a) a → AltsBack xs → AltsBack (MoreAlts a xs)
more_alts a xs b c rest q f =
    goes_on (pieces_toks (alts_pieces (MoreAlts a xs) NoPieces) (Close ∷ rest)) (alt_begins a (alts_pieces xs NoPieces) (Close ∷ rest)) AnAlternative q (λ ys. f (alts_from ys))
    ∙ b (alts_pieces xs NoPieces) (Close ∷ rest) q (λ x. Many AnAlternative ▸ λ ys. f (MoreAlts x (alts_from ys))) ∙ c rest q (λ ys. f (MoreAlts a ys))

-- an expression that is not flattened
head_alone : (e : Expr) → AloneBack e → (a : Arg) → ArgBack a → (ps : Pieces) (rest : List Tok) (q : Part) (g : Expr → Steps (Given q))
    → read_steps (pieces_toks (expr_pieces Alone e (arg_pieces a ps)) rest) (AnExpression ▸ λ h. Several AnArgument ▸ λ args. g (applications h args))
    ≡ read_steps (pieces_toks ps rest) (Many AnArgument ▸ λ args. g (applications (EApp e a) args))
head_alone e b a c ps rest q g =
    b (arg_pieces a ps) rest q (λ h. Several AnArgument ▸ λ args. g (applications h args))
    ∙ several_is AnArgument q (pieces_toks (arg_pieces a ps) rest) (λ args. g (applications e args)) ∙ c ps rest q (λ x. Many AnArgument ▸ λ args. g (applications e (x ∷ args)))

body_alone : (e : Expr) → AloneBack e → (rest : List Tok) (q : Part) (g : Expr → Steps (Given q))
    → read_steps (Close ∷ pieces_toks (expr_pieces Alone e NoPieces) (Close ∷ rest)) (Many ABinder ▸ λ bs. AnExpression ▸ λ e. AClose ▸ λ _. g (lambdas bs e)) ≡ read_steps rest (g e)
body_alone e b rest q g = b NoPieces (Close ∷ rest) q (λ e. AClose ▸ λ _. g e)

-- applications and lambdas
app_head : (e : Expr) (a : Arg) → HeadBack e → ArgBack a → HeadBack (EApp e a)
app_head e a b c d k ps rest q g =
    b a c (arg_pieces d ps) rest q g
    ∙ goes_on (pieces_toks (arg_pieces d ps) rest) (arg_begins d ps rest) AnArgument q (λ args. g (applications (EApp e a) args))
    ∙ k ps rest q (λ x. Many AnArgument ▸ λ args. g (applications (EApp e a) (x ∷ args)))

pub app_back : (e : Expr) (a : Arg) → HeadBack e → ArgBack a → ExprBack (EApp e a)
app_back e a b c =
    let alone : AloneBack (EApp e a) = λ ps rest q f. b a c NoPieces (Close ∷ pieces_toks ps rest) q f in
    record { alone = alone; head = app_head e a b c; body = body_alone (EApp e a) alone }

lam_body : (b : Binder) (e : Expr) → ReadsBack ABinder (binder_pieces b) b → BodyBack e → BodyBack (ELam b e)
lam_body b e c d rest q g =
    let more = Close ∷ pieces_toks (expr_pieces Body e NoPieces) (Close ∷ rest) in
    goes_on (pieces_toks (binder_pieces b (expr_pieces Binders e NoPieces)) more) (binder_begins b (expr_pieces Binders e NoPieces) more) ABinder q (λ bs. AnExpression ▸ λ e. AClose ▸ λ _. g (lambdas bs e))
    ∙ c (expr_pieces Binders e NoPieces) more q (λ x. Many ABinder ▸ λ bs. AnExpression ▸ λ e. AClose ▸ λ _. g (ELam x (lambdas bs e))) ∙ d rest q (λ e. g (ELam b e))

pub lam_back : (b : Binder) (e : Expr) → ReadsBack ABinder (binder_pieces b) b → BodyBack e → ExprBack (ELam b e)
lam_back b e c d =
    let alone : AloneBack (ELam b e) = λ ps rest q f.
    let behind = Close ∷ pieces_toks (expr_pieces Body e NoPieces) (Close ∷ pieces_toks ps rest) in
    several_is ABinder q (pieces_toks (binder_pieces b (expr_pieces Binders e NoPieces)) behind) (λ bs. AnExpression ▸ λ e. AClose ▸ λ _. f (lambdas bs e))
    ∙ c (expr_pieces Binders e NoPieces) behind q (λ x. Many ABinder ▸ λ bs. AnExpression ▸ λ e. AClose ▸ λ _. f (ELam x (lambdas bs e)))
    ∙ d (pieces_toks ps rest) q (λ e. f (ELam b e)) in
    record { alone = alone; head = head_alone (ELam b e) alone; body = lam_body b e c d }

-- the other forms
pub leaf_back : (n : Name) → ExprBack (EVar n)
leaf_back n = let b = var_back n in record { alone = b; head = head_alone (EVar n) b; body = body_alone (EVar n) b }

pub literal_back : (n : _) → ExprBack (ELit n)
literal_back n = let b : AloneBack (ELit n) = λ ps rest q f. refl in record { alone = b; head = head_alone (ELit n) b; body = body_alone (ELit n) b }

pub let_back : (b : Bind) (e : Expr) → ReadsBack ABind (bind_pieces b) b → AloneBack e → ExprBack (ELet false (MoreBinds b NoBinds) e)
let_back b e c d =
    let x = ELet false (MoreBinds b NoBinds) e in
    let alone : AloneBack (ELet false (MoreBinds b NoBinds) e) = λ ps rest q f.
    let more = Close ∷ pieces_toks ps rest in
    c (expr_pieces Alone e NoPieces) more q (λ b. AnExpression ▸ λ e. AClose ▸ λ _. f (ELet false (MoreBinds b NoBinds) e)) ∙ d NoPieces more q (λ e. AClose ▸ λ _. f (ELet false (MoreBinds b NoBinds) e)) in
    record { alone = alone; head = head_alone x alone; body = body_alone x alone }

pub letrec_back : (b : Bind) (bs : Binds) (e : Expr) → ReadsBack ABind (bind_pieces b) b → BindsBack bs → AloneBack e → ExprBack (ELet true (MoreBinds b bs) e)
letrec_back b bs e c k d =
    let x = ELet true (MoreBinds b bs) e in
    let alone : AloneBack (ELet true (MoreBinds b bs) e) = λ ps rest q f.
    let more = Close ∷ pieces_toks ps rest in
    let behind = Close ∷ pieces_toks (expr_pieces Alone e NoPieces) more in
    several_is ABind q (pieces_toks (binds_pieces (MoreBinds b bs) NoPieces) behind) (λ bs. AnExpression ▸ λ e. AClose ▸ λ _. f (ELet true (binds_from bs) e))
    ∙ c (binds_pieces bs NoPieces) behind q (λ x. Many ABind ▸ λ bs. AnExpression ▸ λ e. AClose ▸ λ _. f (ELet true (MoreBinds x (binds_from bs)) e))
    ∙ k (pieces_toks (expr_pieces Alone e NoPieces) more) q (λ bs. AnExpression ▸ λ e. AClose ▸ λ _. f (ELet true (MoreBinds b bs) e)) ∙ d NoPieces more q (λ e. AClose ▸ λ _. f (ELet true (MoreBinds b bs) e)) in
    record { alone = alone; head = head_alone x alone; body = body_alone x alone }

pub case_back : (e : Expr) (x : Word) (t u : Ty) (alts : Alts) → AloneBack e → ReadsBack AType (type_pieces Alone t) t → ReadsBack AType (type_pieces Alone u) u → AltsBack alts → ExprBack (ECase e x t u alts)
case_back e x t u alts b c d k =
    let y = ECase e x t u alts in
    let alone : AloneBack (ECase e x t u alts) = λ ps rest q f.
    let more = pieces_toks ps rest in
    let behind = pieces_toks (type_pieces Alone u (alts_pieces alts NoPieces)) (Close ∷ more) in
    b (group (leaf (Lower x) (type_pieces Alone t NoPieces)) (type_pieces Alone u (alts_pieces alts NoPieces))) (Close ∷ more) q (λ e. AnOpen ▸ λ _. ALower ▸ λ x. AType ▸ λ t. AClose ▸ λ _. AType ▸ λ u. Many AnAlternative ▸ λ alts. f (ECase e x t u (alts_from alts)))
    ∙ c NoPieces (Close ∷ behind) q (λ t. AClose ▸ λ _. AType ▸ λ u. Many AnAlternative ▸ λ alts. f (ECase e x t u (alts_from alts)))
    ∙ d (alts_pieces alts NoPieces) (Close ∷ more) q (λ u. Many AnAlternative ▸ λ alts. f (ECase e x t u (alts_from alts))) ∙ k more q (λ alts. f (ECase e x t u alts)) in
    record { alone = alone; head = head_alone y alone; body = body_alone y alone }

pub cast_back : (e : Expr) (g : Co) → AloneBack e → ReadsBack ACoercion (co_pieces g) g → ExprBack (ECast e g)
cast_back e g b c =
    let alone : AloneBack (ECast e g) = λ ps rest q f.
    let more = Close ∷ pieces_toks ps rest in
    b (co_pieces g NoPieces) more q (λ e. ACoercion ▸ λ g. AClose ▸ λ _. f (ECast e g)) ∙ c NoPieces more q (λ g. AClose ▸ λ _. f (ECast e g)) in
    record { alone = alone; head = head_alone (ECast e g) alone; body = body_alone (ECast e g) alone }

pub con_back : (n : Name) (args : Args) → ArgsBack args → ExprBack (ECon n args)
con_back n args b =
    let alone : AloneBack (ECon n args) = λ ps rest q f.
    upper_back n (pieces_toks (args_pieces args NoPieces) (Close ∷ pieces_toks ps rest)) q (λ n. Many AnArgument ▸ λ args. f (ECon n (args_from args))) ∙ b (pieces_toks ps rest) q (λ args. f (ECon n args)) in
    record { alone = alone; head = head_alone (ECon n args) alone; body = body_alone (ECon n args) alone }

pub prim_back : (o : PrimOp) (es : Exprs) → ExprsBack es → ExprBack (EPrim o es)
prim_back o es b =
    let alone : AloneBack (EPrim o es) = λ ps rest q f.
    operator_back o (pieces_toks (exprs_pieces es NoPieces) (Close ∷ pieces_toks ps rest)) q (λ o. Many AnExpression ▸ λ es. f (EPrim o (exprs_from es))) ∙ b (pieces_toks ps rest) q (λ es. f (EPrim o es)) in
    record { alone = alone; head = head_alone (EPrim o es) alone; body = body_alone (EPrim o es) alone }

pub fail_back : (t : Ty) → ReadsBack AType (type_pieces Alone t) t → ExprBack (EFail t)
fail_back t b =
    let alone : AloneBack (EFail t) = λ ps rest q f. b NoPieces (Close ∷ pieces_toks ps rest) q (λ t. AClose ▸ λ _. f (EFail t)) in
    record { alone = alone; head = head_alone (EFail t) alone; body = body_alone (EFail t) alone }

pub join_back : (t : Ty) (j : JoinBind) (e : Expr) → ReadsBack AType (type_pieces Alone t) t → ReadsBack AJoinBind (join_pieces j) j → AloneBack e → ExprBack (EJoin false t (MoreJoins j NoJoins) e)
join_back t j e b c d =
    let x = EJoin false t (MoreJoins j NoJoins) e in
    let alone : AloneBack (EJoin false t (MoreJoins j NoJoins) e) = λ ps rest q f.
    let more = Close ∷ pieces_toks ps rest in
    b (join_pieces j (expr_pieces Alone e NoPieces)) more q (λ t. AJoinBind ▸ λ j. AnExpression ▸ λ e. AClose ▸ λ _. f (EJoin false t (MoreJoins j NoJoins) e))
    ∙ c (expr_pieces Alone e NoPieces) more q (λ j. AnExpression ▸ λ e. AClose ▸ λ _. f (EJoin false t (MoreJoins j NoJoins) e)) ∙ d NoPieces more q (λ e. AClose ▸ λ _. f (EJoin false t (MoreJoins j NoJoins) e)) in
    record { alone = alone; head = head_alone x alone; body = body_alone x alone }

pub joinrec_back : (t : Ty) (j : JoinBind) (js : Joins) (e : Expr) → ReadsBack AType (type_pieces Alone t) t → ReadsBack AJoinBind (join_pieces j) j → JoinsBack js → AloneBack e → ExprBack (EJoin true t (MoreJoins j js) e)
joinrec_back t j js e b c k d =
    let x = EJoin true t (MoreJoins j js) e in
    let alone : AloneBack (EJoin true t (MoreJoins j js) e) = λ ps rest q f.
    let more = Close ∷ pieces_toks ps rest in
    let behind = Close ∷ pieces_toks (expr_pieces Alone e NoPieces) more in
    b (group (joins_pieces (MoreJoins j js) NoPieces) (expr_pieces Alone e NoPieces)) more q (λ t. AnOpen ▸ λ _. Several AJoinBind ▸ λ js. AnExpression ▸ λ e. AClose ▸ λ _. f (EJoin true t (joins_from js) e))
    ∙ several_is AJoinBind q (pieces_toks (joins_pieces (MoreJoins j js) NoPieces) behind) (λ js. AnExpression ▸ λ e. AClose ▸ λ _. f (EJoin true t (joins_from js) e))
    ∙ c (joins_pieces js NoPieces) behind q (λ x. Many AJoinBind ▸ λ js. AnExpression ▸ λ e. AClose ▸ λ _. f (EJoin true t (MoreJoins x (joins_from js)) e))
    ∙ k (pieces_toks (expr_pieces Alone e NoPieces) more) q (λ js. AnExpression ▸ λ e. AClose ▸ λ _. f (EJoin true t (MoreJoins j js) e)) ∙ d NoPieces more q (λ e. AClose ▸ λ _. f (EJoin true t (MoreJoins j js) e)) in
    record { alone = alone; head = head_alone x alone; body = body_alone x alone }

pub jump_back : (j : Word) (args : Args) → ArgsBack args → ExprBack (EJump j args)
jump_back j args b =
    let alone : AloneBack (EJump j args) = λ ps rest q f. b (pieces_toks ps rest) q (λ args. f (EJump j args)) in
    record { alone = alone; head = head_alone (EJump j args) alone; body = body_alone (EJump j args) alone }
