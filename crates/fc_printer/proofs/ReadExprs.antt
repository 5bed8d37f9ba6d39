-- Pieces read back: expressions and what is in them.
use Rattle.std.proofs.Common.{◌≡◌, true, false, List, [], ◌∷◌, refl, sym, ◌∙◌, Option, Some, None}
use Rattle.std.specs.Prelude.{◌&&◌}
use Rattle.std.specs.List.{list_all}
use Rattle.std.proofs.lemmas.Bool.{and_parts, true≢false}
use Rattle.fc_syntax.specs.declared.ty.Name.{Name}
use Rattle.fc_syntax.specs.declared.expr.Head.TheVariants as head
use Rattle.fc_syntax.specs.Tree as tree
use Rattle.fc_syntax.specs.Tree.{Word, Ty, Co, Binder, Arg, ATerm, Bind, Bound, JoinBind, Joined, Alt, Branch}
use Rattle.fc_syntax.specs.Tree.{Expr, EVar, ELit, EApp, ELam, ELet, ECase, ECast, ECon, EPrim, EFail, EJoin, EJump}
use Rattle.fc_syntax.specs.Tree.{Exprs, NoExprs, MoreExprs, Args, NoArgs, MoreArgs, Binds, NoBinds, MoreBinds, Joins, NoJoins, MoreJoins, Alts, NoAlts, MoreAlts}
use Rattle.fc_model.specs.Words.{Tok, Open, Close, Lower, LowerOf, Upper, UpperOf}
use Rattle.fc_model.specs.Grammar.{Part, Given, Steps, ◌▸◌, Many, AnOpen, AClose, ABinder, AnArgument, AnExpression, ABind, AJoinBind, AnAlternative, AnAlternativeForm}
use Rattle.fc_model.specs.Reading.{read_steps}
use Rattle.fc_model.specs.Pieces.{Pieces, NoPieces, pieces_toks}
use Rattle.fc_model.specs.Spelling.{Alone, binders_pieces, expr_pieces, bind_pieces, join_pieces, alt_pieces, upper_tok}
use Rattle.fc_model.specs.Formed.{is_expr_formed, is_arg_formed, are_args_formed, are_exprs_formed, is_bind_formed, are_binds_formed, is_join_formed, are_joins_formed, is_alt_formed, are_alts_formed}
use Rattle.fc_model.specs.Formed.{is_binder_formed, is_co_formed, is_literal_formed, is_lower_word, is_type_formed, is_upper_formed}
use Rattle.fc_printer.proofs.ReadKinds.{ReadsBack, type_back}
use Rattle.fc_printer.proofs.ReadCoercions.{binder_back, binders_back, co_back}
use Rattle.fc_printer.proofs.ReadForms.{AloneBack, ArgBack, ExprBack, ArgsBack, ExprsBack, BindsBack, JoinsBack, AltsBack, more_args, more_exprs, more_binds, more_joins, more_alts}
use Rattle.fc_printer.proofs.ReadForms.{app_back, lam_back, leaf_back, literal_back, let_back, letrec_back, case_back, cast_back, con_back, prim_back, fail_back, join_back, joinrec_back, jump_back}

-- a term as an argument
term_is : (e : Expr) (ps : Pieces) (rest : List Tok) (q : Part) (f : Arg → Steps (Given q))
    → read_steps (pieces_toks (expr_pieces Alone e ps) rest) (AnArgument ▸ f) ≡ read_steps (pieces_toks (expr_pieces Alone e ps) rest) (AnExpression ▸ λ e. f (ATerm e))
term_is (EVar n) ps rest q f = at n.module
  where
    at : (o : Option Word) → read_steps ((elim o [ None ↦ Lower n.text | Some m ↦ LowerOf m n.text ]) ∷ pieces_toks ps rest) (AnArgument ▸ f)
        ≡ read_steps ((elim o [ None ↦ Lower n.text | Some m ↦ LowerOf m n.text ]) ∷ pieces_toks ps rest) (AnExpression ▸ λ e. f (ATerm e))
    at None = refl
    at (Some m) = refl
term_is (ELet false bs e) ps rest q f = refl
term_is (ELet true bs e) ps rest q f = refl
term_is (EJoin false t js e) ps rest q f = refl
term_is (EJoin true t js e) ps rest q f = refl
term_is e ps rest q f = refl

term_back : (e : Expr) → AloneBack e → ArgBack (ATerm e)
term_back e b ps rest q f = term_is e ps rest q f ∙ b ps rest q (λ e. f (ATerm e))

type_arg_back : (t : Ty) → is_type_formed t ≡ true → ArgBack (tree.AType t)
type_arg_back t h ps rest q f = type_back t h NoPieces (Close ∷ pieces_toks ps rest) q (λ t. AClose ▸ λ _. f (tree.AType t))

co_arg_back : (g : Co) → is_co_formed g ≡ true → ArgBack (tree.ACo g)
co_arg_back g h ps rest q f = co_back g h NoPieces (Close ∷ pieces_toks ps rest) q (λ g. AClose ▸ λ _. f (tree.ACo g))

bound_back : (x : Word) (t : Ty) (e : Expr) → is_type_formed t ≡ true → AloneBack e → ReadsBack ABind (bind_pieces (Bound x t e)) (Bound x t e)
bound_back x t e h b ps rest q f =
    let more = Close ∷ pieces_toks ps rest in
    type_back t h (expr_pieces Alone e NoPieces) more q (λ t. AnExpression ▸ λ e. AClose ▸ λ _. f (Bound x t e)) ∙ b NoPieces more q (λ e. AClose ▸ λ _. f (Bound x t e))

joined_back : (j : Word) (bs : List Binder) (e : Expr) → list_all is_binder_formed bs ≡ true → AloneBack e → ReadsBack AJoinBind (join_pieces (Joined j bs e)) (Joined j bs e)
joined_back j bs e h b ps rest q f =
    let more = Close ∷ pieces_toks ps rest in
    binders_back bs h (pieces_toks (expr_pieces Alone e NoPieces) more) q (λ bs. AnExpression ▸ λ e. AClose ▸ λ _. f (Joined j bs e)) ∙ b NoPieces more q (λ e. AClose ▸ λ _. f (Joined j bs e))

default_back : (e : Expr) → AloneBack e → ReadsBack AnAlternative (alt_pieces (Branch head.Default [] e)) (Branch head.Default [] e)
default_back e b ps rest q f = b NoPieces (Close ∷ pieces_toks ps rest) q (λ e. AClose ▸ λ _. f (Branch head.Default [] e))

literal_alt_back : (n : _) (e : Expr) → AloneBack e → ReadsBack AnAlternative (alt_pieces (Branch (head.Lit n) [] e)) (Branch (head.Lit n) [] e)
literal_alt_back n e b ps rest q f = b NoPieces (Close ∷ pieces_toks ps rest) q (λ e. AClose ▸ λ _. f (Branch (head.Lit n) [] e))

constructor_is : (n : Name) (ts : List Tok) (q : Part) (f : Alt → Steps (Given q))
    → read_steps (upper_tok n ∷ ts) (AnAlternativeForm ▸ f) ≡ read_steps ts (AnOpen ▸ λ _. Many ABinder ▸ λ bs. AnExpression ▸ λ e. AClose ▸ λ _. f (Branch (head.Con n) bs e))
constructor_is n ts q f = at n.module
  where
    at : (o : Option Word) → read_steps ((elim o [ None ↦ Upper n.text | Some m ↦ UpperOf m n.text ]) ∷ ts) (AnAlternativeForm ▸ f)
        ≡ read_steps ts (AnOpen ▸ λ _. Many ABinder ▸ λ bs. AnExpression ▸ λ e. AClose ▸ λ _. f (Branch (head.Con (record { «module» = o; text = n.text })) bs e))
    at None = refl
    at (Some m) = refl

constructor_back : (n : Name) (bs : List Binder) (e : Expr) → list_all is_binder_formed bs ≡ true → AloneBack e → ReadsBack AnAlternative (alt_pieces (Branch (head.Con n) bs e)) (Branch (head.Con n) bs e)
constructor_back n bs e h b ps rest q f =
    let more = Close ∷ pieces_toks ps rest in
    let behind = pieces_toks (expr_pieces Alone e NoPieces) more in
    constructor_is n (Open ∷ pieces_toks (binders_pieces bs NoPieces) (Close ∷ behind)) q f
    ∙ binders_back bs h behind q (λ bs. AnExpression ▸ λ e. AClose ▸ λ _. f (Branch (head.Con n) bs e)) ∙ b NoPieces more q (λ e. AClose ▸ λ _. f (Branch (head.Con n) bs e))

mutual
  expr_anywhere : (e : Expr) → is_expr_formed e ≡ true → ExprBack e
  expr_anywhere (EVar n) h = leaf_back n
  expr_anywhere (ELit n) h = literal_back n
  expr_anywhere (EApp f a) h = let p = and_parts (is_expr_formed f) (is_arg_formed a) h in app_back f a (expr_anywhere f p.0).head (arg_back a p.1)
  expr_anywhere (ELam b e) h = let p = and_parts (is_binder_formed b) (is_expr_formed e) h in lam_back b e (binder_back b p.0) (expr_anywhere e p.1).body
  expr_anywhere (ELet false NoBinds e) h = absurd (true≢false (sym h))
  expr_anywhere (ELet false (MoreBinds b NoBinds) e) h =
      let p = and_parts (is_bind_formed b && true) (is_expr_formed e) h in
      let_back b e (bind_back b (and_parts (is_bind_formed b) true p.0).0) (expr_anywhere e p.1).alone
  expr_anywhere (ELet false (MoreBinds b (MoreBinds c bs)) e) h = absurd (true≢false (sym h))
  expr_anywhere (ELet true NoBinds e) h = absurd (true≢false (sym h))
  expr_anywhere (ELet true (MoreBinds b bs) e) h =
      let p = and_parts (is_bind_formed b && are_binds_formed bs) (is_expr_formed e) h in
      let p' = and_parts (is_bind_formed b) (are_binds_formed bs) p.0 in
      letrec_back b bs e (bind_back b p'.0) (binds_back bs p'.1) (expr_anywhere e p.1).alone
  expr_anywhere (ECase e x t u alts) h =
      let p = and_parts (is_expr_formed e) ((is_lower_word x && (is_type_formed t && is_type_formed u)) && are_alts_formed alts) h in
      let p' = and_parts (is_lower_word x && (is_type_formed t && is_type_formed u)) (are_alts_formed alts) p.1 in
      let tys = and_parts (is_type_formed t) (is_type_formed u) (and_parts (is_lower_word x) (is_type_formed t && is_type_formed u) p'.0).1 in
      case_back e x t u alts (expr_anywhere e p.0).alone (type_back t tys.0) (type_back u tys.1) (alts_back alts p'.1)
  expr_anywhere (ECast e g) h = let p = and_parts (is_expr_formed e) (is_co_formed g) h in cast_back e g (expr_anywhere e p.0).alone (co_back g p.1)
  expr_anywhere (ECon n args) h = con_back n args (args_back args (and_parts (is_upper_formed n) (are_args_formed args) h).1)
  expr_anywhere (EPrim o es) h = prim_back o es (exprs_back es h)
  expr_anywhere (EFail t) h = fail_back t (type_back t h)
  expr_anywhere (EJoin false t NoJoins e) h = absurd (true≢false (sym h))
  expr_anywhere (EJoin false t (MoreJoins j NoJoins) e) h =
      let p = and_parts (is_type_formed t) ((is_join_formed j && true) && is_expr_formed e) h in
      let p' = and_parts (is_join_formed j && true) (is_expr_formed e) p.1 in
      join_back t j e (type_back t p.0) (join_bind_back j (and_parts (is_join_formed j) true p'.0).0) (expr_anywhere e p'.1).alone
  expr_anywhere (EJoin false t (MoreJoins j (MoreJoins k js)) e) h = absurd (true≢false (sym h))
  expr_anywhere (EJoin true t NoJoins e) h = absurd (true≢false (sym h))
  expr_anywhere (EJoin true t (MoreJoins j js) e) h =
      let p = and_parts (is_type_formed t) ((is_join_formed j && are_joins_formed js) && is_expr_formed e) h in
      let p' = and_parts (is_join_formed j && are_joins_formed js) (is_expr_formed e) p.1 in
      let p'' = and_parts (is_join_formed j) (are_joins_formed js) p'.0 in
      joinrec_back t j js e (type_back t p.0) (join_bind_back j p''.0) (joins_back js p''.1) (expr_anywhere e p'.1).alone
  expr_anywhere (EJump j args) h = jump_back j args (args_back args (and_parts (is_lower_word j) (are_args_formed args) h).1)

  arg_back : (a : Arg) → is_arg_formed a ≡ true → ArgBack a
  arg_back (ATerm e) h = term_back e (expr_anywhere e h).alone
  arg_back (tree.AType t) h = type_arg_back t h
  arg_back (tree.ACo g) h = co_arg_back g h

  args_back : (args : Args) → are_args_formed args ≡ true → ArgsBack args
  args_back NoArgs h = λ rest q f. refl
  args_back (MoreArgs a args) h = let p = and_parts (is_arg_formed a) (are_args_formed args) h in more_args a args (arg_back a p.0) (args_back args p.1)

  exprs_back : (es : Exprs) → are_exprs_formed es ≡ true → ExprsBack es
  exprs_back NoExprs h = λ rest q f. refl
  exprs_back (MoreExprs e es) h = let p = and_parts (is_expr_formed e) (are_exprs_formed es) h in more_exprs e es (expr_anywhere e p.0).alone (exprs_back es p.1)

  bind_back : (b : Bind) → is_bind_formed b ≡ true → ReadsBack ABind (bind_pieces b) b
  bind_back (Bound x t e) h =
      let p = and_parts (is_type_formed t) (is_expr_formed e) (and_parts (is_lower_word x) (is_type_formed t && is_expr_formed e) h).1 in
      bound_back x t e p.0 (expr_anywhere e p.1).alone

  binds_back : (bs : Binds) → are_binds_formed bs ≡ true → BindsBack bs
  binds_back NoBinds h = λ rest q f. refl
  binds_back (MoreBinds b bs) h = let p = and_parts (is_bind_formed b) (are_binds_formed bs) h in more_binds b bs (bind_back b p.0) (binds_back bs p.1)

  join_bind_back : (j : JoinBind) → is_join_formed j ≡ true → ReadsBack AJoinBind (join_pieces j) j
  join_bind_back (Joined j params e) h =
      let p = and_parts (list_all is_binder_formed params) (is_expr_formed e) (and_parts (is_lower_word j) (list_all is_binder_formed params && is_expr_formed e) h).1 in
      joined_back j params e p.0 (expr_anywhere e p.1).alone

  joins_back : (js : Joins) → are_joins_formed js ≡ true → JoinsBack js
  joins_back NoJoins h = λ rest q f. refl
  joins_back (MoreJoins j js) h = let p = and_parts (is_join_formed j) (are_joins_formed js) h in more_joins j js (join_bind_back j p.0) (joins_back js p.1)

  alt_back : (a : Alt) → is_alt_formed a ≡ true → ReadsBack AnAlternative (alt_pieces a) a
  alt_back (Branch head.Default [] e) h = default_back e (expr_anywhere e h).alone
  alt_back (Branch head.Default (b ∷ bs) e) h = absurd (true≢false (sym h))
  alt_back (Branch (head.Lit n) [] e) h = literal_alt_back n e (expr_anywhere e (and_parts (is_literal_formed n && true) (is_expr_formed e) h).1).alone
  alt_back (Branch (head.Lit n) (b ∷ bs) e) h = absurd (true≢false (sym (and_parts (is_literal_formed n) false (and_parts (is_literal_formed n && false) (is_expr_formed e) h).0).1))
  alt_back (Branch (head.Con n) bs e) h =
      let p = and_parts (is_upper_formed n && list_all is_binder_formed bs) (is_expr_formed e) h in
      constructor_back n bs e (and_parts (is_upper_formed n) (list_all is_binder_formed bs) p.0).1 (expr_anywhere e p.1).alone

  alts_back : (alts : Alts) → are_alts_formed alts ≡ true → AltsBack alts
  alts_back NoAlts h = λ rest q f. refl
  alts_back (MoreAlts a alts) h = let p = and_parts (is_alt_formed a) (are_alts_formed alts) h in more_alts a alts (alt_back a p.0) (alts_back alts p.1)

pub expr_back : (e : Expr) → is_expr_formed e ≡ true → AloneBack e
expr_back e h = (expr_anywhere e h).alone
