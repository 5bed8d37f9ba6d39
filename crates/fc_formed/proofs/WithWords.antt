-- A nameless tree is formed as its tree with words is, of each piece by one line a form for both directions.
use Rattle.std.proofs.Common.{◌≡◌, ℕ, Bool, true, false, ◌&&◌, List, [], ◌∷◌, map, refl}
use Rattle.std.specs.Cmp.Derive.{both_true}
use Rattle.std.specs.List.{list_all}
use Rattle.std.proofs.lemmas.Bool.{and_parts}
use Rattle.fc_syntax.specs.declared.expr.Head.{Head}
use Rattle.fc_syntax.specs.declared.expr.Head.TheVariants as head
use Rattle.fc_syntax.specs.declared.ty.Ref.{Ref}
use Rattle.fc_syntax.specs.declared.ty.Ref.TheVariants as ref
use Rattle.fc_syntax.specs.GenericTree.{Word, Param, Plain, TVar, TCon, TInt, TApp, TFun, TForall, TCoForall}
use Rattle.fc_syntax.specs.GenericTree.{GVar, GRefl, GSym, GTrans, GTc, GCapp, GFun, GAll, GCoAll, GInst, GNth, GLeft, GRight, GSub, GAx, GUniv, NoCos, MoreCos}
use Rattle.fc_syntax.specs.GenericTree.{BValue, BType, BCo, ATerm, AType, ACo, Bound, Joined, Branch}
use Rattle.fc_syntax.specs.GenericTree.{EVar, ELit, EApp, ELam, ELet, ECase, ECast, ECon, EPrim, EFail, EJoin, EJump}
use Rattle.fc_syntax.specs.GenericTree.{NoExprs, MoreExprs, NoArgs, MoreArgs, NoBinds, MoreBinds, NoJoins, MoreJoins, NoAlts, MoreAlts}
use Rattle.fc_syntax.specs.GenericTree.{ParamOf, PlainOf, ConOf, DData, DNew, DFamily, DAxiom, DDef, DWrap, ModuleOf}
use Rattle.fc_syntax.specs.Tokens.{is_module_name}
use Rattle.fc_model.specs.Formed.{WordTests, nameless_words, is_equality_role, is_literal_formed, is_lower_word, is_ref_formed, is_upper_formed, is_upper_word, is_word}
use Rattle.fc_model.specs.Formed.{type_formed, are_some_cos, co_formed, cos_formed, binder_formed, is_bind_group, is_join_group, is_empty_list, head_formed}
use Rattle.fc_model.specs.Formed.{expr_formed, arg_formed, args_formed, exprs_formed, binds_formed, joins_formed, alts_formed}
use Rattle.fc_model.specs.Formed.{param_formed, plain_formed, field_coercions_formed, field_binders_formed, con_formed, decl_formed, module_formed}
use Rattle.fc_model.specs.Worded.{WTy, WCo, WCos, WBinder, WExpr, WArg, WExprs, WArgs, WBinds, WJoins, WAlts, WConDecl, WDecl, WModule}
use Rattle.fc_model.specs.Worded.{bare_ty, bare_tys, bare_co, bare_cos, bare_binder, bare_binders, bare_expr, bare_arg, bare_args, bare_exprs, bare_binds, bare_joins, bare_alts, bare_con, bare_decl, bare_decls, bare_module}
use Rattle.fc_formed.specs.FormedTrees.{bare_words, IsFormedTy, AreFormedTys, AreSomeCos, IsFormedCo, AreFormedCos, IsFormedBinder, AreFormedBinders, IsFormedGroup, IsFormedJoinGroup, IsFormedHead}
use Rattle.fc_formed.specs.FormedTrees.{IsFormedExpr, IsFormedArg, AreFormedArgs, AreFormedExprs, AreFormedBinds, AreFormedJoins, AreFormedAlts}
use Rattle.fc_formed.specs.FormedTrees.{AreFieldCoercions, AreFieldBinders, IsFormedCon, AreFormedCons, IsFormedDecl, AreFormedDecls, IsFormedModule}
use Rattle.fc_formed.specs.Laws.{FormedWithWords, FormedWithoutWords}

-- TESTS

-- what a strict test finds holds, and what holds passes a mild one
record Between (P : Type 0) (strict mild : Bool) : Type 0 where
  finds : strict ≡ true → P
  passes : P → mild ≡ true

nothing : {s : Bool} → Between (Unit {0}) s true
nothing = record { finds = λ h. tt; passes = λ p. refl }

never : Between ⊥ false false
never = record { finds = λ h. absurd cc; passes = λ p. absurd p }

fact : (b : Bool) → Between (b ≡ true) b b
fact b = record { finds = λ h. h; passes = λ h. h }

two : {P Q : Type 0} {s t a b : Bool} → Between P s a → Between Q t b → Between (P × Q) (s && t) (a && b)
two {s = s} {t = t} p q = record { finds = λ h. let w = and_parts s t h in (p.finds w.0, q.finds w.1); passes = λ h. both_true (p.passes h.0) (q.passes h.1) }

-- what holds in other brackets
alike : {P Q : Type 0} {s a : Bool} → (P → Q) → (Q → P) → Between P s a → Between Q s a
alike there back p = record { finds = λ h. there (p.finds h); passes = λ h. p.passes (back h) }

three : {P Q R : Type 0} {s t u a b c : Bool} → Between P s a → Between Q t b → Between R u c → Between (P × Q × R) (s && (t && u)) (a && (b && c))
three p q r = alike (λ h. (h.0, h.1.0, h.1.1)) (λ h. (h.0, (h.1, h.2))) (two p (two q r))

four : {P Q R S : Type 0} {s t u v a b c d : Bool} → Between P s a → Between Q t b → Between R u c → Between S v d
    → Between (P × Q × R × S) (s && (t && (u && v))) (a && (b && (c && d)))
four p q r s = alike (λ h. (h.0, h.1.0, h.1.1, h.1.2)) (λ h. (h.0, (h.1, h.2, h.3))) (two p (three q r s))

-- behind words of binders
behind : {P : Type 0} {s t a b : Bool} → Between (Unit {0}) s a → Between P t b → Between P (s && t) (a && b)
behind p q = alike (λ h. h.1) (λ h. (tt, h)) (two p q)

-- for any tests that take no more names for formed than are
module _ (w : WordTests ℕ Ref Word) (named : (r : Ref) → w.name r ≡ true → is_ref_formed r ≡ true) where
  -- TYPES

  ty : (t : WTy) → Between (IsFormedTy (bare_ty t)) (type_formed w t) (type_formed bare_words t)
  ty (TVar i) = nothing
  ty (TCon n) = fact (is_upper_formed n)
  ty TInt = nothing
  ty (TApp t u) = two (ty t) (ty u)
  ty (TFun t u) = two (ty t) (ty u)
  ty (TForall a k t) = behind nothing (ty t)
  ty (TCoForall r t u v) = four (fact (is_equality_role r)) (ty t) (ty u) (ty v)

  tys : (ts : List WTy) → Between (AreFormedTys (bare_tys ts)) (list_all (type_formed w) ts) (list_all (type_formed bare_words) ts)
  tys [] = nothing
  tys (t ∷ ts) = two (ty t) (tys ts)

  -- COERCIONS

  some_cos : (gs : WCos) → Between (AreSomeCos (bare_cos gs)) (are_some_cos gs) (are_some_cos gs)
  some_cos NoCos = never
  some_cos (MoreCos g gs) = nothing

  mutual
    co : (g : WCo) → Between (IsFormedCo (bare_co g)) (co_formed w g) (co_formed bare_words g)
    co (GVar i) = nothing
    co (GRefl r t) = ty t
    co (GSym g) = co g
    co (GTrans g h) = two (co g) (co h)
    co (GTc r n gs) = four (fact (is_equality_role r)) (fact (is_upper_formed n)) (some_cos gs) (cos gs)
    co (GCapp g h) = two (co g) (co h)
    co (GFun g h) = two (co g) (co h)
    co (GAll a k g) = behind nothing (co g)
    co (GCoAll r s f g h) =
        alike (λ p. (p.0.0, p.0.1, p.1.0, p.1.1, p.1.2)) (λ p. ((p.0, p.1), (p.2, p.3, p.4)))
        (two (two (fact (is_equality_role r)) (fact (is_equality_role s))) (three (co f) (co g) (co h)))
    co (GInst g h) = two (co g) (co h)
    co (GNth n g) = two (fact _) (co g)
    co (GLeft g) = co g
    co (GRight g) = co g
    co (GSub g) = co g
    co (GAx n gs) = two (fact (is_upper_formed n)) (cos gs)
    co (GUniv t u) = two (ty t) (ty u)

    cos : (gs : WCos) → Between (AreFormedCos (bare_cos gs)) (cos_formed w gs) (cos_formed bare_words gs)
    cos NoCos = nothing
    cos (MoreCos g gs) = two (co g) (cos gs)

  -- BINDERS

  binder : (b : WBinder) → Between (IsFormedBinder (bare_binder b)) (binder_formed w b) (binder_formed bare_words b)
  binder (BValue x t) = behind nothing (ty t)
  binder (BType a k) = nothing
  binder (BCo c r t u) = behind nothing (three (fact (is_equality_role r)) (ty t) (ty u))

  binders : (bs : List WBinder) → Between (AreFormedBinders (bare_binders bs)) (list_all (binder_formed w) bs) (list_all (binder_formed bare_words) bs)
  binders [] = nothing
  binders (b ∷ bs) = two (binder b) (binders bs)

  no_binders : (bs : List WBinder) → Between (bare_binders bs ≡ []) (is_empty_list bs) (is_empty_list bs)
  no_binders [] = record { finds = λ h. refl; passes = λ h. refl }
  no_binders (b ∷ bs) = record { finds = λ h. absurd cc; passes = λ h. absurd cc }

  -- EXPRESSIONS

  group : (r : Bool) (bs : WBinds) → Between (IsFormedGroup r (bare_binds bs)) (is_bind_group r bs) (is_bind_group r bs)
  group false NoBinds = never
  group true NoBinds = never
  group false (MoreBinds b NoBinds) = nothing
  group true (MoreBinds b NoBinds) = nothing
  group false (MoreBinds b (MoreBinds c bs)) = never
  group true (MoreBinds b (MoreBinds c bs)) = nothing

  join_group : (r : Bool) (js : WJoins) → Between (IsFormedJoinGroup r (bare_joins js)) (is_join_group r js) (is_join_group r js)
  join_group false NoJoins = never
  join_group true NoJoins = never
  join_group false (MoreJoins j NoJoins) = nothing
  join_group true (MoreJoins j NoJoins) = nothing
  join_group false (MoreJoins j (MoreJoins k js)) = never
  join_group true (MoreJoins j (MoreJoins k js)) = nothing

  of_head : (h : Head) (bs : List WBinder) → Between (IsFormedHead h (bare_binders bs)) (head_formed w h bs) (head_formed bare_words h bs)
  of_head head.Default bs = no_binders bs
  of_head (head.Lit n) bs = two (fact (is_literal_formed n)) (no_binders bs)
  of_head (head.Con n) bs = two (fact (is_upper_formed n)) (binders bs)

  mutual
    expr : (e : WExpr) → Between (IsFormedExpr (bare_expr e)) (expr_formed w e) (expr_formed bare_words e)
    expr (EVar (ref.Local i)) = nothing
    expr (EVar (ref.Top n)) = record { finds = named (ref.Top n); passes = λ h. h }
    expr (ELit n) = fact (is_literal_formed n)
    expr (EApp f a) = two (expr f) (arg a)
    expr (ELam b e) = two (binder b) (expr e)
    expr (ELet r bs e) = three (group r bs) (binds bs) (expr e)
    expr (ECase e x t u al) =
        alike (λ p. (p.0, p.1.0.0, p.1.0.1, p.1.1)) (λ p. (p.0, ((p.1, p.2), p.3))) (two (expr e) (two (behind nothing (two (ty t) (ty u))) (alts al)))
    expr (ECast e g) = two (expr e) (co g)
    expr (ECon n xs) = two (fact (is_upper_formed n)) (args xs)
    expr (EPrim op es) = exprs es
    expr (EFail t) = ty t
    expr (EJoin r t js e) = four (join_group r js) (ty t) (joins js) (expr e)
    expr (EJump j xs) = behind nothing (args xs)

    arg : (a : WArg) → Between (IsFormedArg (bare_arg a)) (arg_formed w a) (arg_formed bare_words a)
    arg (ATerm e) = expr e
    arg (AType t) = ty t
    arg (ACo g) = co g

    args : (xs : WArgs) → Between (AreFormedArgs (bare_args xs)) (args_formed w xs) (args_formed bare_words xs)
    args NoArgs = nothing
    args (MoreArgs a rest) = two (arg a) (args rest)

    exprs : (es : WExprs) → Between (AreFormedExprs (bare_exprs es)) (exprs_formed w es) (exprs_formed bare_words es)
    exprs NoExprs = nothing
    exprs (MoreExprs e rest) = two (expr e) (exprs rest)

    binds : (bs : WBinds) → Between (AreFormedBinds (bare_binds bs)) (binds_formed w bs) (binds_formed bare_words bs)
    binds NoBinds = nothing
    binds (MoreBinds (Bound x t e) rest) = two (behind nothing (two (ty t) (expr e))) (binds rest)

    joins : (js : WJoins) → Between (AreFormedJoins (bare_joins js)) (joins_formed w js) (joins_formed bare_words js)
    joins NoJoins = nothing
    joins (MoreJoins (Joined j ps e) rest) = two (behind nothing (two (binders ps) (expr e))) (joins rest)

    alts : (al : WAlts) → Between (AreFormedAlts (bare_alts al)) (alts_formed w al) (alts_formed bare_words al)
    alts NoAlts = nothing
    alts (MoreAlts (Branch h bs e) rest) = two (two (of_head h bs) (expr e)) (alts rest)

  -- DECLARATIONS

  params : (ps : List (Param Word)) → Between (Unit {0}) (list_all (param_formed w) ps) (list_all (param_formed bare_words) ps)
  params [] = nothing
  params (ParamOf a k r ∷ ps) = behind nothing (params ps)

  plains : (ps : List (Plain Word)) → Between (Unit {0}) (list_all (plain_formed w) ps) (list_all (plain_formed bare_words) ps)
  plains [] = nothing
  plains (PlainOf a k ∷ ps) = behind nothing (plains ps)

  field_coercions : (bs : List WBinder) → Between (AreFieldCoercions (bare_binders bs)) (field_coercions_formed w bs) (field_coercions_formed bare_words bs)
  field_coercions [] = nothing
  field_coercions (BValue x t ∷ bs) = never
  field_coercions (BType a k ∷ bs) = never
  field_coercions (BCo c r t u ∷ bs) = two (binder (BCo c r t u)) (field_coercions bs)

  field_binders : (bs : List WBinder) → Between (AreFieldBinders (bare_binders bs)) (field_binders_formed w bs) (field_binders_formed bare_words bs)
  field_binders [] = nothing
  field_binders (BValue x t ∷ bs) = never
  field_binders (BType a k ∷ bs) = behind nothing (field_binders bs)
  field_binders (BCo c r t u ∷ bs) = two (binder (BCo c r t u)) (field_coercions bs)

  con : (c : WConDecl) → Between (IsFormedCon (bare_con c)) (con_formed w c) (con_formed bare_words c)
  con (ConOf n bs fields) = three (fact (is_upper_word n)) (field_binders bs) (tys fields)

  cons : (cs : List WConDecl) → Between (AreFormedCons (map bare_con cs)) (list_all (con_formed w) cs) (list_all (con_formed bare_words) cs)
  cons [] = nothing
  cons (c ∷ cs) = two (con c) (cons cs)

  decl : (d : WDecl) → Between (IsFormedDecl (bare_decl d)) (decl_formed w d) (decl_formed bare_words d)
  decl (DData n ps cs) = two (fact (is_upper_word n)) (behind (params ps) (cons cs))
  decl (DNew n ps t c) = two (two (fact (is_upper_word n)) (fact (is_upper_word c))) (behind (params ps) (ty t))
  decl (DFamily n ps k) = alike (λ p. p.0) (λ p. (p, tt)) (two (fact (is_upper_word n)) (plains ps))
  decl (DAxiom n ps t u) =
      alike (λ p. (p.0, p.1.0, p.1.1)) (λ p. (p.0, (p.1, p.2))) (two (fact (is_upper_word n)) (behind (plains ps) (two (ty t) (ty u))))
  decl (DDef n t e) = three (fact (is_lower_word n)) (ty t) (expr e)
  decl (DWrap n t e) = three (fact (is_lower_word n)) (ty t) (expr e)

  decls : (ds : List WDecl) → Between (AreFormedDecls (bare_decls ds)) (list_all (decl_formed w) ds) (list_all (decl_formed bare_words) ds)
  decls [] = nothing
  decls (d ∷ ds) = two (decl d) (decls ds)

  whole : (n : WModule) → Between (IsFormedModule (bare_module n)) (module_formed w n) (module_formed bare_words n)
  whole (ModuleOf m imports exports hidden ds) =
      three (two (fact (is_module_name m)) (fact (list_all is_module_name imports)))
      (two (fact (list_all is_word exports)) (fact (list_all is_word hidden)))
      (decls ds)

-- THE LAWS

pub formed_with_words : FormedWithWords
formed_with_words n = let t = whole bare_words (λ r h. h) n in (t.finds, t.passes)

pub formed_without_words : FormedWithoutWords
formed_without_words n = (whole nameless_words (λ r h. h) n).finds
