-- What is said of each name that stands in declarations is said of the modules and of the definitions that they mention.
use Rattle.std.proofs.Common.{◌≡◌, ◌∙◌, Bool, true, List, [], ◌∷◌, ◌++◌, refl}
use Rattle.std.proofs.lemmas.List.Folds.{list_all-append}
use Rattle.std.specs.List.{list_all}
use Rattle.fc_syntax.specs.declared.ty.Name.{Name}
use Rattle.fc_syntax.specs.declared.expr.Head.{Head}
use Rattle.fc_syntax.specs.declared.expr.Head.TheVariants as head
use Rattle.fc_syntax.specs.Tree.{Word}
use Rattle.fc_model.specs.Mentioning.{in_head, in_name}
use Rattle.fc_model.specs.Nameless.{NTy, NTVar, NTCon, NTInt, NTApp, NTFun, NTForall, NTCoForall}
use Rattle.fc_model.specs.Nameless.{NCo, NGVar, NGRefl, NGSym, NGTrans, NGTc, NGCapp, NGFun, NGAll, NGCoAll, NGInst, NGNth, NGLeft, NGRight, NGSub, NGAx, NGUniv, NCos, NoNCos, MoreNCos}
use Rattle.fc_model.specs.Nameless.{NBinder, NBValue, NBType, NBCo, NArg, NATerm, NAType, NACo, NBound, NJoined, NBranch}
use Rattle.fc_model.specs.Nameless.{NExpr, NLocal, NVar, NLit, NApp, NLam, NLet, NCase, NCast, NCon, NPrim, NFail, NJoin, NJump}
use Rattle.fc_model.specs.Nameless.{NExprs, NoNExprs, MoreNExprs, NArgs, NoNArgs, MoreNArgs, NBinds, NoNBinds, MoreNBinds, NJoins, NoNJoins, MoreNJoins, NAlts, NoNAlts, MoreNAlts}
use Rattle.fc_model.specs.Nameless.{NParam, NConDecl, NConOf, NDecl, NData, NNew, NFamily, NAxiom, NDef, NWrap}
use Rattle.fc_headers.specs.NamelessHeaders.{modules_in_alts, modules_in_arg, modules_in_args, modules_in_binder, modules_in_binders, modules_in_binds}
use Rattle.fc_headers.specs.NamelessHeaders.{modules_in_coercion, modules_in_coercions, modules_in_constructor}
use Rattle.fc_headers.specs.NamelessHeaders.{modules_in_decl, modules_in_decls, modules_in_expr, modules_in_exprs, modules_in_joins, modules_in_type, modules_in_types}
use Rattle.fc_reaching.specs.Reaching.{names_in, names_in_alts, names_in_arg, names_in_args, names_in_binds, names_in_exprs, names_in_joins}
use Rattle.fc_used_words.specs.Scoped.{Counts, Saying, in_binder}
use Rattle.fc_used_words.specs.Scoped.{HoldsTy, HoldsTys, HoldsCo, HoldsCos, HoldsBinder, HoldsBinders, HoldsHead, HoldsExpr, HoldsArg, HoldsArgs, HoldsExprs, HoldsBinds, HoldsJoins, HoldsAlts}
use Rattle.fc_used_words.specs.Scoped.{HoldsCon, HoldsCons, HoldsDecl, HoldsDecls}
use Rattle.fc_views.specs.Views.{AreInView, IsNameInView, View, names_in_decl, names_in_decls}
use Rattle.fc_views.proofs.TypesInView.{words_in_both}

-- each name is of a module in view, and those of definitions may be used
abbrev pub mentioned : View → (Name → Bool) → Saying
mentioned view use_of = record {
  type_at = λ many i. Unit {0};
  value_at = λ many i. Unit {0};
  join_at = λ many i. Unit {0};
  coercion_at = λ many i. Unit {0};
  type_name = IsNameInView view;
  axiom_name = IsNameInView view;
  constructor = IsNameInView view;
  definition = λ n. IsNameInView view n × (use_of n ≡ true);
}

module _ (view : View) (use_of : Name → Bool) where
  abbrev P : Saying
  P = mentioned view use_of

  -- THE MODULES

  ty_seen : (k : Counts) (t : NTy) → HoldsTy P k t → AreInView view (modules_in_type t)
  ty_seen k (NTVar i) h = refl
  ty_seen k (NTCon n) h = h
  ty_seen k NTInt h = refl
  ty_seen k (NTApp t u) h = words_in_both view (modules_in_type t) (modules_in_type u) (ty_seen _ t h.0) (ty_seen _ u h.1)
  ty_seen k (NTFun t u) h = words_in_both view (modules_in_type t) (modules_in_type u) (ty_seen _ t h.0) (ty_seen _ u h.1)
  ty_seen k (NTForall a t) h = ty_seen _ t h
  ty_seen k (NTCoForall r t u v) h =
      words_in_both view (modules_in_type t) (modules_in_type u ++ modules_in_type v) (ty_seen _ t h.0)
      (words_in_both view (modules_in_type u) (modules_in_type v) (ty_seen _ u h.1) (ty_seen _ v h.2))

  tys_seen : (k : Counts) (ts : List NTy) → HoldsTys P k ts → AreInView view (modules_in_types ts)
  tys_seen k [] h = refl
  tys_seen k (t ∷ ts) h = words_in_both view (modules_in_type t) (modules_in_types ts) (ty_seen _ t h.0) (tys_seen _ ts h.1)

  mutual
    co_seen : (k : Counts) (g : NCo) → HoldsCo P k g → AreInView view (modules_in_coercion g)
    co_seen k (NGVar i) h = refl
    co_seen k (NGRefl r t) h = ty_seen _ t h
    co_seen k (NGSym g) h = co_seen _ g h
    co_seen k (NGTrans f g) h = words_in_both view (modules_in_coercion f) (modules_in_coercion g) (co_seen _ f h.0) (co_seen _ g h.1)
    co_seen k (NGTc r n gs) h = words_in_both view (in_name n.module) (modules_in_coercions gs) h.0 (cos_seen _ gs h.1)
    co_seen k (NGCapp f g) h = words_in_both view (modules_in_coercion f) (modules_in_coercion g) (co_seen _ f h.0) (co_seen _ g h.1)
    co_seen k (NGFun f g) h = words_in_both view (modules_in_coercion f) (modules_in_coercion g) (co_seen _ f h.0) (co_seen _ g h.1)
    co_seen k (NGAll a g) h = co_seen _ g h
    co_seen k (NGCoAll r s e f g) h =
        words_in_both view (modules_in_coercion e) (modules_in_coercion f ++ modules_in_coercion g) (co_seen _ e h.0)
        (words_in_both view (modules_in_coercion f) (modules_in_coercion g) (co_seen _ f h.1) (co_seen _ g h.2))
    co_seen k (NGInst f g) h = words_in_both view (modules_in_coercion f) (modules_in_coercion g) (co_seen _ f h.0) (co_seen _ g h.1)
    co_seen k (NGNth n g) h = co_seen _ g h
    co_seen k (NGLeft g) h = co_seen _ g h
    co_seen k (NGRight g) h = co_seen _ g h
    co_seen k (NGSub g) h = co_seen _ g h
    co_seen k (NGAx n gs) h = words_in_both view (in_name n.module) (modules_in_coercions gs) h.0 (cos_seen _ gs h.1)
    co_seen k (NGUniv t u) h = words_in_both view (modules_in_type t) (modules_in_type u) (ty_seen _ t h.0) (ty_seen _ u h.1)

    cos_seen : (k : Counts) (gs : NCos) → HoldsCos P k gs → AreInView view (modules_in_coercions gs)
    cos_seen k NoNCos h = refl
    cos_seen k (MoreNCos g gs) h = words_in_both view (modules_in_coercion g) (modules_in_coercions gs) (co_seen _ g h.0) (cos_seen _ gs h.1)

  binder_seen : (k : Counts) (b : NBinder) → HoldsBinder P k b → AreInView view (modules_in_binder b)
  binder_seen k (NBValue t) h = ty_seen _ t h
  binder_seen k (NBType a) h = refl
  binder_seen k (NBCo r t u) h = words_in_both view (modules_in_type t) (modules_in_type u) (ty_seen _ t h.0) (ty_seen _ u h.1)

  binders_seen : (k : Counts) (bs : List NBinder) → HoldsBinders P k bs → AreInView view (modules_in_binders bs)
  binders_seen k [] h = refl
  binders_seen k (b ∷ bs) h = words_in_both view (modules_in_binder b) (modules_in_binders bs) (binder_seen k b h.0) (binders_seen (in_binder b k) bs h.1)

  head_seen : (x : Head) → HoldsHead P x → AreInView view (in_head x)
  head_seen head.Default h = refl
  head_seen (head.Lit n) h = refl
  head_seen (head.Con n) h = h

  mutual
    expr_seen : (k : Counts) (e : NExpr) → HoldsExpr P k e → AreInView view (modules_in_expr e)
    expr_seen k (NLocal i) h = refl
    expr_seen k (NVar n) h = h.0
    expr_seen k (NLit n) h = refl
    expr_seen k (NApp f a) h = words_in_both view (modules_in_expr f) (modules_in_arg a) (expr_seen _ f h.0) (arg_seen _ a h.1)
    expr_seen k (NLam b e) h = words_in_both view (modules_in_binder b) (modules_in_expr e) (binder_seen _ b h.0) (expr_seen _ e h.1)
    expr_seen k (NLet r bs e) h = words_in_both view (modules_in_binds bs) (modules_in_expr e) (binds_seen _ bs h.0) (expr_seen _ e h.1)
    expr_seen k (NCase e t u alts) h =
        words_in_both view (modules_in_expr e) (modules_in_type t ++ (modules_in_type u ++ modules_in_alts alts)) (expr_seen _ e h.0)
        (words_in_both view (modules_in_type t) (modules_in_type u ++ modules_in_alts alts) (ty_seen _ t h.1)
        (words_in_both view (modules_in_type u) (modules_in_alts alts) (ty_seen _ u h.2) (alts_seen _ alts h.3)))
    expr_seen k (NCast e g) h = words_in_both view (modules_in_expr e) (modules_in_coercion g) (expr_seen _ e h.0) (co_seen _ g h.1)
    expr_seen k (NCon n args) h = words_in_both view (in_name n.module) (modules_in_args args) h.0 (args_seen _ args h.1)
    expr_seen k (NPrim op es) h = exprs_seen _ es h
    expr_seen k (NFail t) h = ty_seen _ t h
    expr_seen k (NJoin r t js e) h =
        words_in_both view (modules_in_type t) (modules_in_joins js ++ modules_in_expr e) (ty_seen _ t h.0)
        (words_in_both view (modules_in_joins js) (modules_in_expr e) (joins_seen _ js h.1) (expr_seen _ e h.2))
    expr_seen k (NJump i args) h = args_seen _ args h.1

    arg_seen : (k : Counts) (a : NArg) → HoldsArg P k a → AreInView view (modules_in_arg a)
    arg_seen k (NATerm e) h = expr_seen _ e h
    arg_seen k (NAType t) h = ty_seen _ t h
    arg_seen k (NACo g) h = co_seen _ g h

    args_seen : (k : Counts) (xs : NArgs) → HoldsArgs P k xs → AreInView view (modules_in_args xs)
    args_seen k NoNArgs h = refl
    args_seen k (MoreNArgs a rest) h = words_in_both view (modules_in_arg a) (modules_in_args rest) (arg_seen _ a h.0) (args_seen _ rest h.1)

    exprs_seen : (k : Counts) (es : NExprs) → HoldsExprs P k es → AreInView view (modules_in_exprs es)
    exprs_seen k NoNExprs h = refl
    exprs_seen k (MoreNExprs e rest) h = words_in_both view (modules_in_expr e) (modules_in_exprs rest) (expr_seen _ e h.0) (exprs_seen _ rest h.1)

    binds_seen : (k : Counts) (bs : NBinds) → HoldsBinds P k bs → AreInView view (modules_in_binds bs)
    binds_seen k NoNBinds h = refl
    binds_seen k (MoreNBinds (NBound t e) rest) h =
        words_in_both view (modules_in_type t) (modules_in_expr e ++ modules_in_binds rest) (ty_seen _ t h.0.0)
        (words_in_both view (modules_in_expr e) (modules_in_binds rest) (expr_seen _ e h.0.1) (binds_seen _ rest h.1))

    joins_seen : (k : Counts) (js : NJoins) → HoldsJoins P k js → AreInView view (modules_in_joins js)
    joins_seen k NoNJoins h = refl
    joins_seen k (MoreNJoins (NJoined ps e) rest) h =
        words_in_both view (modules_in_binders ps) (modules_in_expr e ++ modules_in_joins rest) (binders_seen _ ps h.0.0)
        (words_in_both view (modules_in_expr e) (modules_in_joins rest) (expr_seen _ e h.0.1) (joins_seen _ rest h.1))

    alts_seen : (k : Counts) (xs : NAlts) → HoldsAlts P k xs → AreInView view (modules_in_alts xs)
    alts_seen k NoNAlts h = refl
    alts_seen k (MoreNAlts (NBranch x bs e) rest) h =
        words_in_both view (in_head x) (modules_in_binders bs ++ (modules_in_expr e ++ modules_in_alts rest)) (head_seen x h.0.0)
        (words_in_both view (modules_in_binders bs) (modules_in_expr e ++ modules_in_alts rest) (binders_seen _ bs h.0.1)
        (words_in_both view (modules_in_expr e) (modules_in_alts rest) (expr_seen _ e h.0.2) (alts_seen _ rest h.1)))

  constructor_seen : (k : Counts) (c : NConDecl) → HoldsCon P k c → AreInView view (modules_in_constructor c)
  constructor_seen k (NConOf n bs ts) h = words_in_both view (modules_in_binders bs) (modules_in_types ts) (binders_seen _ bs h.0) (tys_seen _ ts h.1)

  constructors_seen : (k : Counts) (n : Word) (ps : List NParam) (cs : List NConDecl) → HoldsCons P k cs → AreInView view (modules_in_decl (NData n ps cs))
  constructors_seen k n ps [] h = refl
  constructors_seen k n ps (c ∷ cs) h = words_in_both view (modules_in_constructor c) (modules_in_decl (NData n ps cs)) (constructor_seen k c h.0) (constructors_seen k n ps cs h.1)

  decl_seen : (d : NDecl) → HoldsDecl P d → AreInView view (modules_in_decl d)
  decl_seen (NData n ps cs) h = constructors_seen _ n ps cs h
  decl_seen (NNew n ps t con) h = ty_seen _ t h
  decl_seen (NFamily n ps a) h = refl
  decl_seen (NAxiom n ps t u) h = words_in_both view (modules_in_type t) (modules_in_type u) (ty_seen _ t h.0) (ty_seen _ u h.1)
  decl_seen (NDef n t e) h = words_in_both view (modules_in_type t) (modules_in_expr e) (ty_seen _ t h.0) (expr_seen _ e h.1)
  decl_seen (NWrap n t e) h = words_in_both view (modules_in_type t) (modules_in_expr e) (ty_seen _ t h.0) (expr_seen _ e h.1)

  pub decls_seen : (ds : List NDecl) → HoldsDecls P ds → AreInView view (modules_in_decls ds)
  decls_seen [] h = refl
  decls_seen (d ∷ ds) h = words_in_both view (modules_in_decl d) (modules_in_decls ds) (decl_seen d h.0) (decls_seen ds h.1)

  -- THE DEFINITIONS

  both : (xs ys : List Name) → list_all use_of xs ≡ true → list_all use_of ys ≡ true → list_all use_of (xs ++ ys) ≡ true
  both xs ys p q = list_all-append use_of xs ys ∙ rw (p, q) refl

  mutual
    expr_used : (k : Counts) (e : NExpr) → HoldsExpr P k e → list_all use_of (names_in e) ≡ true
    expr_used k (NLocal i) h = refl
    expr_used k (NVar n) h = rw h.1 refl
    expr_used k (NLit n) h = refl
    expr_used k (NApp f a) h = both (names_in f) (names_in_arg a) (expr_used _ f h.0) (arg_used _ a h.1)
    expr_used k (NLam b e) h = expr_used _ e h.1
    expr_used k (NLet r bs e) h = both (names_in_binds bs) (names_in e) (binds_used _ bs h.0) (expr_used _ e h.1)
    expr_used k (NCase e t u alts) h = both (names_in e) (names_in_alts alts) (expr_used _ e h.0) (alts_used _ alts h.3)
    expr_used k (NCast e g) h = expr_used _ e h.0
    expr_used k (NCon n args) h = args_used _ args h.1
    expr_used k (NPrim op es) h = exprs_used _ es h
    expr_used k (NFail t) h = refl
    expr_used k (NJoin r t js e) h = both (names_in_joins js) (names_in e) (joins_used _ js h.1) (expr_used _ e h.2)
    expr_used k (NJump i args) h = args_used _ args h.1

    arg_used : (k : Counts) (a : NArg) → HoldsArg P k a → list_all use_of (names_in_arg a) ≡ true
    arg_used k (NATerm e) h = expr_used _ e h
    arg_used k (NAType t) h = refl
    arg_used k (NACo g) h = refl

    args_used : (k : Counts) (xs : NArgs) → HoldsArgs P k xs → list_all use_of (names_in_args xs) ≡ true
    args_used k NoNArgs h = refl
    args_used k (MoreNArgs a rest) h = both (names_in_arg a) (names_in_args rest) (arg_used _ a h.0) (args_used _ rest h.1)

    exprs_used : (k : Counts) (es : NExprs) → HoldsExprs P k es → list_all use_of (names_in_exprs es) ≡ true
    exprs_used k NoNExprs h = refl
    exprs_used k (MoreNExprs e rest) h = both (names_in e) (names_in_exprs rest) (expr_used _ e h.0) (exprs_used _ rest h.1)

    binds_used : (k : Counts) (bs : NBinds) → HoldsBinds P k bs → list_all use_of (names_in_binds bs) ≡ true
    binds_used k NoNBinds h = refl
    binds_used k (MoreNBinds (NBound t e) rest) h = both (names_in e) (names_in_binds rest) (expr_used _ e h.0.1) (binds_used _ rest h.1)

    joins_used : (k : Counts) (js : NJoins) → HoldsJoins P k js → list_all use_of (names_in_joins js) ≡ true
    joins_used k NoNJoins h = refl
    joins_used k (MoreNJoins (NJoined ps e) rest) h = both (names_in e) (names_in_joins rest) (expr_used _ e h.0.1) (joins_used _ rest h.1)

    alts_used : (k : Counts) (xs : NAlts) → HoldsAlts P k xs → list_all use_of (names_in_alts xs) ≡ true
    alts_used k NoNAlts h = refl
    alts_used k (MoreNAlts (NBranch x bs e) rest) h = both (names_in e) (names_in_alts rest) (expr_used _ e h.0.2) (alts_used _ rest h.1)

  decl_used : (d : NDecl) → HoldsDecl P d → list_all use_of (names_in_decl d) ≡ true
  decl_used (NData n ps cs) h = refl
  decl_used (NNew n ps t con) h = refl
  decl_used (NFamily n ps a) h = refl
  decl_used (NAxiom n ps t u) h = refl
  decl_used (NDef n t e) h = expr_used _ e h.1
  decl_used (NWrap n t e) h = expr_used _ e h.1

  pub decls_used : (ds : List NDecl) → HoldsDecls P ds → list_all use_of (names_in_decls ds) ≡ true
  decls_used [] h = refl
  decls_used (d ∷ ds) h = both (names_in_decl d) (names_in_decls ds) (decl_used d h.0) (decls_used ds h.1)
