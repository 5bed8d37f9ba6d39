-- What follows of every name of a tree where two other things are said of it, below binders that may differ in their number.
use Rattle.std.proofs.Common.{ℕ, Bool, true, false, List, [], ◌∷◌, if◌then◌else◌}
use Rattle.fc_syntax.specs.declared.ty.Name.{Name}
use Rattle.fc_syntax.specs.declared.expr.Head.{Head}
use Rattle.fc_syntax.specs.declared.expr.Head.TheVariants as head
use Rattle.fc_model.specs.Nameless.{NTy, NTVar, NTCon, NTInt, NTApp, NTFun, NTForall, NTCoForall}
use Rattle.fc_model.specs.Nameless.{NCo, NGVar, NGRefl, NGSym, NGTrans, NGTc, NGCapp, NGFun, NGAll, NGCoAll, NGInst, NGNth, NGLeft, NGRight, NGSub, NGAx, NGUniv, NCos, NoNCos, MoreNCos}
use Rattle.fc_model.specs.Nameless.{NBinder, NBValue, NBType, NBCo, NArg, NATerm, NAType, NACo, NBind, NBound, NJoinBind, NJoined, NAlt, NBranch}
use Rattle.fc_model.specs.Nameless.{NExpr, NLocal, NVar, NLit, NApp, NLam, NLet, NCase, NCast, NCon, NPrim, NFail, NJoin, NJump}
use Rattle.fc_model.specs.Nameless.{NExprs, NoNExprs, MoreNExprs, NArgs, NoNArgs, MoreNArgs, NBinds, NoNBinds, MoreNBinds, NJoins, NoNJoins, MoreNJoins, NAlts, NoNAlts, MoreNAlts}
use Rattle.fc_model.specs.Nameless.{NConDecl, NConOf}
use Rattle.fc_used_words.specs.Scoped.{Counts, Saying, in_type, in_value, in_join, in_coercion, in_binder, in_binders, in_group, in_joins}
use Rattle.fc_used_words.specs.Scoped.{HoldsTy, HoldsTys, HoldsCo, HoldsCos, HoldsBinder, HoldsBinders, HoldsHead, HoldsExpr, HoldsArg, HoldsArgs, HoldsExprs, HoldsBind, HoldsBinds, HoldsJoin, HoldsJoins, HoldsAlt, HoldsAlts, HoldsCon, HoldsCons}

-- the third follows from the first two, where numbers of binders are related, and binders that are entered on both sides keep them so
pub record Follows (A B C : Saying) (R : Counts → Counts → Type 0) : Type 0 where
  pub type_at : (k l : Counts) (i : ℕ) → R k l → A.type_at k.types i → B.type_at k.types i → C.type_at l.types i
  pub value_at : (k l : Counts) (i : ℕ) → R k l → A.value_at k.values i → B.value_at k.values i → C.value_at l.values i
  pub join_at : (k l : Counts) (i : ℕ) → R k l → A.join_at k.joins i → B.join_at k.joins i → C.join_at l.joins i
  pub coercion_at : (k l : Counts) (i : ℕ) → R k l → A.coercion_at k.coercions i → B.coercion_at k.coercions i → C.coercion_at l.coercions i
  pub type_name : (n : Name) → A.type_name n → B.type_name n → C.type_name n
  pub axiom_name : (n : Name) → A.axiom_name n → B.axiom_name n → C.axiom_name n
  pub constructor : (n : Name) → A.constructor n → B.constructor n → C.constructor n
  pub definition : (n : Name) → A.definition n → B.definition n → C.definition n
  pub in_type : (k l : Counts) → R k l → R (in_type k) (in_type l)
  pub in_value : (k l : Counts) → R k l → R (in_value k) (in_value l)
  pub in_join : (k l : Counts) → R k l → R (in_join k) (in_join l)
  pub in_coercion : (k l : Counts) → R k l → R (in_coercion k) (in_coercion l)

module _ (A B C : Saying) (R : Counts → Counts → Type 0) (f : Follows A B C R) where
  pub both_ty : (k l : Counts) → R k l → (t : NTy) → HoldsTy A k t → HoldsTy B k t → HoldsTy C l t
  both_ty k l r (NTVar i) a b = f.type_at k l i r a b
  both_ty k l r (NTCon n) a b = f.type_name n a b
  both_ty k l r NTInt a b = tt
  both_ty k l r (NTApp t u) a b = (both_ty k l r t a.0 b.0, both_ty k l r u a.1 b.1)
  both_ty k l r (NTFun t u) a b = (both_ty k l r t a.0 b.0, both_ty k l r u a.1 b.1)
  both_ty k l r (NTForall x t) a b = both_ty (in_type k) (in_type l) (f.in_type k l r) t a b
  both_ty k l r (NTCoForall x t u v) a b = (both_ty k l r t a.0 b.0, both_ty k l r u a.1 b.1, both_ty k l r v a.2 b.2)

  pub both_tys : (k l : Counts) → R k l → (ts : List NTy) → HoldsTys A k ts → HoldsTys B k ts → HoldsTys C l ts
  both_tys k l r [] a b = tt
  both_tys k l r (t ∷ ts) a b = (both_ty k l r t a.0 b.0, both_tys k l r ts a.1 b.1)

  mutual
    pub both_co : (k l : Counts) → R k l → (g : NCo) → HoldsCo A k g → HoldsCo B k g → HoldsCo C l g
    both_co k l r (NGVar i) a b = f.coercion_at k l i r a b
    both_co k l r (NGRefl x t) a b = both_ty k l r t a b
    both_co k l r (NGSym g) a b = both_co k l r g a b
    both_co k l r (NGTrans g h) a b = (both_co k l r g a.0 b.0, both_co k l r h a.1 b.1)
    both_co k l r (NGTc x n gs) a b = (f.type_name n a.0 b.0, both_cos k l r gs a.1 b.1)
    both_co k l r (NGCapp g h) a b = (both_co k l r g a.0 b.0, both_co k l r h a.1 b.1)
    both_co k l r (NGFun g h) a b = (both_co k l r g a.0 b.0, both_co k l r h a.1 b.1)
    both_co k l r (NGAll x g) a b = both_co (in_type k) (in_type l) (f.in_type k l r) g a b
    both_co k l r (NGCoAll x y g h i) a b = (both_co k l r g a.0 b.0, both_co k l r h a.1 b.1, both_co k l r i a.2 b.2)
    both_co k l r (NGInst g h) a b = (both_co k l r g a.0 b.0, both_co k l r h a.1 b.1)
    both_co k l r (NGNth n g) a b = both_co k l r g a b
    both_co k l r (NGLeft g) a b = both_co k l r g a b
    both_co k l r (NGRight g) a b = both_co k l r g a b
    both_co k l r (NGSub g) a b = both_co k l r g a b
    both_co k l r (NGAx n gs) a b = (f.axiom_name n a.0 b.0, both_cos k l r gs a.1 b.1)
    both_co k l r (NGUniv t u) a b = (both_ty k l r t a.0 b.0, both_ty k l r u a.1 b.1)

    pub both_cos : (k l : Counts) → R k l → (gs : NCos) → HoldsCos A k gs → HoldsCos B k gs → HoldsCos C l gs
    both_cos k l r NoNCos a b = tt
    both_cos k l r (MoreNCos g gs) a b = (both_co k l r g a.0 b.0, both_cos k l r gs a.1 b.1)

  pub both_binder : (k l : Counts) → R k l → (x : NBinder) → HoldsBinder A k x → HoldsBinder B k x → HoldsBinder C l x
  both_binder k l r (NBValue t) a b = both_ty k l r t a b
  both_binder k l r (NBType x) a b = tt
  both_binder k l r (NBCo x t u) a b = (both_ty k l r t a.0 b.0, both_ty k l r u a.1 b.1)

  pub below_binder : (k l : Counts) → R k l → (x : NBinder) → R (in_binder x k) (in_binder x l)
  below_binder k l r (NBValue t) = f.in_value k l r
  below_binder k l r (NBType x) = f.in_type k l r
  below_binder k l r (NBCo x t u) = f.in_coercion k l r

  pub below_binders : (k l : Counts) → R k l → (xs : List NBinder) → R (in_binders xs k) (in_binders xs l)
  below_binders k l r [] = r
  below_binders k l r (x ∷ xs) = below_binders (in_binder x k) (in_binder x l) (below_binder k l r x) xs

  pub below_group : (k l : Counts) → R k l → (xs : NBinds) → R (in_group xs k) (in_group xs l)
  below_group k l r NoNBinds = r
  below_group k l r (MoreNBinds x xs) = below_group (in_value k) (in_value l) (f.in_value k l r) xs

  pub below_joins : (k l : Counts) → R k l → (xs : NJoins) → R (in_joins xs k) (in_joins xs l)
  below_joins k l r NoNJoins = r
  below_joins k l r (MoreNJoins x xs) = below_joins (in_join k) (in_join l) (f.in_join k l r) xs

  if_either : (x : Bool) (i j k l : Counts) → R i j → R k l → R (if x then i else k) (if x then j else l)
  if_either true i j k l q r = q
  if_either false i j k l q r = r

  pub both_binders : (k l : Counts) → R k l → (xs : List NBinder) → HoldsBinders A k xs → HoldsBinders B k xs → HoldsBinders C l xs
  both_binders k l r [] a b = tt
  both_binders k l r (x ∷ xs) a b = (both_binder k l r x a.0 b.0, both_binders (in_binder x k) (in_binder x l) (below_binder k l r x) xs a.1 b.1)

  pub both_head : (h : Head) → HoldsHead A h → HoldsHead B h → HoldsHead C h
  both_head head.Default a b = tt
  both_head (head.Lit n) a b = tt
  both_head (head.Con n) a b = f.constructor n a b

  mutual
    pub both_expr : (k l : Counts) → R k l → (e : NExpr) → HoldsExpr A k e → HoldsExpr B k e → HoldsExpr C l e
    both_expr k l r (NLocal i) a b = f.value_at k l i r a b
    both_expr k l r (NVar n) a b = f.definition n a b
    both_expr k l r (NLit n) a b = tt
    both_expr k l r (NApp e x) a b = (both_expr k l r e a.0 b.0, both_arg k l r x a.1 b.1)
    both_expr k l r (NLam x e) a b = (both_binder k l r x a.0 b.0, both_expr (in_binder x k) (in_binder x l) (below_binder k l r x) e a.1 b.1)
    both_expr k l r (NLet x bs e) a b =
        let q = below_group k l r bs in
        (both_binds (if x then in_group bs k else k) (if x then in_group bs l else l) (if_either x (in_group bs k) (in_group bs l) k l q r) bs a.0 b.0, both_expr (in_group bs k) (in_group bs l) q e a.1 b.1)
    both_expr k l r (NCase e t u alts) a b =
        (both_expr k l r e a.0 b.0, both_ty k l r t a.1 b.1, both_ty k l r u a.2 b.2, both_alts (in_value k) (in_value l) (f.in_value k l r) alts a.3 b.3)
    both_expr k l r (NCast e g) a b = (both_expr k l r e a.0 b.0, both_co k l r g a.1 b.1)
    both_expr k l r (NCon n args) a b = (f.constructor n a.0 b.0, both_args k l r args a.1 b.1)
    both_expr k l r (NPrim op es) a b = both_exprs k l r es a b
    both_expr k l r (NFail t) a b = both_ty k l r t a b
    both_expr k l r (NJoin x t js e) a b =
        let q = below_joins k l r js in (
          both_ty k l r t a.0 b.0,
          both_joins (if x then in_joins js k else k) (if x then in_joins js l else l) (if_either x (in_joins js k) (in_joins js l) k l q r) js a.1 b.1,
          both_expr (in_joins js k) (in_joins js l) q e a.2 b.2,
        )
    both_expr k l r (NJump i args) a b = (f.join_at k l i r a.0 b.0, both_args k l r args a.1 b.1)

    pub both_arg : (k l : Counts) → R k l → (x : NArg) → HoldsArg A k x → HoldsArg B k x → HoldsArg C l x
    both_arg k l r (NATerm e) a b = both_expr k l r e a b
    both_arg k l r (NAType t) a b = both_ty k l r t a b
    both_arg k l r (NACo g) a b = both_co k l r g a b

    pub both_args : (k l : Counts) → R k l → (xs : NArgs) → HoldsArgs A k xs → HoldsArgs B k xs → HoldsArgs C l xs
    both_args k l r NoNArgs a b = tt
    both_args k l r (MoreNArgs x xs) a b = (both_arg k l r x a.0 b.0, both_args k l r xs a.1 b.1)

    pub both_exprs : (k l : Counts) → R k l → (es : NExprs) → HoldsExprs A k es → HoldsExprs B k es → HoldsExprs C l es
    both_exprs k l r NoNExprs a b = tt
    both_exprs k l r (MoreNExprs e es) a b = (both_expr k l r e a.0 b.0, both_exprs k l r es a.1 b.1)

    pub both_bind : (k l : Counts) → R k l → (x : NBind) → HoldsBind A k x → HoldsBind B k x → HoldsBind C l x
    both_bind k l r (NBound t e) a b = (both_ty k l r t a.0 b.0, both_expr k l r e a.1 b.1)

    pub both_binds : (k l : Counts) → R k l → (xs : NBinds) → HoldsBinds A k xs → HoldsBinds B k xs → HoldsBinds C l xs
    both_binds k l r NoNBinds a b = tt
    both_binds k l r (MoreNBinds x xs) a b = (both_bind k l r x a.0 b.0, both_binds k l r xs a.1 b.1)

    pub both_join : (k l : Counts) → R k l → (j : NJoinBind) → HoldsJoin A k j → HoldsJoin B k j → HoldsJoin C l j
    both_join k l r (NJoined xs e) a b = (both_binders k l r xs a.0 b.0, both_expr (in_binders xs k) (in_binders xs l) (below_binders k l r xs) e a.1 b.1)

    pub both_joins : (k l : Counts) → R k l → (js : NJoins) → HoldsJoins A k js → HoldsJoins B k js → HoldsJoins C l js
    both_joins k l r NoNJoins a b = tt
    both_joins k l r (MoreNJoins j js) a b = (both_join k l r j a.0 b.0, both_joins k l r js a.1 b.1)

    pub both_alt : (k l : Counts) → R k l → (x : NAlt) → HoldsAlt A k x → HoldsAlt B k x → HoldsAlt C l x
    both_alt k l r (NBranch h xs e) a b =
        (both_head h a.0 b.0, both_binders k l r xs a.1 b.1, both_expr (in_binders xs k) (in_binders xs l) (below_binders k l r xs) e a.2 b.2)

    pub both_alts : (k l : Counts) → R k l → (xs : NAlts) → HoldsAlts A k xs → HoldsAlts B k xs → HoldsAlts C l xs
    both_alts k l r NoNAlts a b = tt
    both_alts k l r (MoreNAlts x xs) a b = (both_alt k l r x a.0 b.0, both_alts k l r xs a.1 b.1)

  pub both_con : (k l : Counts) → R k l → (c : NConDecl) → HoldsCon A k c → HoldsCon B k c → HoldsCon C l c
  both_con k l r (NConOf n xs ts) a b = (both_binders k l r xs a.0 b.0, both_tys (in_binders xs k) (in_binders xs l) (below_binders k l r xs) ts a.1 b.1)

  pub both_cons : (k l : Counts) → R k l → (cs : List NConDecl) → HoldsCons A k cs → HoldsCons B k cs → HoldsCons C l cs
  both_cons k l r [] a b = tt
  both_cons k l r (c ∷ cs) a b = (both_con k l r c a.0 b.0, both_cons k l r cs a.1 b.1)
