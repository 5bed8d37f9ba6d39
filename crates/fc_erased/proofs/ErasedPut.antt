-- Erasure commutes with putting in whatever keeps its erasure past binders.
use Rattle.std.proofs.Common.{◌≡◌, ℕ, zero, suc, true, false, List, [], ◌∷◌, length, refl, sym, ap, ap₂, ◌∙◌}
use Rattle.fc_syntax.specs.Tree.{Kind}
use Rattle.fc_syntax.specs.declared.ty.Role.{Role}
use Rattle.fc_model.specs.Erasure.{Scope, sort_of_type, sort_of, below_value, below_unnamed, below_join, below_all, below_binds, below_joins, binder_sorts, lambdas, arg_sorts, coercion_token}
use Rattle.fc_model.specs.Erasure.{erased, erased_args, applied, erased_lets, erased_rights, erased_join_lets, erased_joins, erased_alts}
use Rattle.fc_model.specs.Nameless.{NTy, NBinder, NBValue, NBType, NBCo}
use Rattle.fc_model.specs.Nameless.{NExpr, NLocal, NVar, NLit, NApp, NLam, NLet, NCase, NCast, NCon, NPrim, NFail, NJoin, NJump}
use Rattle.fc_model.specs.Nameless.{NATerm, NAType, NACo, NBound, NJoined, NBranch}
use Rattle.fc_model.specs.Nameless.{NoNExprs, MoreNExprs, NArgs, NoNArgs, MoreNArgs, NBinds, NoNBinds, MoreNBinds, NJoins, NoNJoins, MoreNJoins, NAlts, NoNAlts, MoreNAlts}
use Rattle.fc_model.specs.Replacing.{Standing, StandingCoercion, Replacement, bind_count, join_count, put_in, put_in_args, put_in_binds, put_in_joins, put_in_alts}
use Rattle.fc_model.specs.Replacing.{below_binder, below_binders, below_values, replaced_binders}
use Rattle.fc_model.specs.Replacing.{below_joins as past_joins}
use Rattle.fc_model.specs.Substituting.{substituted_type}
use Rattle.fc_model.specs.Terms.{Sort, Lifted, Unlifted, Term, App, Lam, Let, Rec, Case, Con, Prim, Cons, Alt}
use Rattle.fc_model.specs.Terms.{ren, shift, sub, sub_terms, sub_alts, up, ups, upr}
use Rattle.fc_meaning.proofs.SortsOfTypes.{AreLifted, lifted_below, sort_of_substituted}
use Rattle.fc_meaning.proofs.WrittenExpressions.{AreAltsWritten, AreArgsWritten, AreBindsWritten, AreJoinsWritten, IsWritten}
use Rattle.fc_erased.specs.Erasing.{Erases}
use Rattle.fc_erased.proofs.ErasedBinders.{binder_sorts_put, equal_applications, sub_lambdas, sub_group, rights_count, joins_count, own_binders, same_head, sub_bodies}
use Rattle.fc_erased.proofs.KeptErasures.{IsKept}

module _ {V W : Type 0} (how : Standing V) (proofs : StandingCoercion W) (Good : V → Type 0) (kept : IsKept how Good) where
  abbrev Replacements : Type 0
  Replacements = Replacement V W

  abbrev Commutes : Scope → Scope → Replacements → (ℕ → Term) → Type 0
  Commutes c d r p = Erases how Good c d r p

  -- BELOW BINDERS

  erases_unnamed : (c d : Scope) (r : Replacements) (p : ℕ → Term) → Commutes c d r p → Commutes (below_unnamed c) (below_unnamed d) r (up p)
  unfolding up shift ren
  erases_unnamed c d r p w = record {
    good = w.good;
    values = λ i. kept.unnamed c (r.values i) (w.good i) ∙ ap shift (w.values i);
    sorts = λ i. kept.sort_unnamed c (r.values i) ∙ w.sorts i;
    joins = λ i. ap shift (w.joins i);
    types = w.types;
  }

  pub erases_value : (s o : Sort) → s ≡ o → (c d : Scope) (r : Replacements) (p : ℕ → Term) → Commutes c d r p → Commutes (below_value s c) (below_value o d) (below_values how proofs 1 r) (up p)
  unfolding up upr shift ren
  erases_value s o e c d r p w = record {
    good = elim [ zero ↦ kept.good_innermost | suc i ↦ kept.good_value (r.values i) (w.good i) ];
    values = elim [ zero ↦ kept.innermost s c | suc i ↦ kept.past_value s c (r.values i) (w.good i) ∙ ap shift (w.values i) ];
    sorts = elim [ zero ↦ kept.sort_innermost s c ∙ e | suc i ↦ kept.sort_value s c (r.values i) ∙ w.sorts i ];
    joins = λ i. ap shift (w.joins i);
    types = w.types;
  }

  erases_type : (k : Kind) (c d : Scope) (r : Replacements) (p : ℕ → Term) → Commutes c d r p → Commutes c d (below_binder how proofs (NBType k) r) p
  erases_type k c d r p w = record {
    good = λ i. kept.good_type (r.values i) (w.good i);
    values = λ i. kept.past_type c (r.values i) (w.good i) ∙ w.values i;
    sorts = λ i. kept.sort_type c (r.values i) ∙ w.sorts i;
    joins = w.joins;
    types = lifted_below r.types w.types;
  }

  erases_coercion : (q : Role) (t u : NTy) (c d : Scope) (r : Replacements) (p : ℕ → Term) → Commutes c d r p
      → Commutes (below_unnamed c) (below_unnamed d) (below_binder how proofs (NBCo q t u) r) (up p)
  unfolding up shift ren
  erases_coercion q t u c d r p w = record {
    good = λ i. kept.good_coercion (r.values i) (w.good i);
    values = λ i. kept.past_coercion c (r.values i) (w.good i) ∙ ap shift (w.values i);
    sorts = λ i. kept.sort_coercion c (r.values i) ∙ w.sorts i;
    joins = λ i. ap shift (w.joins i);
    types = w.types;
  }

  pub erases_join : (c d : Scope) (r : Replacements) (p : ℕ → Term) → Commutes c d r p → Commutes (below_join c) (below_join d) (past_joins how proofs 1 r) (up p)
  unfolding up upr shift ren
  erases_join c d r p w = record {
    good = λ i. kept.good_join (r.values i) (w.good i);
    values = λ i. kept.past_join c (r.values i) (w.good i) ∙ ap shift (w.values i);
    sorts = λ i. kept.sort_join c (r.values i) ∙ w.sorts i;
    joins = elim [ zero ↦ refl | suc i ↦ ap shift (w.joins i) ];
    types = w.types;
  }

  pub erases_all : (bs : List NBinder) (c d : Scope) (r : Replacements) (p : ℕ → Term) → Commutes c d r p
      → Commutes (below_all (replaced_binders r.types bs) c) (below_all bs d) (below_binders how proofs bs r) (ups (length (binder_sorts bs)) p)
  unfolding ups
  erases_all [] c d r p w = w
  erases_all (NBValue t ∷ bs) c d r p w =
      erases_all bs (below_value (sort_of_type (substituted_type r.types t)) c) (below_value (sort_of_type t) d) (below_binder how proofs (NBValue t) r) (up p)
      (erases_value _ _ (sort_of_substituted r.types w.types t) c d r p w)
  erases_all (NBType k ∷ bs) c d r p w = erases_all bs c d (below_binder how proofs (NBType k) r) p (erases_type k c d r p w)
  erases_all (NBCo q t u ∷ bs) c d r p w = erases_all bs (below_unnamed c) (below_unnamed d) (below_binder how proofs (NBCo q t u) r) (up p) (erases_coercion q t u c d r p w)

  -- below the binders of a let, in which the types of x are put
  erases_binds : (bs : NBinds) (x : Replacements) → AreLifted x.types → (c d : Scope) (r : Replacements) (p : ℕ → Term) → Commutes c d r p
      → Commutes (below_binds (put_in_binds how proofs x bs) c) (below_binds bs d) (below_values how proofs (bind_count bs) r) (ups (bind_count bs) p)
  unfolding ups
  erases_binds NoNBinds x l c d r p w = w
  erases_binds (MoreNBinds (NBound t e) rest) x l c d r p w =
      erases_binds rest x l (below_value (sort_of_type (substituted_type x.types t)) c) (below_value (sort_of_type t) d) (below_values how proofs 1 r) (up p)
      (erases_value _ _ (sort_of_substituted x.types l t) c d r p w)

  erases_joins : (js : NJoins) (x : Replacements) (c d : Scope) (r : Replacements) (p : ℕ → Term) → Commutes c d r p
      → Commutes (below_joins (put_in_joins how proofs x js) c) (below_joins js d) (past_joins how proofs (join_count js) r) (ups (join_count js) p)
  unfolding ups
  erases_joins NoNJoins x c d r p w = w
  erases_joins (MoreNJoins (NJoined ps e) rest) x c d r p w = erases_joins rest x (below_join c) (below_join d) (past_joins how proofs 1 r) (up p) (erases_join c d r p w)

  -- EXPRESSIONS

  -- the sort that is read off
  pub sort_put : (c d : Scope) (r : Replacements) (p : ℕ → Term) → Commutes c d r p → (e : NExpr) → sort_of c (put_in how proofs r e) ≡ sort_of d e
  sort_put c d r p w (NLocal i) = w.sorts i
  sort_put c d r p w _ = refl

  pub arg_sorts_put : (c d : Scope) (r : Replacements) (p : ℕ → Term) → Commutes c d r p → (args : NArgs) → arg_sorts c (put_in_args how proofs r args) ≡ arg_sorts d args
  arg_sorts_put c d r p w NoNArgs = refl
  arg_sorts_put c d r p w (MoreNArgs (NATerm e) rest) = ap₂ ◌∷◌ (sort_put c d r p w e) (arg_sorts_put c d r p w rest)
  arg_sorts_put c d r p w (MoreNArgs (NAType t) rest) = arg_sorts_put c d r p w rest
  arg_sorts_put c d r p w (MoreNArgs (NACo g) rest) = ap (λ ss. Unlifted ∷ ss) (arg_sorts_put c d r p w rest)

  -- the right side of a join point
  pub lambdas_put : (c d : Scope) (r : Replacements) (p : ℕ → Term) → Commutes c d r p → (ps : List NBinder) (e : NExpr)
      → erased (below_all (replaced_binders r.types ps) c) (put_in how proofs (below_binders how proofs ps r) e) ≡ sub (ups (length (binder_sorts ps)) p) (erased (below_all ps d) e)
      → lambdas (binder_sorts (replaced_binders r.types ps)) (erased (below_all (replaced_binders r.types ps) c) (put_in how proofs (below_binders how proofs ps r) e)) ≡ sub p
      (lambdas (binder_sorts ps) (erased (below_all ps d) e))
  lambdas_put c d r p w ps e h = ap₂ lambdas (binder_sorts_put ps r.types w.types) h ∙ sym (sub_lambdas (binder_sorts ps) p (erased (below_all ps d) e))

  mutual
    unfolding sub ups

    pub erased_put : (c d : Scope) (r : Replacements) (p : ℕ → Term) → Commutes c d r p → (e : NExpr) → IsWritten e → erased c (put_in how proofs r e) ≡ sub p (erased d e)
    erased_put c d r p w (NLocal i) o = w.values i
    erased_put c d r p w (NVar n) o = refl
    erased_put c d r p w (NLit n) o = refl
    erased_put c d r p w (NApp f (NATerm a)) o = equal_applications (sort_put c d r p w a) (erased_put c d r p w f o.0) (erased_put c d r p w a o.1)
    erased_put c d r p w (NApp f (NAType t)) o = erased_put c d r p w f o.0
    erased_put c d r p w (NApp f (NACo g)) o = ap (λ x. App Unlifted x coercion_token) (erased_put c d r p w f o.0)
    erased_put c d r p w (NLam (NBValue t) e) o =
        let s = sort_of_substituted r.types w.types t in
        ap₂ Lam s
        (erased_put (below_value (sort_of_type (substituted_type r.types t)) c) (below_value (sort_of_type t) d) (below_binder how proofs (NBValue t) r) (up p) (erases_value _ _ s c d r p w) e o)
    erased_put c d r p w (NLam (NBType k) e) o = erased_put c d (below_binder how proofs (NBType k) r) p (erases_type k c d r p w) e o
    erased_put c d r p w (NLam (NBCo q t u) e) o =
        ap (Lam Unlifted) (erased_put (below_unnamed c) (below_unnamed d) (below_binder how proofs (NBCo q t u) r) (up p) (erases_coercion q t u c d r p w) e o)
    erased_put c d r p w (NLet true bs e) o =
        let x = below_values how proofs (bind_count bs) r in
        let v = erases_binds bs x w.types c d r p w in
        ap₂ Rec (rights_put (below_binds (put_in_binds how proofs x bs) c) (below_binds bs d) x (ups (bind_count bs) p) v bs o.1)
        (erased_put (below_binds (put_in_binds how proofs x bs) c) (below_binds bs d) x (ups (bind_count bs) p) v e o.2)
        ∙ sym (sub_group (bind_count bs) p (erased_rights (below_binds bs d) bs) (erased (below_binds bs d) e) (rights_count (below_binds bs d) bs))
    erased_put c d r p w (NLet false bs e) o =
        let x = below_values how proofs (bind_count bs) r in
        lets_put c d r p w bs o.1 _ _ (erased_put (below_binds (put_in_binds how proofs r bs) c) (below_binds bs d) x (ups (bind_count bs) p) (erases_binds bs r w.types c d r p w) e o.2)
    erased_put c d r p w (NCase e xt rt alts) o =
        let s = sort_of_substituted r.types w.types xt in
        λ i. Case (s i) (erased_put c d r p w e o.0 i)
        (alts_put (below_value (sort_of_type (substituted_type r.types xt)) c) (below_value (sort_of_type xt) d) (below_values how proofs 1 r) p (erases_value _ _ s c d r p w) alts o.1 i)
    erased_put c d r p w (NCast e g) o = erased_put c d r p w e o
    erased_put c d r p w (NCon n args) o = ap₂ (Con n) (arg_sorts_put c d r p w args) (args_put c d r p w args o)
    erased_put c d r p w (NPrim op NoNExprs) o = refl
    erased_put c d r p w (NPrim op (MoreNExprs a NoNExprs)) o = refl
    erased_put c d r p w (NPrim op (MoreNExprs a (MoreNExprs b NoNExprs))) o = ap₂ (Prim op) (erased_put c d r p w a o.0) (erased_put c d r p w b o.1.0)
    erased_put c d r p w (NPrim op (MoreNExprs a (MoreNExprs b (MoreNExprs e rest)))) o = refl
    erased_put c d r p w (NFail t) o = refl
    erased_put c d r p w (NJoin true t js e) o =
        let x = past_joins how proofs (join_count js) r in
        let v = erases_joins js x c d r p w in
        ap₂ Rec (joins_put (below_joins (put_in_joins how proofs x js) c) (below_joins js d) x (ups (join_count js) p) v js o.1)
        (erased_put (below_joins (put_in_joins how proofs x js) c) (below_joins js d) x (ups (join_count js) p) v e o.2)
        ∙ sym (sub_group (join_count js) p (erased_joins (below_joins js d) js) (erased (below_joins js d) e) (joins_count (below_joins js d) js))
    erased_put c d r p w (NJoin false t js e) o =
        let x = past_joins how proofs (join_count js) r in
        join_lets_put c d r p w js o.1 _ _ (erased_put (below_joins (put_in_joins how proofs r js) c) (below_joins js d) x (ups (join_count js) p) (erases_joins js r c d r p w) e o.2)
    erased_put c d r p w (NJump i args) o = applied_put c d r p w args o _ _ (sym (w.joins i))

    pub args_put : (c d : Scope) (r : Replacements) (p : ℕ → Term) → Commutes c d r p → (args : NArgs) → AreArgsWritten args
        → erased_args c (put_in_args how proofs r args) ≡ sub_terms p (erased_args d args)
    args_put c d r p w NoNArgs o = refl
    args_put c d r p w (MoreNArgs (NATerm e) rest) o = ap₂ Cons (erased_put c d r p w e o.0) (args_put c d r p w rest o.1)
    args_put c d r p w (MoreNArgs (NAType t) rest) o = args_put c d r p w rest o.1
    args_put c d r p w (MoreNArgs (NACo g) rest) o = ap (Cons coercion_token) (args_put c d r p w rest o.1)

    applied_put : (c d : Scope) (r : Replacements) (p : ℕ → Term) → Commutes c d r p → (args : NArgs) → AreArgsWritten args → (t u : Term) → t ≡ sub p u
        → applied c t (put_in_args how proofs r args) ≡ sub p (applied d u args)
    applied_put c d r p w NoNArgs o t u h = h
    applied_put c d r p w (MoreNArgs (NATerm e) rest) o t u h = applied_put c d r p w rest o.1 _ _ (equal_applications (sort_put c d r p w e) h (erased_put c d r p w e o.0))
    applied_put c d r p w (MoreNArgs (NAType v) rest) o t u h = applied_put c d r p w rest o.1 t u h
    applied_put c d r p w (MoreNArgs (NACo g) rest) o t u h = applied_put c d r p w rest o.1 _ _ (ap (λ x. App Unlifted x coercion_token) h)

    pub lets_put : (c d : Scope) (r : Replacements) (p : ℕ → Term) → Commutes c d r p → (bs : NBinds) → AreBindsWritten bs → (t u : Term) → t ≡ sub (ups (bind_count bs) p) u
        → erased_lets c (put_in_binds how proofs r bs) t ≡ sub p (erased_lets d bs u)
    lets_put c d r p w NoNBinds o t u h = h
    lets_put c d r p w (MoreNBinds (NBound v e) rest) o t u h =
        λ i. Let (sort_of_substituted r.types w.types v i) (erased_put c d r p w e o.0 i) (lets_put (below_unnamed c) (below_unnamed d) r (up p) (erases_unnamed c d r p w) rest o.1 t u h i)

    rights_put : (c d : Scope) (r : Replacements) (p : ℕ → Term) → Commutes c d r p → (bs : NBinds) → AreBindsWritten bs
        → erased_rights c (put_in_binds how proofs r bs) ≡ sub_terms p (erased_rights d bs)
    rights_put c d r p w NoNBinds o = refl
    rights_put c d r p w (MoreNBinds (NBound v e) rest) o = ap₂ Cons (erased_put c d r p w e o.0) (rights_put c d r p w rest o.1)

    join_lets_put : (c d : Scope) (r : Replacements) (p : ℕ → Term) → Commutes c d r p → (js : NJoins) → AreJoinsWritten js → (t u : Term) → t ≡ sub (ups (join_count js) p) u
        → erased_join_lets c (put_in_joins how proofs r js) t ≡ sub p (erased_join_lets d js u)
    join_lets_put c d r p w NoNJoins o t u h = h
    join_lets_put c d r p w (MoreNJoins (NJoined ps e) rest) o t u h =
        let right = erased_put (below_all (replaced_binders r.types ps) c) (below_all ps d) (below_binders how proofs ps r) (ups (length (binder_sorts ps)) p) (erases_all ps c d r p w) e o.0 in
        ap₂ (Let Lifted) (lambdas_put c d r p w ps e right) (join_lets_put (below_unnamed c) (below_unnamed d) r (up p) (erases_unnamed c d r p w) rest o.1 t u h)

    joins_put : (c d : Scope) (r : Replacements) (p : ℕ → Term) → Commutes c d r p → (js : NJoins) → AreJoinsWritten js
        → erased_joins c (put_in_joins how proofs r js) ≡ sub_terms p (erased_joins d js)
    joins_put c d r p w NoNJoins o = refl
    joins_put c d r p w (MoreNJoins (NJoined ps e) rest) o =
        let right = erased_put (below_all (replaced_binders r.types ps) c) (below_all ps d) (below_binders how proofs ps r) (ups (length (binder_sorts ps)) p) (erases_all ps c d r p w) e o.0 in
        ap₂ Cons (lambdas_put c d r p w ps e right) (joins_put c d r p w rest o.1)

    pub alts_put : (c d : Scope) (r : Replacements) (p : ℕ → Term) → Commutes c d r (up p) → (alts : NAlts) → AreAltsWritten alts
        → erased_alts c (put_in_alts how proofs r alts) ≡ sub_alts p (erased_alts d alts)
    alts_put c d r p w NoNAlts o = refl
    alts_put c d r p w (MoreNAlts (NBranch h bs e) rest) o =
        let n = own_binders h bs o.0 in
        let b = erased_put (below_all (replaced_binders r.types bs) c) (below_all bs d) (below_binders how proofs bs r) (ups (length (binder_sorts bs)) (up p)) (erases_all bs c d r (up p) w) e o.1 in
        λ i. Alt (same_head h (replaced_binders r.types bs) bs (binder_sorts_put bs r.types w.types) i) ((b ∙ ap (λ m. sub (ups m (up p)) (erased (below_all bs d) e)) (sym n)) i)
        (alts_put c d r p w rest o.2 i)

  -- alternatives without the binder of their case
  pub bodies_put : (c d : Scope) (r : Replacements) (p : ℕ → Term) → Commutes c d r p → (alts : NAlts) → AreAltsWritten alts
      → erased_alts c (put_in_alts how proofs r alts) ≡ sub_bodies p (erased_alts d alts)
  unfolding sub_bodies
  bodies_put c d r p w NoNAlts o = refl
  bodies_put c d r p w (MoreNAlts (NBranch h bs e) rest) o =
      let n = own_binders h bs o.0 in
      let b = erased_put (below_all (replaced_binders r.types bs) c) (below_all bs d) (below_binders how proofs bs r) (ups (length (binder_sorts bs)) p) (erases_all bs c d r p w) e o.1 in
      λ i. Alt (same_head h (replaced_binders r.types bs) bs (binder_sorts_put bs r.types w.types) i) ((b ∙ ap (λ m. sub (ups m p) (erased (below_all bs d) e)) (sym n)) i)
      (bodies_put c d r p w rest o.2 i)
