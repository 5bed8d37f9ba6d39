-- Named expressions by their parts: one step a form.
use Rattle.std.proofs.Common.{◌≡◌, ◌<◌, ◌+◌, ◌++◌, ℕ, ℤ, Bool, true, false, List, [], ◌∷◌, take, length, get_or, Option, Some, None, Ok, bytes_eq, if◌then◌else◌, refl, sym, ap, ◌∙◌, subst, arith}
use Rattle.std.specs.List.{list_all}
use Rattle.std.proofs.lemmas.Bool.{and_parts}
use Rattle.fc_syntax.specs.declared.ty.Name.{Name}
use Rattle.fc_syntax.specs.declared.ty.Ref.{Ref}
use Rattle.fc_syntax.specs.declared.ty.Ref.TheVariants as ref
use Rattle.fc_syntax.specs.declared.expr.Head.{Head}
use Rattle.fc_syntax.specs.declared.expr.Head.TheVariants as head
use Rattle.fc_syntax.specs.declared.expr.PrimOp.{PrimOp}
use Rattle.fc_syntax.specs.declared.expr.Arg as A
use Rattle.fc_syntax.specs.declared.expr.Bind as RustBind
use Rattle.fc_syntax.specs.declared.expr.JoinBind as RustJoin
use Rattle.fc_syntax.specs.declared.expr.Alt as RustAlt
use Rattle.fc_syntax.specs.declared.expr.Expr as E
use Rattle.fc_syntax.specs.View.{ty_of, binders_of, expr_of, exprs_of, arg_of, args_of, binds_of, joins_of, alts_of}
use Rattle.fc_syntax.specs.Tree.{Word, Ty, Co, Arg, ATerm, AType, ACo}
use Rattle.fc_syntax.specs.Tree.{Expr, EVar, ELit, EApp, ELet, ECase, ECast, ECon, EPrim, EFail, EJoin, EJump, Exprs, Args, Binds, Joins, Alts}
use Rattle.fc_model.specs.Formed.{binder_formed, expr_formed, head_formed, joins_formed, is_bind_group, is_empty_list, is_join_group, is_literal_formed, is_lower_word, is_module_formed, is_upper_formed, named_words}
use Rattle.fc_model.specs.Nameless.{NExpr, NVar, NCon, NBinds, NJoins}
use Rattle.fc_model.specs.NamelessView.{nbinds_of, njoins_of}
use Rattle.fc_model.specs.Resolution.{Top, Locals, Value, Join, IsValue, IsJoin, Words, WordSet, no_word, plus, declared_name, found_term, with_term, enter_values, enter_joins, bind_words, join_words}
use Rattle.fc_model.specs.ResolutionRules.{AreDistinct, no_words_left, one_word_more, ResolvesExpr, ResolvesHead, ResolvesBinds, ResolvesJoins}
use Rattle.fc_model.specs.ResolutionRules.{resolves_default, resolves_literal_head, resolves_constructor_head, resolves_local, resolves_definition, resolves_imported, resolves_literal, resolves_application, resolves_let, resolves_case, resolves_cast, resolves_constructor, resolves_primitive, resolves_fail, resolves_join, resolves_jump}
use Rattle.fc_model.specs.ResolutionRules.{resolves_term, resolves_type, resolves_coercion, resolves_no_args, resolves_args, resolves_no_exprs, resolves_exprs, resolves_no_binds, resolves_binds, resolves_no_joins, resolves_joins, resolves_no_alts, resolves_alts}
use Rattle.fc_model.specs.Worded.{WTy, WCo, WBinder, WExpr, WArg, WArgs, WExprs, WBinds, WJoins, WAlts, bare_expr, bare_args, bare_joins, bare_alts}
use Rattle.fc_model.proofs.Sameness.{false_true}
use Rattle.fc_scope.specs.WordsAt.{join_word, value_word}
use Rattle.fc_formed.specs.FormedTrees.{bare_words}
use Rattle.fc_used_words.specs.Scoped.{HoldsExpr, HoldsBinds, HoldsJoins, in_group, in_joins, in_value, in_join, nothing_around}
use Rattle.fc_used_words.specs.Standing.{is_found, is_found_by, more_terms, outside, short}
use Rattle.fc_used_words.proofs.Both.{below_group, below_joins, both_binds, both_expr, both_joins}
use Rattle.fc_used_words.proofs.Collecting.{take_item}
use Rattle.fc_used_words.proofs.Keeping.{by_test}
use Rattle.fc_naming.specs.Named.{AreLower, IsWritten, MayTakeAlts, IsNamedTy, IsNamedCo, IsNamedHead, IsNamedExpr, IsNamedArg, IsNamedArgs, IsNamedExprs, IsNamedBinds, IsNamedJoins, IsNamedBelow, IsNamedAlts, LetUses, JoinUses}
use Rattle.fc_naming.proofs.Each.{AreEach, each_more, each_none}
use Rattle.fc_naming.proofs.Lower.{and_keeps, both, join_at, joins_lower, lower_written, term_lower, upper_written, value_at, values_lower, written_lower}
use Rattle.fc_naming.proofs.Naming.{found_by, takes_join, takes_value}

-- join points with an expression in whose scope they are
pub record IsNamedPoints (top : Top) (s : Locals) (r : Bool) (ns : WJoins) (n : WExpr) (js : Joins) (t : Expr) : Type 0 where
  pub joins : HoldsJoins (is_found top s) (if r then in_joins (bare_joins ns) nothing_around else nothing_around) (bare_joins ns)
      → HoldsExpr (is_found top s) (in_joins (bare_joins ns) nothing_around) (bare_expr n) → ResolvesJoins top (if r then enter_joins (join_words js) s else s) no_word js (bare_joins ns)
  pub body : HoldsExpr (is_found top s) (in_joins (bare_joins ns) nothing_around) (bare_expr n) → ResolvesExpr top (enter_joins (join_words js) s) t (bare_expr n)
  pub group : is_join_group r ns ≡ true → is_join_group r js ≡ true
  pub joins_stay : AreLower s → joins_formed bare_words ns ≡ true → joins_formed named_words js ≡ true
  pub body_stays : AreLower s → joins_formed bare_words ns ≡ true → expr_formed bare_words n ≡ true → expr_formed named_words t ≡ true

-- a name of the module itself, or another one
by_module : {Y : Type 0} (m : Option Word) → (m ≡ None → Y) → ((w : Word) → m ≡ Some w → Y) → Y
by_module None f g = f refl
by_module (Some w) f g = g w refl

-- only a constructor has binders
empty_binders : (ns : List WBinder) → is_empty_list ns ≡ true → list_all (binder_formed bare_words) ns ≡ true
empty_binders [] h = refl
empty_binders (n ∷ ns) h = false_true h

head_binders : (x : Head) (ns : List WBinder) → head_formed bare_words x ns ≡ true → list_all (binder_formed bare_words) ns ≡ true
head_binders head.Default ns h = empty_binders ns h
head_binders (head.Lit n) ns h = empty_binders ns (and_parts (is_literal_formed n) (is_empty_list ns) h).1
head_binders (head.Con n) ns h = (and_parts (is_upper_formed n) (list_all (binder_formed bare_words) ns) h).1

-- a group keeps its size
bind_group : {R : RustBind.Bind ℕ Ref → RustBind.Bind Word Name → Type 0} (r : Bool) (items : List (RustBind.Bind ℕ Ref)) (out : List (RustBind.Bind Word Name)) → AreEach R items out
    → is_bind_group r (binds_of items) ≡ true → is_bind_group r (binds_of out) ≡ true
bind_group false _ _ each_none h = h
bind_group false _ _ (each_more p each_none) h = refl
bind_group false _ _ (each_more p (each_more q rest)) h = h
bind_group true _ _ each_none h = h
bind_group true _ _ (each_more p rest) h = refl

join_group : {R : RustJoin.JoinBind ℕ Ref → RustJoin.JoinBind Word Name → Type 0} (r : Bool) (items : List (RustJoin.JoinBind ℕ Ref)) (out : List (RustJoin.JoinBind Word Name)) → AreEach R items out
    → is_join_group r (joins_of items) ≡ true → is_join_group r (joins_of out) ≡ true
join_group false _ _ each_none h = h
join_group false _ _ (each_more p each_none) h = refl
join_group false _ _ (each_more p (each_more q rest)) h = h
join_group true _ _ each_none h = h
join_group true _ _ (each_more p rest) h = refl

module _ {top : Top} {s : Locals} where
  -- VARIABLES

  pub named_local : {i : ℕ} {x : Name} → x.module ≡ None → IsWritten (value_word s.terms i) x.text → IsNamedExpr top s (EVar (ref.Local i)) (EVar x)
  named_local {i = i} {x = x} alone is = record {
    resolves = λ (w, at, found, any). resolves_local alone (subst (λ (v : Word). found_term s.terms v ≡ IsValue i) (sym (is.word w at)) found);
    formed = λ l h. both (ap is_module_formed alone) (written_lower (value_word s.terms i) x.text is (λ w. value_at s.terms i w l.terms));
  }

  pub named_definition : {x y : Name} → y ≡ short top.own x → IsNamedExpr top s (EVar (ref.Top x)) (EVar y)
  named_definition {x = x} {y = y} is = record {
    resolves = λ h. subst (λ (z : Name). ResolvesExpr top s (EVar z) (NVar x)) (sym is) (by_module (outside top.own x.module)
        (λ own. let e : short top.own x ≡ record { «module» = None; text = x.text } = ap (λ (m : Option Word). record { «module» = m; text = x.text }) own in
        resolves_definition own (h.1 own).0 (subst (λ (m : Option Word). declared_name top top.terms top.offers.terms m x.text ≡ Ok x) own h.0))
        (λ w far. resolves_imported w far (subst (λ (m : Option Word). declared_name top top.terms top.offers.terms m x.text ≡ Ok x) far h.0)));
    formed = λ l. lower_written top.own x is;
  }

  pub named_literal : {x : ℤ} → IsNamedExpr top s (ELit x) (ELit x)
  named_literal = record { resolves = λ h. resolves_literal; formed = λ l h. h }

  -- HEADS

  pub named_default : IsNamedHead top s head.Default head.Default
  named_default = record { resolves = λ h. resolves_default; formed = λ ns bs k. k.none }

  pub named_literal_head : {x : ℤ} → IsNamedHead top s (head.Lit x) (head.Lit x)
  named_literal_head = record { resolves = λ h. resolves_literal_head; formed = λ ns bs k. and_keeps (λ h. h) k.none }

  pub named_constructor_head : {x y : Name} → y ≡ short top.own x → IsNamedHead top s (head.Con x) (head.Con y)
  named_constructor_head {x = x} {y = y} is = record {
    resolves = λ h. subst (λ (z : Name). ResolvesHead top (head.Con z) (head.Con x)) (sym is) (resolves_constructor_head h);
    formed = λ ns bs k. and_keeps (upper_written top.own x is) k.formed;
  }

  -- FORMS

  pub named_application : {f : WExpr} {a : WArg} {g : Expr} {b : Arg} → IsNamedExpr top s f g → IsNamedArg top s a b → IsNamedExpr top s (EApp f a) (EApp g b)
  named_application p q = record { resolves = λ h. resolves_application (p.resolves h.0) (q.resolves h.1); formed = λ l. and_keeps (p.formed l) (q.formed l) }

  pub named_case : {e : WExpr} {w v : Word} {a b : WTy} {xs : WAlts} {f : Expr} {t u : Ty} {alts : Alts} → IsNamedExpr top s e f → IsNamedTy top s a t → IsNamedTy top s b u
      → MayTakeAlts top s w v (bare_alts xs) → IsNamedAlts top (with_term (Value v) s) xs alts → IsNamedExpr top s (ECase e w a b xs) (ECase f v t u alts)
  named_case {v = v} p q o m n = record {
    resolves = λ h. resolves_case (p.resolves h.0) (q.resolves h.1) (o.resolves h.2) (n.resolves (m.enters h.3));
    formed = λ l h.
        let k = and_parts _ _ h in
        let j = and_parts _ _ k.1 in
        both (p.formed l k.0) (both (both m.lower (and_keeps (q.formed l) (o.formed l) j.0)) (n.formed (term_lower (Value v) l m.lower) j.1));
  }

  pub named_cast : {e : WExpr} {f : Expr} {a : WCo} {g : Co} → IsNamedExpr top s e f → IsNamedCo top s a g → IsNamedExpr top s (ECast e a) (ECast f g)
  named_cast p q = record { resolves = λ h. resolves_cast (p.resolves h.0) (q.resolves h.1); formed = λ l. and_keeps (p.formed l) (q.formed l) }

  pub named_constructor : {x y : Name} {xs : WArgs} {args : Args} → y ≡ short top.own x → IsNamedArgs top s xs args → IsNamedExpr top s (ECon x xs) (ECon y args)
  named_constructor {x = x} {xs = xs} {args = args} is p = record {
    resolves = λ h. subst (λ (z : Name). ResolvesExpr top s (ECon z args) (NCon x (bare_args xs))) (sym is) (resolves_constructor h.0 (p.resolves h.1));
    formed = λ l. and_keeps (upper_written top.own x is) (p.formed l);
  }

  pub named_primitive : {op : PrimOp} {es : WExprs} {fs : Exprs} → IsNamedExprs top s es fs → IsNamedExpr top s (EPrim op es) (EPrim op fs)
  named_primitive p = record { resolves = λ h. resolves_primitive (p.resolves h); formed = p.formed }

  pub named_fail : {a : WTy} {t : Ty} → IsNamedTy top s a t → IsNamedExpr top s (EFail a) (EFail t)
  named_fail p = record { resolves = λ h. resolves_fail (p.resolves h); formed = p.formed }

  pub named_join : {r : Bool} {a : WTy} {t : Ty} {ks : WJoins} {js : Joins} {e : WExpr} {f : Expr} → IsNamedTy top s a t → IsNamedPoints top s r ks e js f → IsNamedExpr top s (EJoin r a ks e) (EJoin r t js f)
  named_join p q = record {
    resolves = λ h. resolves_join (p.resolves h.0) (q.joins h.1 h.2) (q.body h.2);
    formed = λ l h.
        let k = and_parts _ _ h in
        let j = and_parts _ _ k.1 in
        let i = and_parts _ _ j.1 in
        both (q.group k.0) (both (p.formed l j.0) (both (q.joins_stay l i.0) (q.body_stays l i.0 i.1)));
  }

  pub named_jump : {i : ℕ} {v : Word} {xs : WArgs} {args : Args} → IsWritten (join_word s.terms i) v → IsNamedArgs top s xs args → IsNamedExpr top s (EJump i xs) (EJump v args)
  named_jump {i = i} {v = v} is p = record {
    resolves = λ h. resolves_jump (subst (λ (x : Word). found_term s.terms x ≡ IsJoin i) (sym (is.word h.0.0 h.0.1)) h.0.2) (p.resolves h.1);
    formed = λ l h. both (written_lower (join_word s.terms i) v is (λ w. join_at s.terms i w l.terms)) (p.formed l h);
  }

  -- ARGUMENTS

  pub named_term : {e : WExpr} {f : Expr} → IsNamedExpr top s e f → IsNamedArg top s (ATerm e) (ATerm f)
  named_term p = record { resolves = λ h. resolves_term (p.resolves h); formed = p.formed }

  pub named_type : {a : WTy} {t : Ty} → IsNamedTy top s a t → IsNamedArg top s (AType a) (AType t)
  named_type p = record { resolves = λ h. resolves_type (p.resolves h); formed = p.formed }

  pub named_coercion : {a : WCo} {g : Co} → IsNamedCo top s a g → IsNamedArg top s (ACo a) (ACo g)
  named_coercion p = record { resolves = λ h. resolves_coercion (p.resolves h); formed = p.formed }

  -- LISTS

  pub named_args : (items : List (A.Arg ℕ Ref)) (out : List (A.Arg Word Name)) → AreEach (λ x y. IsNamedArg top s (arg_of x) (arg_of y)) items out → IsNamedArgs top s (args_of items) (args_of out)
  named_args _ _ each_none = record { resolves = λ h. resolves_no_args; formed = λ l h. refl }
  named_args _ _ (each_more p rest) =
      let q = named_args _ _ rest in
      record { resolves = λ h. resolves_args (p.resolves h.0) (q.resolves h.1); formed = λ l. and_keeps (p.formed l) (q.formed l) }

  pub named_exprs : (items : List (E.Expr ℕ Ref)) (out : List (E.Expr Word Name)) → AreEach (λ x y. IsNamedExpr top s (expr_of x) (expr_of y)) items out → IsNamedExprs top s (exprs_of items) (exprs_of out)
  named_exprs _ _ each_none = record { resolves = λ h. resolves_no_exprs; formed = λ l h. refl }
  named_exprs _ _ (each_more p rest) =
      let q = named_exprs _ _ rest in
      record { resolves = λ h. resolves_exprs (p.resolves h.0) (q.resolves h.1); formed = λ l. and_keeps (p.formed l) (q.formed l) }

  bind_more : (x : RustBind.Bind ℕ Ref) (y : RustBind.Bind Word Name) (xs : List (RustBind.Bind ℕ Ref)) (ys : List (RustBind.Bind Word Name))
      → IsNamedTy top s (ty_of x.ty) (ty_of y.ty) × IsNamedExpr top s (expr_of x.rhs) (expr_of y.rhs) → IsNamedBinds top s (binds_of xs) (binds_of ys) → (earlier : WordSet)
      → AreDistinct earlier (bind_words (binds_of (y ∷ ys))) → HoldsBinds (is_found top s) nothing_around (nbinds_of (x ∷ xs)) → ResolvesBinds top s earlier (binds_of (y ∷ ys)) (nbinds_of (x ∷ xs))
  bind_more x y xs ys p rest earlier (one_word_more new d) h = resolves_binds new (p.0.resolves h.0.0) (p.1.resolves h.0.1) (rest.resolves (plus y.name earlier) d h.1)

  pub named_binds : (items : List (RustBind.Bind ℕ Ref)) (out : List (RustBind.Bind Word Name))
      → AreEach (λ x y. IsNamedTy top s (ty_of x.ty) (ty_of y.ty) × IsNamedExpr top s (expr_of x.rhs) (expr_of y.rhs)) items out → IsNamedBinds top s (binds_of items) (binds_of out)
  named_binds _ _ each_none = record { resolves = λ earlier d h. resolves_no_binds; group = λ r h. bind_group {R = λ x y. Unit {0}} r [] [] each_none h; formed = λ l ws h. refl }
  named_binds _ _ (each_more {x = x} {y = y} {xs = xs} {ys = ys} p rest) =
      let q = named_binds _ _ rest in
      record {
        resolves = λ earlier d h. bind_more x y xs ys p q earlier d h;
        group = λ r h. bind_group r (x ∷ xs) (y ∷ ys) (each_more p rest) h;
        formed = λ l ws h.
            let w = and_parts _ _ ws in
            let k = and_parts _ _ h in
            both (both w.0 (and_keeps (p.0.formed l) (p.1.formed l) k.0)) (q.formed l w.1 k.1);
      }

  join_more : (x : RustJoin.JoinBind ℕ Ref) (y : RustJoin.JoinBind Word Name) (xs : List (RustJoin.JoinBind ℕ Ref)) (ys : List (RustJoin.JoinBind Word Name))
      → IsNamedBelow top s (binders_of x.params) (expr_of x.rhs) (binders_of y.params) (expr_of y.rhs) → IsNamedJoins top s (joins_of xs) (joins_of ys) → (earlier : WordSet)
      → AreDistinct earlier (join_words (joins_of (y ∷ ys))) → HoldsJoins (is_found top s) nothing_around (njoins_of (x ∷ xs)) → ResolvesJoins top s earlier (joins_of (y ∷ ys)) (njoins_of (x ∷ xs))
  join_more x y xs ys p rest earlier (one_word_more new d) h = resolves_joins new (p.binders h.0.0 h.0.1) (p.body h.0.0 h.0.1) (rest.resolves (plus y.name earlier) d h.1)

  pub named_joins : (items : List (RustJoin.JoinBind ℕ Ref)) (out : List (RustJoin.JoinBind Word Name))
      → AreEach (λ x y. IsNamedBelow top s (binders_of x.params) (expr_of x.rhs) (binders_of y.params) (expr_of y.rhs)) items out → IsNamedJoins top s (joins_of items) (joins_of out)
  named_joins _ _ each_none = record { resolves = λ earlier d h. resolves_no_joins; group = λ r h. join_group {R = λ x y. Unit {0}} r [] [] each_none h; formed = λ l ws h. refl }
  named_joins _ _ (each_more {x = x} {y = y} {xs = xs} {ys = ys} p rest) =
      let q = named_joins _ _ rest in
      record {
        resolves = λ earlier d h. join_more x y xs ys p q earlier d h;
        group = λ r h. join_group r (x ∷ xs) (y ∷ ys) (each_more p rest) h;
        formed = λ l ws h.
            let w = and_parts _ _ ws in
            let k = and_parts _ _ h in
            let i = and_parts _ _ k.0 in
            both (both w.0 (both ((p.binders_formed l).formed i.0) (p.body_formed l i.0 i.1))) (q.formed l w.1 k.1);
      }

  pub named_alts : (items : List (RustAlt.Alt ℕ Ref)) (out : List (RustAlt.Alt Word Name))
      → AreEach (λ x y. IsNamedHead top s x.head y.head × IsNamedBelow top s (binders_of x.binders) (expr_of x.body) (binders_of y.binders) (expr_of y.body)) items out
      → IsNamedAlts top s (alts_of items) (alts_of out)
  named_alts _ _ each_none = record { resolves = λ h. resolves_no_alts; formed = λ l h. refl }
  named_alts _ _ (each_more {x = x} {y = y} p rest) =
      let q = named_alts _ _ rest in
      record {
        resolves = λ h. resolves_alts (p.0.resolves h.0.0) (p.1.binders h.0.1 h.0.2) (p.1.body h.0.1 h.0.2) (q.resolves h.1);
        formed = λ l h.
            let k = and_parts _ _ h in
            let j = and_parts _ _ k.0 in
            both (both (p.0.formed (binders_of x.binders) (binders_of y.binders) (p.1.binders_formed l) j.0) (p.1.body_formed l (head_binders x.head (binders_of x.binders) j.0) j.1)) (q.formed l k.1);
      }

-- GROUPS

module _ (top : Top) where
  values_expr : (s : Locals) (taken : Words) (items : List (RustBind.Bind ℕ Ref)) (vs : List Word) → length vs ≡ length items → AreDistinct taken.terms vs → (e : NExpr)
      → HoldsExpr (is_found_by top taken s) (in_group (nbinds_of items) nothing_around) e → HoldsExpr (is_found top (enter_values vs s)) nothing_around e
  values_expr s taken [] [] counted no_words_left e h = both_expr _ _ _ _ (found_by top taken s) nothing_around nothing_around refl e h h
  values_expr s taken (x ∷ items) (v ∷ vs) counted (one_word_more free rest) e h =
      let f = takes_value top taken s v free in
      values_expr (with_term (Value v) s) (more_terms v taken) items vs (omega arith) rest e
      (both_expr _ _ _ _ f _ _ (below_group _ _ _ _ f (in_value nothing_around) nothing_around refl (nbinds_of items)) e h h)
  values_expr s taken [] (v ∷ vs) counted d e h = absurd (omega arith)
  values_expr s taken (x ∷ items) [] counted d e h = absurd (omega arith)

  values_binds : (s : Locals) (taken : Words) (items : List (RustBind.Bind ℕ Ref)) (vs : List Word) → length vs ≡ length items → AreDistinct taken.terms vs → (bs : NBinds)
      → HoldsBinds (is_found_by top taken s) (in_group (nbinds_of items) nothing_around) bs → HoldsBinds (is_found top (enter_values vs s)) nothing_around bs
  values_binds s taken [] [] counted no_words_left e h = both_binds _ _ _ _ (found_by top taken s) nothing_around nothing_around refl e h h
  values_binds s taken (x ∷ items) (v ∷ vs) counted (one_word_more free rest) e h =
      let f = takes_value top taken s v free in
      values_binds (with_term (Value v) s) (more_terms v taken) items vs (omega arith) rest e
      (both_binds _ _ _ _ f _ _ (below_group _ _ _ _ f (in_value nothing_around) nothing_around refl (nbinds_of items)) e h h)
  values_binds s taken [] (v ∷ vs) counted d e h = absurd (omega arith)
  values_binds s taken (x ∷ items) [] counted d e h = absurd (omega arith)

  joins_expr : (s : Locals) (taken : Words) (items : List (RustJoin.JoinBind ℕ Ref)) (vs : List Word) → length vs ≡ length items → AreDistinct taken.terms vs → (e : NExpr)
      → HoldsExpr (is_found_by top taken s) (in_joins (njoins_of items) nothing_around) e → HoldsExpr (is_found top (enter_joins vs s)) nothing_around e
  joins_expr s taken [] [] counted no_words_left e h = both_expr _ _ _ _ (found_by top taken s) nothing_around nothing_around refl e h h
  joins_expr s taken (x ∷ items) (v ∷ vs) counted (one_word_more free rest) e h =
      let f = takes_join top taken s v free in
      joins_expr (with_term (Join v) s) (more_terms v taken) items vs (omega arith) rest e
      (both_expr _ _ _ _ f _ _ (below_joins _ _ _ _ f (in_join nothing_around) nothing_around refl (njoins_of items)) e h h)
  joins_expr s taken [] (v ∷ vs) counted d e h = absurd (omega arith)
  joins_expr s taken (x ∷ items) [] counted d e h = absurd (omega arith)

  joins_joins : (s : Locals) (taken : Words) (items : List (RustJoin.JoinBind ℕ Ref)) (vs : List Word) → length vs ≡ length items → AreDistinct taken.terms vs → (js : NJoins)
      → HoldsJoins (is_found_by top taken s) (in_joins (njoins_of items) nothing_around) js → HoldsJoins (is_found top (enter_joins vs s)) nothing_around js
  joins_joins s taken [] [] counted no_words_left e h = both_joins _ _ _ _ (found_by top taken s) nothing_around nothing_around refl e h h
  joins_joins s taken (x ∷ items) (v ∷ vs) counted (one_word_more free rest) e h =
      let f = takes_join top taken s v free in
      joins_joins (with_term (Join v) s) (more_terms v taken) items vs (omega arith) rest e
      (both_joins _ _ _ _ f _ _ (below_joins _ _ _ _ f (in_join nothing_around) nothing_around refl (njoins_of items)) e h h)
  joins_joins s taken [] (v ∷ vs) counted d e h = absurd (omega arith)
  joins_joins s taken (x ∷ items) [] counted d e h = absurd (omega arith)

distinct_less : (small large : WordSet) (vs : List Word) → ((w : Word) → small w ≡ true → large w ≡ true) → AreDistinct large vs → AreDistinct small vs
distinct_less small large [] within no_words_left = no_words_left
distinct_less small large (v ∷ vs) within (one_word_more new rest) =
    one_word_more (by_test (small v) (λ h. false_true (sym new ∙ within v h)) (λ h. h))
    (distinct_less (plus v small) (plus v large) vs (λ w h. by_test (bytes_eq v w) (λ e. ap (λ b. if b then true else large w) e)
    (λ e. ap (λ b. if b then true else large w) e ∙ within w (sym (ap (λ b. if b then true else small w) e) ∙ h))) rest)

pub distinct_alone : (taken : WordSet) (vs : List Word) → AreDistinct taken vs → AreDistinct no_word vs
distinct_alone taken vs d = distinct_less no_word taken vs (λ w h. false_true h) d

pub named_let_group : (top : Top) (s : Locals) (taken : Words) (items : List (RustBind.Bind ℕ Ref)) (vs : List Word) (e : WExpr) (bs : Binds) (f : Expr) → length vs ≡ length items → AreDistinct taken.terms vs
    → list_all is_lower_word vs ≡ true → LetUses top s true (nbinds_of items) (bare_expr e) taken → bind_words bs ≡ vs
    → IsNamedBinds top (enter_values vs s) (binds_of items) bs → IsNamedExpr top (enter_values vs s) e f → IsNamedExpr top s (ELet true (binds_of items) e) (ELet true bs f)
named_let_group top s taken items vs e bs f counted d lower u are p q = record {
  resolves = λ h.
      let binds = values_binds top s taken items vs counted d (nbinds_of items) (u.binds refl h.0) in
      let body = values_expr top s taken items vs counted d (bare_expr e) (u.body h.1) in
      let words = distinct_alone taken.terms vs d in
      resolves_let (subst (λ (ws : List Word). ResolvesBinds top (enter_values ws s) no_word bs (nbinds_of items)) (sym are)
      (p.resolves no_word (subst (λ (ws : List Word). AreDistinct no_word ws) (sym are) words) binds))
      (subst (λ (ws : List Word). ResolvesExpr top (enter_values ws s) f (bare_expr e)) (sym are) (q.resolves body));
  formed = λ l h.
      let k = and_parts _ _ h in
      let j = and_parts _ _ k.1 in
      let inner = values_lower vs l lower in
      both (p.group true k.0) (both (p.formed inner (ap (list_all is_lower_word) are ∙ lower) j.0) (q.formed inner j.1));
}

pub named_let : (top : Top) (s : Locals) (taken : Words) (items : List (RustBind.Bind ℕ Ref)) (vs : List Word) (e : WExpr) (bs : Binds) (f : Expr) → length vs ≡ length items → AreDistinct taken.terms vs
    → list_all is_lower_word vs ≡ true → LetUses top s false (nbinds_of items) (bare_expr e) taken → bind_words bs ≡ vs
    → IsNamedBinds top s (binds_of items) bs → IsNamedExpr top (enter_values vs s) e f → IsNamedExpr top s (ELet false (binds_of items) e) (ELet false bs f)
named_let top s taken items vs e bs f counted d lower u are p q = record {
  resolves = λ h.
      let body = values_expr top s taken items vs counted d (bare_expr e) (u.body h.1) in
      let words = distinct_alone taken.terms vs d in
      resolves_let (p.resolves no_word (subst (λ (ws : List Word). AreDistinct no_word ws) (sym are) words) h.0)
      (subst (λ (ws : List Word). ResolvesExpr top (enter_values ws s) f (bare_expr e)) (sym are) (q.resolves body));
  formed = λ l h.
      let k = and_parts _ _ h in
      let j = and_parts _ _ k.1 in
      both (p.group false k.0) (both (p.formed l (ap (list_all is_lower_word) are ∙ lower) j.0) (q.formed (values_lower vs l lower) j.1));
}

pub named_join_group : (top : Top) (s : Locals) (taken : Words) (items : List (RustJoin.JoinBind ℕ Ref)) (vs : List Word) (e : WExpr) (js : Joins) (f : Expr) → length vs ≡ length items
    → AreDistinct taken.terms vs → list_all is_lower_word vs ≡ true → JoinUses top s true (njoins_of items) (bare_expr e) taken → join_words js ≡ vs
    → IsNamedJoins top (enter_joins vs s) (joins_of items) js → IsNamedExpr top (enter_joins vs s) e f → IsNamedPoints top s true (joins_of items) e js f
named_join_group top s taken items vs e js f counted d lower u are p q = record {
  joins = λ h g.
      let joins = joins_joins top s taken items vs counted d (njoins_of items) (u.joins refl h) in
      subst (λ (ws : List Word). ResolvesJoins top (enter_joins ws s) no_word js (njoins_of items)) (sym are)
      (p.resolves no_word (subst (λ (ws : List Word). AreDistinct no_word ws) (sym are) (distinct_alone taken.terms vs d)) joins);
  body = λ g.
      let body = joins_expr top s taken items vs counted d (bare_expr e) (u.body g) in
      subst (λ (ws : List Word). ResolvesExpr top (enter_joins ws s) f (bare_expr e)) (sym are) (q.resolves body);
  group = p.group true;
  joins_stay = λ l h. p.formed (joins_lower vs l lower) (ap (list_all is_lower_word) are ∙ lower) h;
  body_stays = λ l h. q.formed (joins_lower vs l lower);
}

pub named_join_alone : (top : Top) (s : Locals) (taken : Words) (items : List (RustJoin.JoinBind ℕ Ref)) (vs : List Word) (e : WExpr) (js : Joins) (f : Expr) → length vs ≡ length items
    → AreDistinct taken.terms vs → list_all is_lower_word vs ≡ true → JoinUses top s false (njoins_of items) (bare_expr e) taken → join_words js ≡ vs
    → IsNamedJoins top s (joins_of items) js → IsNamedExpr top (enter_joins vs s) e f → IsNamedPoints top s false (joins_of items) e js f
named_join_alone top s taken items vs e js f counted d lower u are p q = record {
  joins = λ h g. p.resolves no_word (subst (λ (ws : List Word). AreDistinct no_word ws) (sym are) (distinct_alone taken.terms vs d)) h;
  body = λ g.
      let body = joins_expr top s taken items vs counted d (bare_expr e) (u.body g) in
      subst (λ (ws : List Word). ResolvesExpr top (enter_joins ws s) f (bare_expr e)) (sym are) (q.resolves body);
  group = p.group false;
  joins_stay = λ l h. p.formed l (ap (list_all is_lower_word) are ∙ lower) h;
  body_stays = λ l h. q.formed (joins_lower vs l lower);
}

-- the words of members that are named in a loop
bind_words_end : (out : List (RustBind.Bind Word Name)) (y : RustBind.Bind Word Name) → bind_words (binds_of (out ++ y ∷ [])) ≡ bind_words (binds_of out) ++ y.name ∷ []
bind_words_end [] y = refl
bind_words_end (x ∷ out) y = ap (λ z. x.name ∷ z) (bind_words_end out y)

pub bind_words_step : (words : List Word) (i : ℕ) (w : Word) (out more : List (RustBind.Bind Word Name)) (y : RustBind.Bind Word Name) → i < length words → w ≡ get_or words i w
    → bind_words (binds_of out) ≡ take i words → y.name ≡ w → more ≡ out ++ y ∷ [] → bind_words (binds_of more) ≡ take (i + 1) words
bind_words_step words i w out more y low is so_far named pushed =
    ap (λ z. bind_words (binds_of z)) pushed ∙ bind_words_end out y ∙ (λ j. so_far j ++ named j ∷ []) ∙ sym (take_item words i w low is)

join_words_end : (out : List (RustJoin.JoinBind Word Name)) (y : RustJoin.JoinBind Word Name) → join_words (joins_of (out ++ y ∷ [])) ≡ join_words (joins_of out) ++ y.name ∷ []
join_words_end [] y = refl
join_words_end (x ∷ out) y = ap (λ z. x.name ∷ z) (join_words_end out y)

pub join_words_step : (words : List Word) (i : ℕ) (w : Word) (out more : List (RustJoin.JoinBind Word Name)) (y : RustJoin.JoinBind Word Name) → i < length words → w ≡ get_or words i w
    → join_words (joins_of out) ≡ take i words → y.name ≡ w → more ≡ out ++ y ∷ [] → join_words (joins_of more) ≡ take (i + 1) words
join_words_step words i w out more y low is so_far named pushed =
    ap (λ z. join_words (joins_of z)) pushed ∙ join_words_end out y ∙ (λ j. so_far j ++ named j ∷ []) ∙ sym (take_item words i w low is)

-- FORMS THAT ARE TOLD BY EQUATIONS

pub literal_as : {top : Top} {s : Locals} {n : WExpr} {t : Expr} (x : ℤ) → n ≡ ELit x → t ≡ ELit x → IsNamedExpr top s n t
literal_as {top = top} {s = s} {n = n} {t = t} x e f = subst (λ (z : Expr). IsNamedExpr top s n z) (sym f) (subst (λ (z : WExpr). IsNamedExpr top s z (ELit x)) (sym e) named_literal)

-- a form in locals that are the same
pub expr_in : {top : Top} {s s' : Locals} {n : WExpr} {t : Expr} → IsNamedExpr top s n t → s ≡ s' → IsNamedExpr top s' n t
expr_in {top = top} {n = n} {t = t} p e = subst (λ (z : Locals). IsNamedExpr top z n t) e p

pub binds_in : {top : Top} {s s' : Locals} {n : WBinds} {t : Binds} → IsNamedBinds top s n t → s ≡ s' → IsNamedBinds top s' n t
binds_in {top = top} {n = n} {t = t} p e = subst (λ (z : Locals). IsNamedBinds top z n t) e p

pub joins_in : {top : Top} {s s' : Locals} {n : WJoins} {t : Joins} → IsNamedJoins top s n t → s ≡ s' → IsNamedJoins top s' n t
joins_in {top = top} {n = n} {t = t} p e = subst (λ (z : Locals). IsNamedJoins top z n t) e p

pub expr_as : {top : Top} {s : Locals} {n : WExpr} {t t' : Expr} → IsNamedExpr top s n t → t' ≡ t → IsNamedExpr top s n t'
expr_as {top = top} {s = s} {n = n} p e = subst (λ (z : Expr). IsNamedExpr top s n z) (sym e) p

pub ruleset head_names = (named_default, named_literal_head, named_constructor_head)

pub ruleset argument_names = (named_term, named_type, named_coercion)

pub ruleset expression_names = (named_local, named_definition, named_literal, named_application, named_case, named_cast, named_constructor, named_primitive, named_fail, named_join, named_jump)
