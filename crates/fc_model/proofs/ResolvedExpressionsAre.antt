-- The function gives an expression a nameless form just where the rules do.
use Rattle.std.proofs.Common.{◌≡◌, ℕ, ◌+◌, not, if◌then◌else◌, length, Option, Some, None, Result, Ok, Err, refl, sym, ap, ◌∙◌, subst}
use Rattle.std.proofs.lemmas.Bool.{not-true}
use Rattle.fc_syntax.specs.declared.ty.Name.{Name}
use Rattle.fc_syntax.specs.declared.expr.Head.{Head}
use Rattle.fc_syntax.specs.declared.expr.Head.TheVariants as head
use Rattle.fc_syntax.specs.declared.fault.FaultKind.TheVariants.{Duplicate}
use Rattle.fc_syntax.specs.Tree.{Word, ATerm, AType, ACo, Arg, Bound, Joined, Branch}
use Rattle.fc_syntax.specs.Tree.{Expr, EVar, ELit, EApp, ELam, ELet, ECase, ECast, ECon, EPrim, EFail, EJoin, EJump}
use Rattle.fc_syntax.specs.Tree.{Exprs, NoExprs, MoreExprs, Args, NoArgs, MoreArgs, Binds, NoBinds, MoreBinds, Joins, NoJoins, MoreJoins, Alts, NoAlts, MoreAlts}
use Rattle.fc_model.specs.Faulting.{F, need}
use Rattle.fc_model.specs.Nameless.{NExpr, NArg, NBind, NJoinBind, NAlt}
use Rattle.fc_model.specs.Nameless.{NExprs, MoreNExprs, NArgs, NBinds, MoreNBinds, NJoins, MoreNJoins, NAlts, MoreNAlts}
use Rattle.fc_model.specs.Resolution.{Top, Locals, Value, WordSet, Found, IsValue, IsJoin, Nowhere, no_word, no_words, plus, declared_name, found_term, join_index, variable}
use Rattle.fc_model.specs.Resolution.{bind_words, enter, enter_all, enter_joins, enter_values, join_words, then_alt, then_bind, then_expr, then_join, with_term}
use Rattle.fc_model.specs.Resolution.{resolved_alt, resolved_alts, resolved_arg, resolved_args, resolved_bind, resolved_binder, resolved_binders, resolved_binds, resolved_co}
use Rattle.fc_model.specs.Resolution.{resolved_expr, resolved_exprs, resolved_head, resolved_join, resolved_joins, resolved_ty, resolved_var}
use Rattle.fc_model.specs.ResolutionRules.{ResolvesHead, resolves_default, resolves_literal_head, resolves_constructor_head}
use Rattle.fc_model.specs.ResolutionRules.{ResolvesExpr, resolves_local, resolves_definition, resolves_imported, resolves_literal, resolves_application, resolves_lambda}
use Rattle.fc_model.specs.ResolutionRules.{resolves_let, resolves_case, resolves_cast, resolves_constructor, resolves_primitive, resolves_fail, resolves_join, resolves_jump}
use Rattle.fc_model.specs.ResolutionRules.{ResolvesArg, resolves_term, resolves_type, resolves_coercion, ResolvesArgs, resolves_no_args, resolves_args}
use Rattle.fc_model.specs.ResolutionRules.{ResolvesExprs, resolves_no_exprs, resolves_exprs, ResolvesBinds, resolves_no_binds, resolves_binds}
use Rattle.fc_model.specs.ResolutionRules.{ResolvesJoins, resolves_no_joins, resolves_joins, ResolvesAlts, resolves_no_alts, resolves_alts}
use Rattle.fc_model.proofs.Parts.{and_then_inv, err_ok, need_inv, ok_ok, part}
use Rattle.fc_model.proofs.Resolved.{then_arg_inv}
use Rattle.fc_model.proofs.ResolvedTypesAre.{binder_is_resolved, binders_are_resolved, co_is_resolved, ty_is_resolved}
use Rattle.fc_model.proofs.ResolvedTypesAre.{resolved_binder_is, resolved_binders_are, resolved_co_is, resolved_ty_is}

-- LISTS

-- a list that is given has a first item and a rest that was given
then_expr_inv : (e : NExpr) (r : Result NExprs F) (es : NExprs) → then_expr e r ≡ Ok es → (rest : NExprs) × (r ≡ Ok rest) × (MoreNExprs e rest ≡ es)
then_expr_inv e (Ok rest) es h = (rest, refl, ok_ok h)
then_expr_inv e (Err f) es h = err_ok h

then_bind_inv : (b : NBind) (r : Result NBinds F) (bs : NBinds) → then_bind b r ≡ Ok bs → (rest : NBinds) × (r ≡ Ok rest) × (MoreNBinds b rest ≡ bs)
then_bind_inv b (Ok rest) bs h = (rest, refl, ok_ok h)
then_bind_inv b (Err f) bs h = err_ok h

then_join_inv : (j : NJoinBind) (r : Result NJoins F) (js : NJoins) → then_join j r ≡ Ok js → (rest : NJoins) × (r ≡ Ok rest) × (MoreNJoins j rest ≡ js)
then_join_inv j (Ok rest) js h = (rest, refl, ok_ok h)
then_join_inv j (Err f) js h = err_ok h

then_alt_inv : (a : NAlt) (r : Result NAlts F) (xs : NAlts) → then_alt a r ≡ Ok xs → (rest : NAlts) × (r ≡ Ok rest) × (MoreNAlts a rest ≡ xs)
then_alt_inv a (Ok rest) xs h = (rest, refl, ok_ok h)
then_alt_inv a (Err f) xs h = err_ok h

-- what is found as a join point has the index of one
join_index_inv : (x : Found) (i : ℕ) → join_index x ≡ Ok i → x ≡ IsJoin i
join_index_inv (IsValue j) i h = err_ok h
join_index_inv (IsJoin j) i h = ap (λ k. IsJoin k) (ok_ok h)
join_index_inv Nowhere i h = err_ok h

module _ (top : Top) where
  -- HEADS

  -- a head that resolves by the rules is given its nameless form
  pub head_is_resolved : {h k : Head} → ResolvesHead top h k → resolved_head top h ≡ Ok k
  head_is_resolved resolves_default = refl
  head_is_resolved resolves_literal_head = refl
  head_is_resolved (resolves_constructor_head p) = rw p refl

  -- a head that is given a nameless form resolves to it by the rules
  pub resolved_head_is : (h k : Head) → resolved_head top h ≡ Ok k → ResolvesHead top h k
  resolved_head_is head.Default k eq = subst (λ x. ResolvesHead top head.Default x) (ok_ok eq) resolves_default
  resolved_head_is (head.Lit n) k eq = subst (λ x. ResolvesHead top (head.Lit n) x) (ok_ok eq) resolves_literal_head
  resolved_head_is (head.Con n) k eq =
      let p = and_then_inv (declared_name top top.terms top.offers.terms n.module n.text) _ k eq in
      subst (λ x. ResolvesHead top (head.Con n) x) (ok_ok p.2) (resolves_constructor_head p.1)

  -- VARIABLES

  -- a word without a dot is given what it is found to be
  var_by : (s : Locals) (n : Name) (x : Found) (f : NExpr) → n.module ≡ None → found_term s.terms n.text ≡ x → variable top x n.text ≡ Ok f → resolved_expr top s (EVar n) ≡ Ok f
  var_by s n x f is found h = rw (is, found) h

  -- what a word is found to be, and the nameless form that it is given, are by the rules
  found_inv : (s : Locals) (n : Name) (x : Found) (f : NExpr) → n.module ≡ None → found_term s.terms n.text ≡ x → variable top x n.text ≡ Ok f → ResolvesExpr top s (EVar n) f
  found_inv s n (IsValue i) f is found h = subst (λ y. ResolvesExpr top s (EVar n) y) (ok_ok h) (resolves_local is found)
  found_inv s n (IsJoin i) f is found h = err_ok h
  found_inv s n Nowhere f is found h =
      let p = and_then_inv (declared_name top top.terms top.offers.terms None n.text) _ f h in
      subst (λ y. ResolvesExpr top s (EVar n) y) (ok_ok p.2) (resolves_definition is found p.1)

  -- a variable that is given a nameless form resolves to it by the rules
  var_inv : (s : Locals) (n : Name) (o : Option Word) (f : NExpr) → n.module ≡ o → resolved_var top s o n.text ≡ Ok f → ResolvesExpr top s (EVar n) f
  var_inv s n None f is h = found_inv s n (found_term s.terms n.text) f is refl h
  var_inv s n (Some w) f is h =
      let p = and_then_inv (declared_name top top.terms top.offers.terms (Some w) n.text) _ f h in
      subst (λ y. ResolvesExpr top s (EVar n) y) (ok_ok p.2) (resolves_imported w is p.1)

  -- EXPRESSIONS

  mutual
    -- an expression that resolves by the rules is given its nameless form
    pub expr_is_resolved : {s : Locals} {e : Expr} {f : NExpr} → ResolvesExpr top s e f → resolved_expr top s e ≡ Ok f
    expr_is_resolved {s = s} (resolves_local {n = n} {i = i} is found) = var_by s n (IsValue i) _ is found refl
    expr_is_resolved {s = s} (resolves_definition {n = n} is found p) = var_by s n Nowhere _ is found (rw p refl)
    expr_is_resolved (resolves_imported w is p) = rw (is, p) refl
    expr_is_resolved resolves_literal = refl
    expr_is_resolved (resolves_application f a) = rw (expr_is_resolved f, arg_is_resolved a) refl
    expr_is_resolved (resolves_lambda b e) = rw (binder_is_resolved top b, expr_is_resolved e) refl
    expr_is_resolved (resolves_let bs e) = rw (binds_are_resolved 0 bs, expr_is_resolved e) refl
    expr_is_resolved (resolves_case e t u alts) = rw (expr_is_resolved e, ty_is_resolved top t, ty_is_resolved top u, alts_are_resolved 3 alts) refl
    expr_is_resolved (resolves_cast e g) = rw (expr_is_resolved e, co_is_resolved top g) refl
    expr_is_resolved (resolves_constructor p args) = rw (p, args_are_resolved 0 args) refl
    expr_is_resolved (resolves_primitive es) = rw (exprs_are_resolved 0 es) refl
    expr_is_resolved (resolves_fail t) = rw (ty_is_resolved top t) refl
    expr_is_resolved (resolves_join t js e) = rw (ty_is_resolved top t, joins_are_resolved 1 js, expr_is_resolved e) refl
    expr_is_resolved (resolves_jump p args) = rw (p, args_are_resolved 0 args) refl

    pub arg_is_resolved : {s : Locals} {a : Arg} {b : NArg} → ResolvesArg top s a b → resolved_arg top s a ≡ Ok b
    arg_is_resolved (resolves_term e) = rw (expr_is_resolved e) refl
    arg_is_resolved (resolves_type t) = rw (ty_is_resolved top t) refl
    arg_is_resolved (resolves_coercion g) = rw (co_is_resolved top g) refl

    -- the same of arguments, and of the lists after them, from any part number on
    pub args_are_resolved : {s : Locals} {args : Args} {xs : NArgs} (i : ℕ) → ResolvesArgs top s args xs → resolved_args top s i args ≡ Ok xs
    args_are_resolved i resolves_no_args = refl
    args_are_resolved i (resolves_args a rest) = rw (arg_is_resolved a, args_are_resolved (i + 1) rest) refl

    pub exprs_are_resolved : {s : Locals} {es : Exprs} {fs : NExprs} (i : ℕ) → ResolvesExprs top s es fs → resolved_exprs top s i es ≡ Ok fs
    exprs_are_resolved i resolves_no_exprs = refl
    exprs_are_resolved i (resolves_exprs e rest) = rw (expr_is_resolved e, exprs_are_resolved (i + 1) rest) refl

    pub binds_are_resolved : {s : Locals} {earlier : WordSet} {bs : Binds} {cs : NBinds} (i : ℕ) → ResolvesBinds top s earlier bs cs → resolved_binds top s earlier i bs ≡ Ok cs
    binds_are_resolved i resolves_no_binds = refl
    binds_are_resolved i (resolves_binds new t e rest) = rw (new, ty_is_resolved top t, expr_is_resolved e, binds_are_resolved (i + 1) rest) refl

    pub joins_are_resolved : {s : Locals} {earlier : WordSet} {js : Joins} {ks : NJoins} (i : ℕ) → ResolvesJoins top s earlier js ks → resolved_joins top s earlier i js ≡ Ok ks
    joins_are_resolved i resolves_no_joins = refl
    joins_are_resolved i (resolves_joins new ps e rest) = rw (new, binders_are_resolved top 0 ps, expr_is_resolved e, joins_are_resolved (i + 1) rest) refl

    pub alts_are_resolved : {s : Locals} {alts : Alts} {xs : NAlts} (i : ℕ) → ResolvesAlts top s alts xs → resolved_alts top s i alts ≡ Ok xs
    alts_are_resolved i resolves_no_alts = refl
    alts_are_resolved i (resolves_alts h bs e rest) = rw (head_is_resolved h, binders_are_resolved top 0 bs, expr_is_resolved e, alts_are_resolved (i + 1) rest) refl

  mutual
    -- an expression that is given a nameless form resolves to it by the rules
    pub resolved_expr_is : (s : Locals) (e : Expr) (f : NExpr) → resolved_expr top s e ≡ Ok f → ResolvesExpr top s e f
    resolved_expr_is s (EVar n) f h = var_inv s n n.module f refl h
    resolved_expr_is s (ELit n) f h = subst (λ x. ResolvesExpr top s (ELit n) x) (ok_ok h) resolves_literal
    resolved_expr_is s (EApp e a) f h =
        let p = part 0 (resolved_expr top s e) _ f h in
        let q = part 1 (resolved_arg top s a) _ f p.2 in
        subst (λ x. ResolvesExpr top s (EApp e a) x) (ok_ok q.2) (resolves_application (resolved_expr_is s e p.0 p.1) (resolved_arg_is s a q.0 q.1))
    resolved_expr_is s (ELam b e) f h =
        let p = part 0 (resolved_binder top s b) _ f h in
        let q = part 1 (resolved_expr top (enter b s) e) _ f p.2 in
        subst (λ x. ResolvesExpr top s (ELam b e) x) (ok_ok q.2) (resolves_lambda (resolved_binder_is top s b p.0 p.1) (resolved_expr_is (enter b s) e q.0 q.1))
    resolved_expr_is s (ELet r bs e) f h =
        let inner = enter_values (bind_words bs) s in
        let p = and_then_inv (resolved_binds top (if r then inner else s) no_word 0 bs) _ f h in
        let q = part (length (bind_words bs)) (resolved_expr top inner e) _ f p.2 in
        subst (λ x. ResolvesExpr top s (ELet r bs e) x) (ok_ok q.2)
        (resolves_let (resolved_binds_are (if r then inner else s) no_word 0 bs p.0 p.1) (resolved_expr_is inner e q.0 q.1))
    resolved_expr_is s (ECase e v t u alts) f h =
        let p = part 0 (resolved_expr top s e) _ f h in
        let q = part 1 (resolved_ty top s.types t) _ f p.2 in
        let w = part 2 (resolved_ty top s.types u) _ f q.2 in
        let z = and_then_inv (resolved_alts top (with_term (Value v) s) 3 alts) _ f w.2 in
        subst (λ x. ResolvesExpr top s (ECase e v t u alts) x) (ok_ok z.2)
        (resolves_case (resolved_expr_is s e p.0 p.1) (resolved_ty_is top s.types t q.0 q.1) (resolved_ty_is top s.types u w.0 w.1)
        (resolved_alts_are (with_term (Value v) s) 3 alts z.0 z.1))
    resolved_expr_is s (ECast e g) f h =
        let p = part 0 (resolved_expr top s e) _ f h in
        let q = part 1 (resolved_co top s g) _ f p.2 in
        subst (λ x. ResolvesExpr top s (ECast e g) x) (ok_ok q.2) (resolves_cast (resolved_expr_is s e p.0 p.1) (resolved_co_is top s g q.0 q.1))
    resolved_expr_is s (ECon n args) f h =
        let p = and_then_inv (declared_name top top.terms top.offers.terms n.module n.text) _ f h in
        let q = and_then_inv (resolved_args top s 0 args) _ f p.2 in
        subst (λ x. ResolvesExpr top s (ECon n args) x) (ok_ok q.2) (resolves_constructor p.1 (resolved_args_are s 0 args q.0 q.1))
    resolved_expr_is s (EPrim op es) f h =
        let p = and_then_inv (resolved_exprs top s 0 es) _ f h in
        subst (λ x. ResolvesExpr top s (EPrim op es) x) (ok_ok p.2) (resolves_primitive (resolved_exprs_are s 0 es p.0 p.1))
    resolved_expr_is s (EFail t) f h =
        let p = part 0 (resolved_ty top s.types t) _ f h in
        subst (λ x. ResolvesExpr top s (EFail t) x) (ok_ok p.2) (resolves_fail (resolved_ty_is top s.types t p.0 p.1))
    resolved_expr_is s (EJoin r t js e) f h =
        let inner = enter_joins (join_words js) s in
        let p = part 0 (resolved_ty top s.types t) _ f h in
        let q = and_then_inv (resolved_joins top (if r then inner else s) no_word 1 js) _ f p.2 in
        let u = part (1 + length (join_words js)) (resolved_expr top inner e) _ f q.2 in
        subst (λ x. ResolvesExpr top s (EJoin r t js e) x) (ok_ok u.2)
        (resolves_join (resolved_ty_is top s.types t p.0 p.1) (resolved_joins_are (if r then inner else s) no_word 1 js q.0 q.1) (resolved_expr_is inner e u.0 u.1))
    resolved_expr_is s (EJump j args) f h =
        let p = and_then_inv (join_index (found_term s.terms j)) _ f h in
        let q = and_then_inv (resolved_args top s 0 args) _ f p.2 in
        subst (λ x. ResolvesExpr top s (EJump j args) x) (ok_ok q.2)
        (resolves_jump (join_index_inv (found_term s.terms j) p.0 p.1) (resolved_args_are s 0 args q.0 q.1))

    pub resolved_arg_is : (s : Locals) (a : Arg) (b : NArg) → resolved_arg top s a ≡ Ok b → ResolvesArg top s a b
    resolved_arg_is s (ATerm e) b h =
        let p = and_then_inv (resolved_expr top s e) _ b h in subst (λ x. ResolvesArg top s (ATerm e) x) (ok_ok p.2) (resolves_term (resolved_expr_is s e p.0 p.1))
    resolved_arg_is s (AType t) b h =
        let p = and_then_inv (resolved_ty top s.types t) _ b h in
        subst (λ x. ResolvesArg top s (AType t) x) (ok_ok p.2) (resolves_type (resolved_ty_is top s.types t p.0 p.1))
    resolved_arg_is s (ACo g) b h =
        let p = and_then_inv (resolved_co top s g) _ b h in subst (λ x. ResolvesArg top s (ACo g) x) (ok_ok p.2) (resolves_coercion (resolved_co_is top s g p.0 p.1))

    pub resolved_args_are : (s : Locals) (i : ℕ) (args : Args) (xs : NArgs) → resolved_args top s i args ≡ Ok xs → ResolvesArgs top s args xs
    resolved_args_are s i NoArgs xs h = subst (λ x. ResolvesArgs top s NoArgs x) (ok_ok h) resolves_no_args
    resolved_args_are s i (MoreArgs a args) xs h =
        let p = part i (resolved_arg top s a) _ xs h in
        let q = then_arg_inv p.0 (resolved_args top s (i + 1) args) xs p.2 in
        subst (λ x. ResolvesArgs top s (MoreArgs a args) x) q.2 (resolves_args (resolved_arg_is s a p.0 p.1) (resolved_args_are s (i + 1) args q.0 q.1))

    pub resolved_exprs_are : (s : Locals) (i : ℕ) (es : Exprs) (fs : NExprs) → resolved_exprs top s i es ≡ Ok fs → ResolvesExprs top s es fs
    resolved_exprs_are s i NoExprs fs h = subst (λ x. ResolvesExprs top s NoExprs x) (ok_ok h) resolves_no_exprs
    resolved_exprs_are s i (MoreExprs e es) fs h =
        let p = part i (resolved_expr top s e) _ fs h in
        let q = then_expr_inv p.0 (resolved_exprs top s (i + 1) es) fs p.2 in
        subst (λ x. ResolvesExprs top s (MoreExprs e es) x) q.2 (resolves_exprs (resolved_expr_is s e p.0 p.1) (resolved_exprs_are s (i + 1) es q.0 q.1))

    pub resolved_binds_are : (s : Locals) (earlier : WordSet) (i : ℕ) (bs : Binds) (cs : NBinds) → resolved_binds top s earlier i bs ≡ Ok cs → ResolvesBinds top s earlier bs cs
    resolved_binds_are s earlier i NoBinds cs h = subst (λ x. ResolvesBinds top s earlier NoBinds x) (ok_ok h) resolves_no_binds
    resolved_binds_are s earlier i (MoreBinds (Bound v t e) bs) cs h =
        let p = part i (need (not (earlier v)) Duplicate (resolved_bind top s (Bound v t e))) _ cs h in
        let q = need_inv (not (earlier v)) _ _ p.0 p.1 in
        let u = part 0 (resolved_ty top s.types t) _ p.0 q.1 in
        let w = part 1 (resolved_expr top s e) _ p.0 u.2 in
        let z = then_bind_inv p.0 (resolved_binds top s (plus v earlier) (i + 1) bs) cs p.2 in
        subst (λ x. ResolvesBinds top s earlier (MoreBinds (Bound v t e) bs) x) (ap (λ c. MoreNBinds c z.0) (ok_ok w.2) ∙ z.2)
        (resolves_binds (not-true (earlier v) q.0) (resolved_ty_is top s.types t u.0 u.1) (resolved_expr_is s e w.0 w.1)
        (resolved_binds_are s (plus v earlier) (i + 1) bs z.0 z.1))

    pub resolved_joins_are : (s : Locals) (earlier : WordSet) (i : ℕ) (js : Joins) (ks : NJoins) → resolved_joins top s earlier i js ≡ Ok ks → ResolvesJoins top s earlier js ks
    resolved_joins_are s earlier i NoJoins ks h = subst (λ x. ResolvesJoins top s earlier NoJoins x) (ok_ok h) resolves_no_joins
    resolved_joins_are s earlier i (MoreJoins (Joined j ps e) js) ks h =
        let p = part i (need (not (earlier j)) Duplicate (resolved_join top s (Joined j ps e))) _ ks h in
        let q = need_inv (not (earlier j)) _ _ p.0 p.1 in
        let u = and_then_inv (resolved_binders top s no_words 0 ps) _ p.0 q.1 in
        let w = part (length ps) (resolved_expr top (enter_all ps s) e) _ p.0 u.2 in
        let z = then_join_inv p.0 (resolved_joins top s (plus j earlier) (i + 1) js) ks p.2 in
        subst (λ x. ResolvesJoins top s earlier (MoreJoins (Joined j ps e) js) x) (ap (λ k. MoreNJoins k z.0) (ok_ok w.2) ∙ z.2)
        (resolves_joins (not-true (earlier j) q.0) (resolved_binders_are top s no_words 0 ps u.0 u.1) (resolved_expr_is (enter_all ps s) e w.0 w.1)
        (resolved_joins_are s (plus j earlier) (i + 1) js z.0 z.1))

    pub resolved_alts_are : (s : Locals) (i : ℕ) (alts : Alts) (xs : NAlts) → resolved_alts top s i alts ≡ Ok xs → ResolvesAlts top s alts xs
    resolved_alts_are s i NoAlts xs h = subst (λ x. ResolvesAlts top s NoAlts x) (ok_ok h) resolves_no_alts
    resolved_alts_are s i (MoreAlts (Branch k bs e) alts) xs h =
        let p = part i (resolved_alt top s (Branch k bs e)) _ xs h in
        let q = and_then_inv (resolved_head top k) _ p.0 p.1 in
        let u = and_then_inv (resolved_binders top s no_words 0 bs) _ p.0 q.2 in
        let w = part (length bs) (resolved_expr top (enter_all bs s) e) _ p.0 u.2 in
        let z = then_alt_inv p.0 (resolved_alts top s (i + 1) alts) xs p.2 in
        subst (λ x. ResolvesAlts top s (MoreAlts (Branch k bs e) alts) x) (ap (λ a. MoreNAlts a z.0) (ok_ok w.2) ∙ z.2)
        (resolves_alts (resolved_head_is k q.0 q.1) (resolved_binders_are top s no_words 0 bs u.0 u.1) (resolved_expr_is (enter_all bs s) e w.0 w.1)
        (resolved_alts_are s (i + 1) alts z.0 z.1))

  -- an expression resolves to at most one nameless form
  pub expr_resolves_to_one : (s : Locals) (e : Expr) (f g : NExpr) → ResolvesExpr top s e f → ResolvesExpr top s e g → f ≡ g
  expr_resolves_to_one s e f g p q = ok_ok (sym (expr_is_resolved p) ∙ expr_is_resolved q)
