-- The nameless form of a formed module is formed: a name that is found has the word of the one that is read, and the module is one of its form.
use Rattle.std.proofs.Common.{◌≡◌, Bool, true, false, ◌&&◌, List, Option, Some, None, Ok, refl, subst}
use Rattle.std.specs.List.{list_all}
use Rattle.std.proofs.lemmas.Bool.{and_from, and_parts}
use Rattle.fc_syntax.specs.declared.ty.Name.{Name}
use Rattle.fc_syntax.specs.declared.expr.Head.{Head}
use Rattle.fc_syntax.specs.declared.fault.FaultKind.TheVariants.{NotExported, Unbound}
use Rattle.fc_syntax.specs.Tokens.{is_module_name}
use Rattle.fc_syntax.specs.Tree.{Word, Ty, Co, Cos, Binder, BCo, Arg, Args, Expr, Exprs, Binds, Joins, Alts, ConDecl, Decl, Module, ModuleOf}
use Rattle.fc_model.specs.Formed.{IsFormed, are_args_formed, are_binds_formed, are_cos_formed, are_exprs_formed, are_field_binders, are_field_coercions, are_joins_formed, are_some_cos}
use Rattle.fc_model.specs.Formed.{is_arg_formed, is_bind_group, is_binder_formed, is_co_formed, is_con_formed, is_decl_formed, is_expr_formed}
use Rattle.fc_model.specs.Formed.{are_alts_formed, is_head_formed, is_join_group, is_lower_word, is_module_formed, is_type_formed, is_upper_formed, is_upper_word}
use Rattle.fc_model.specs.Nameless.{NTy, NCo, NCos, NBinder, NArg, NExpr, NExprs, NArgs, NBinds, NJoins, NAlts, NConDecl, NDecl, NModule}
use Rattle.fc_model.specs.Resolution.{Locals, Top, WordSet, Words, declared_name, top_of}
use Rattle.fc_model.specs.ResolutionRules.{ResolvesTy, resolves_type_variable, resolves_type_name, resolves_int, resolves_type_application, resolves_function, resolves_forall, resolves_coforall}
use Rattle.fc_model.specs.ResolutionRules.{ResolvesTys, resolves_no_types, resolves_types}
use Rattle.fc_model.specs.ResolutionRules.{ResolvesCo, resolves_coercion_variable, resolves_refl, resolves_sym, resolves_trans, resolves_tc, resolves_capp, resolves_funco, resolves_allco}
use Rattle.fc_model.specs.ResolutionRules.{resolves_coallco, resolves_inst, resolves_nth, resolves_left, resolves_right, resolves_sub, resolves_axiom, resolves_univ}
use Rattle.fc_model.specs.ResolutionRules.{ResolvesCos, resolves_no_coercions, resolves_coercions}
use Rattle.fc_model.specs.ResolutionRules.{ResolvesBinder, resolves_value_binder, resolves_type_binder, resolves_coercion_binder, ResolvesBinders, resolves_no_binders, resolves_binders}
use Rattle.fc_model.specs.ResolutionRules.{ResolvesHead, resolves_default, resolves_literal_head, resolves_constructor_head}
use Rattle.fc_model.specs.ResolutionRules.{ResolvesExpr, resolves_local, resolves_definition, resolves_imported, resolves_literal, resolves_application, resolves_lambda, resolves_let}
use Rattle.fc_model.specs.ResolutionRules.{resolves_case, resolves_cast, resolves_constructor, resolves_primitive, resolves_fail, resolves_join, resolves_jump}
use Rattle.fc_model.specs.ResolutionRules.{ResolvesArg, resolves_term, resolves_type, resolves_coercion, ResolvesArgs, resolves_no_args, resolves_args, ResolvesExprs, resolves_no_exprs, resolves_exprs}
use Rattle.fc_model.specs.ResolutionRules.{ResolvesBinds, resolves_no_binds, resolves_binds, ResolvesJoins, resolves_no_joins, resolves_joins, ResolvesAlts, resolves_no_alts, resolves_alts}
use Rattle.fc_model.specs.ResolutionRules.{ResolvesCons, resolves_no_constructors, resolves_constructors}
use Rattle.fc_model.specs.ResolutionRules.{ResolvesDecl, resolves_data, resolves_newtype, resolves_family, resolves_equation, resolves_def, resolves_wrap, ResolvesDecls, resolves_no_decls, resolves_decls}
use Rattle.fc_model.specs.ResolutionRules.{Resolves, resolves_module}
use Rattle.fc_model.proofs.Parts.{need_inv, ok_ok}
use Rattle.fc_model.proofs.Sameness.{false_true}
use Rattle.fc_formed.specs.FormedTrees.{IsFormedTy, AreFormedTys, AreSomeCos, IsFormedCo, AreFormedCos, IsFormedBinder, AreFormedBinders, IsFormedGroup, IsFormedJoinGroup, IsFormedHead}
use Rattle.fc_formed.specs.FormedTrees.{IsFormedExpr, IsFormedArg, AreFormedArgs, AreFormedExprs, AreFormedBinds, AreFormedJoins, AreFormedAlts}
use Rattle.fc_formed.specs.FormedTrees.{AreFieldCoercions, AreFieldBinders, AreFormedCons, IsFormedDecl, AreFormedDecls, IsFormedModule}
use Rattle.fc_meaning.proofs.WrittenExpressions.{none_resolved}

-- PARTS OF A TEST

three : (a b c : Bool) → (a && (b && c)) ≡ true → (a ≡ true) × (b ≡ true) × (c ≡ true)
three a b c h = let p = and_parts a (b && c) h in let q = and_parts b c p.1 in (p.0, q.0, q.1)

four : (a b c d : Bool) → (a && (b && (c && d))) ≡ true → (a ≡ true) × (b ≡ true) × (c ≡ true) × (d ≡ true)
four a b c d h = let p = and_parts a (b && (c && d)) h in let q = three b c d p.1 in (p.0, q.0, q.1, q.2)

module _ (top : Top) (own : is_module_name top.own ≡ true) where
  -- NAMES

  found : (test : Word → Bool) (words : WordSet) (offered : Word → WordSet) (o : Option Word) (w : Word) (m : Name) → declared_name top words offered o w ≡ Ok m
      → is_module_formed o ≡ true → test w ≡ true → (is_module_formed m.module && test m.text) ≡ true
  found test words offered None w m d formed h =
      let p = need_inv (words w) Unbound _ m d in
      subst (λ x. (is_module_formed x.module && test x.text) ≡ true) (ok_ok p.1) (and_from (is_module_name top.own) (test w) own h)
  found test words offered (Some v) w m d formed h =
      let p = need_inv (top.imports v) Unbound _ m d in
      let q = need_inv (offered v w) NotExported _ m p.1 in
      subst (λ x. (is_module_formed x.module && test x.text) ≡ true) (ok_ok q.1) (and_from (is_module_name v) (test w) formed h)

  upper : (words : WordSet) (offered : Word → WordSet) (n m : Name) → declared_name top words offered n.module n.text ≡ Ok m → is_upper_formed n ≡ true → is_upper_formed m ≡ true
  upper words offered n m d h =
      let p = and_parts (is_module_formed n.module) (is_upper_word n.text) h in found is_upper_word words offered n.module n.text m d p.0 p.1

  -- TYPES AND COERCIONS

  ty : {tys : List Word} {t : Ty} {u : NTy} → ResolvesTy top tys t u → is_type_formed t ≡ true → IsFormedTy u
  ty (resolves_type_variable i) f = tt
  ty (resolves_type_name {n = n} {m = m} d) f = upper top.types top.offers.types n m d f
  ty resolves_int f = tt
  ty (resolves_type_application a b) f = let p = and_parts _ _ f in (ty a p.0, ty b p.1)
  ty (resolves_function a b) f = let p = and_parts _ _ f in (ty a p.0, ty b p.1)
  ty (resolves_forall a) f = ty a (and_parts _ _ f).1
  ty (resolves_coforall a b c) f = let p = four _ _ _ _ f in (p.0, ty a p.1, ty b p.2, ty c p.3)

  tys : {ws : List Word} {ts : List Ty} {us : List NTy} → ResolvesTys top ws ts us → list_all is_type_formed ts ≡ true → AreFormedTys us
  tys resolves_no_types f = tt
  tys (resolves_types a rest) f = let p = and_parts _ _ f in (ty a p.0, tys rest p.1)

  some_cos : {s : Locals} {gs : Cos} {xs : NCos} → ResolvesCos top s gs xs → are_some_cos gs ≡ true → AreSomeCos xs
  some_cos resolves_no_coercions f = false_true f
  some_cos (resolves_coercions a rest) f = tt

  mutual
    co : {s : Locals} {g : Co} {x : NCo} → ResolvesCo top s g x → is_co_formed g ≡ true → IsFormedCo x
    co (resolves_coercion_variable i) f = tt
    co (resolves_refl a) f = ty a f
    co (resolves_sym a) f = co a f
    co (resolves_trans a b) f = let p = and_parts _ _ f in (co a p.0, co b p.1)
    co (resolves_tc {n = n} {m = m} {gs = gs} d a) f =
        let p = four _ (is_upper_formed n) (are_some_cos gs) (are_cos_formed gs) f in (p.0, upper top.types top.offers.types n m d p.1, some_cos a p.2, cos a p.3)
    co (resolves_capp a b) f = let p = and_parts _ _ f in (co a p.0, co b p.1)
    co (resolves_funco a b) f = let p = and_parts _ _ f in (co a p.0, co b p.1)
    co (resolves_allco a) f = co a (and_parts _ _ f).1
    co (resolves_coallco a b c) f = let p = four _ _ _ _ f in let q = and_parts _ _ p.0 in (q.0, q.1, co a p.1, co b p.2, co c p.3)
    co (resolves_inst a b) f = let p = and_parts _ _ f in (co a p.0, co b p.1)
    co (resolves_nth a) f = let p = and_parts _ _ f in (p.0, co a p.1)
    co (resolves_left a) f = co a f
    co (resolves_right a) f = co a f
    co (resolves_sub a) f = co a f
    co (resolves_axiom {n = n} {m = m} {gs = gs} d a) f =
        let p = and_parts (is_upper_formed n) (are_cos_formed gs) f in (upper top.coercions top.offers.coercions n m d p.0, cos a p.1)
    co (resolves_univ a b) f = let p = and_parts _ _ f in (ty a p.0, ty b p.1)

    cos : {s : Locals} {gs : Cos} {xs : NCos} → ResolvesCos top s gs xs → are_cos_formed gs ≡ true → AreFormedCos xs
    cos resolves_no_coercions f = tt
    cos (resolves_coercions a rest) f = let p = and_parts _ _ f in (co a p.0, cos rest p.1)

  -- BINDERS

  binder : {s : Locals} {b : Binder} {c : NBinder} → ResolvesBinder top s b c → is_binder_formed b ≡ true → IsFormedBinder c
  binder (resolves_value_binder a) f = ty a (and_parts _ _ f).1
  binder resolves_type_binder f = tt
  binder (resolves_coercion_binder a b) f = let p = four _ _ _ _ f in (p.1, ty a p.2, ty b p.3)

  binders : {s : Locals} {ws : Words} {bs : List Binder} {cs : List NBinder} → ResolvesBinders top s ws bs cs → list_all is_binder_formed bs ≡ true → AreFormedBinders cs
  binders resolves_no_binders f = tt
  binders (resolves_binders new b rest) f = let p = and_parts _ _ f in (binder b p.0, binders rest p.1)

  of_head : {s : Locals} {ws : Words} {h k : Head} {bs : List Binder} {cs : List NBinder} → ResolvesHead top h k → ResolvesBinders top s ws bs cs
      → is_head_formed h bs ≡ true → IsFormedHead k cs
  of_head resolves_default b f = none_resolved top b f
  of_head resolves_literal_head b f = let p = and_parts _ _ f in (p.0, none_resolved top b p.1)
  of_head {bs = bs} (resolves_constructor_head {n = n} {m = m} d) b f =
      let p = and_parts (is_upper_formed n) (list_all is_binder_formed bs) f in (upper top.terms top.offers.terms n m d p.0, binders b p.1)

  -- EXPRESSIONS

  -- resolution keeps how many binders there are
  bind_group : {s : Locals} {earlier : WordSet} {bs : Binds} {cs : NBinds} (r : Bool) → ResolvesBinds top s earlier bs cs → is_bind_group r bs ≡ true → IsFormedGroup r cs
  bind_group false resolves_no_binds f = false_true f
  bind_group true resolves_no_binds f = false_true f
  bind_group false (resolves_binds new a g resolves_no_binds) f = tt
  bind_group true (resolves_binds new a g resolves_no_binds) f = tt
  bind_group false (resolves_binds new a g (resolves_binds later b h rest)) f = false_true f
  bind_group true (resolves_binds new a g (resolves_binds later b h rest)) f = tt

  join_group : {s : Locals} {earlier : WordSet} {js : Joins} {ks : NJoins} (r : Bool) → ResolvesJoins top s earlier js ks → is_join_group r js ≡ true → IsFormedJoinGroup r ks
  join_group false resolves_no_joins f = false_true f
  join_group true resolves_no_joins f = false_true f
  join_group false (resolves_joins new a g resolves_no_joins) f = tt
  join_group true (resolves_joins new a g resolves_no_joins) f = tt
  join_group false (resolves_joins new a g (resolves_joins later b h rest)) f = false_true f
  join_group true (resolves_joins new a g (resolves_joins later b h rest)) f = tt

  mutual
    expr : {s : Locals} {e : Expr} {u : NExpr} → ResolvesExpr top s e u → is_expr_formed e ≡ true → IsFormedExpr u
    expr (resolves_local here value) f = tt
    expr (resolves_definition {n = n} {m = m} here nowhere d) f =
        let p = and_parts (is_module_formed n.module) (is_lower_word n.text) f in found is_lower_word top.terms top.offers.terms None n.text m d refl p.1
    expr (resolves_imported {n = n} {m = m} w there d) f =
        let p = and_parts (is_module_formed n.module) (is_lower_word n.text) f in
        found is_lower_word top.terms top.offers.terms (Some w) n.text m d (subst (λ o. is_module_formed o ≡ true) there p.0) p.1
    expr resolves_literal f = f
    expr (resolves_application g a) f = let p = and_parts _ _ f in (expr g p.0, arg a p.1)
    expr (resolves_lambda b g) f = let p = and_parts _ _ f in (binder b p.0, expr g p.1)
    expr (resolves_let {r = r} {bs = bs} {e = e} b g) f =
        let p = three (is_bind_group r bs) (are_binds_formed bs) (is_expr_formed e) f in (bind_group r b p.0, binds b p.1, expr g p.2)
    expr (resolves_case g a b c) f =
        let p = and_parts _ _ f in
        let q = and_parts _ _ p.1 in
        let r = three _ _ _ q.0 in (expr g p.0, ty a r.1, ty b r.2, alts c q.1)
    expr (resolves_cast g c) f = let p = and_parts _ _ f in (expr g p.0, co c p.1)
    expr (resolves_constructor {n = n} {m = m} {args = given} d a) f =
        let p = and_parts (is_upper_formed n) (are_args_formed given) f in (upper top.terms top.offers.terms n m d p.0, args a p.1)
    expr (resolves_primitive a) f = exprs a f
    expr (resolves_fail a) f = ty a f
    expr (resolves_join {r = r} {t = t} {js = js} {e = e} a b g) f =
        let p = four (is_join_group r js) (is_type_formed t) (are_joins_formed js) (is_expr_formed e) f in (join_group r b p.0, ty a p.1, joins b p.2, expr g p.3)
    expr (resolves_jump {j = j} {args = given} at a) f = args a (and_parts (is_lower_word j) (are_args_formed given) f).1

    arg : {s : Locals} {a : Arg} {u : NArg} → ResolvesArg top s a u → is_arg_formed a ≡ true → IsFormedArg u
    arg (resolves_term g) f = expr g f
    arg (resolves_type a) f = ty a f
    arg (resolves_coercion a) f = co a f

    args : {s : Locals} {given : Args} {us : NArgs} → ResolvesArgs top s given us → are_args_formed given ≡ true → AreFormedArgs us
    args resolves_no_args f = tt
    args (resolves_args a rest) f = let p = and_parts _ _ f in (arg a p.0, args rest p.1)

    exprs : {s : Locals} {es : Exprs} {us : NExprs} → ResolvesExprs top s es us → are_exprs_formed es ≡ true → AreFormedExprs us
    exprs resolves_no_exprs f = tt
    exprs (resolves_exprs g rest) f = let p = and_parts _ _ f in (expr g p.0, exprs rest p.1)

    binds : {s : Locals} {earlier : WordSet} {bs : Binds} {us : NBinds} → ResolvesBinds top s earlier bs us → are_binds_formed bs ≡ true → AreFormedBinds us
    binds resolves_no_binds f = tt
    binds (resolves_binds new a g rest) f = let p = and_parts _ _ f in let q = three _ _ _ p.0 in ((ty a q.1, expr g q.2), binds rest p.1)

    joins : {s : Locals} {earlier : WordSet} {js : Joins} {us : NJoins} → ResolvesJoins top s earlier js us → are_joins_formed js ≡ true → AreFormedJoins us
    joins resolves_no_joins f = tt
    joins (resolves_joins new b g rest) f = let p = and_parts _ _ f in let q = three _ _ _ p.0 in ((binders b q.1, expr g q.2), joins rest p.1)

    alts : {s : Locals} {xs : Alts} {us : NAlts} → ResolvesAlts top s xs us → are_alts_formed xs ≡ true → AreFormedAlts us
    alts resolves_no_alts f = tt
    alts (resolves_alts h b g rest) f = let p = and_parts _ _ f in let q = and_parts _ _ p.0 in ((of_head h b q.0, expr g q.1), alts rest p.1)

  -- DECLARATIONS

  field_coercions : {s : Locals} {ws : Words} {bs : List Binder} {cs : List NBinder} → ResolvesBinders top s ws bs cs → are_field_coercions bs ≡ true → AreFieldCoercions cs
  field_coercions resolves_no_binders f = tt
  field_coercions (resolves_binders new (resolves_value_binder a) rest) f = false_true f
  field_coercions (resolves_binders new resolves_type_binder rest) f = false_true f
  field_coercions (resolves_binders {s = s} new (resolves_coercion_binder {c = c} {r = r} {t = t} {u = u} a b) rest) f =
      let p = and_parts _ _ f in (binder {s = s} {b = BCo c r t u} (resolves_coercion_binder a b) p.0, field_coercions rest p.1)

  field_binders : {s : Locals} {ws : Words} {bs : List Binder} {cs : List NBinder} → ResolvesBinders top s ws bs cs → are_field_binders bs ≡ true → AreFieldBinders cs
  field_binders resolves_no_binders f = tt
  field_binders (resolves_binders new (resolves_value_binder a) rest) f = false_true f
  field_binders (resolves_binders new resolves_type_binder rest) f = field_binders rest (and_parts _ _ f).1
  field_binders (resolves_binders {s = s} new (resolves_coercion_binder {c = c} {r = r} {t = t} {u = u} a b) rest) f =
      let p = and_parts _ _ f in (binder {s = s} {b = BCo c r t u} (resolves_coercion_binder a b) p.0, field_coercions rest p.1)

  cons : {s : Locals} {earlier : WordSet} {cs : List ConDecl} {ds : List NConDecl} → ResolvesCons top s earlier cs ds → list_all is_con_formed cs ≡ true → AreFormedCons ds
  cons resolves_no_constructors f = tt
  cons (resolves_constructors new b a rest) f = let p = and_parts _ _ f in let q = three _ _ _ p.0 in ((q.0, field_binders b q.1, tys a q.2), cons rest p.1)

  decl : {ws : Words} {d : Decl} {u : NDecl} → ResolvesDecl top ws d u → is_decl_formed d ≡ true → IsFormedDecl u
  decl (resolves_data new distinct c) f = let p = three _ _ _ f in (p.0, cons c p.2)
  decl (resolves_newtype new distinct a con) f = let p = and_parts _ _ f in let q = and_parts _ _ p.0 in ((q.0, q.1), ty a (and_parts _ _ p.1).1)
  decl (resolves_family new distinct) f = (and_parts _ _ f).0
  decl (resolves_equation new distinct a b) f = let p = four _ _ _ _ f in (p.0, ty a p.2, ty b p.3)
  decl (resolves_def new a g) f = let p = three _ _ _ f in (p.0, ty a p.1, expr g p.2)
  decl (resolves_wrap new a g) f = let p = three _ _ _ f in (p.0, ty a p.1, expr g p.2)

  decls : {ws : Words} {ds : List Decl} {us : List NDecl} → ResolvesDecls top ws ds us → list_all is_decl_formed ds ≡ true → AreFormedDecls us
  decls resolves_no_decls f = tt
  decls (resolves_decls d rest) f = let p = and_parts _ _ f in (decl d p.0, decls rest p.1)

-- MODULES

pub read_is_formed : (m : Module) (n : NModule) → Resolves m n → IsFormed m → IsFormedModule n
read_is_formed m n (resolves_module {m = own} {imports = imports} {exports = exports} {hidden = hidden} {ds = ds} rules) f =
    let p = and_parts (is_module_name own && list_all is_module_name imports) _ f in
    let q = and_parts _ _ p.0 in
    let r = and_parts _ _ p.1 in
    let s = and_parts _ _ r.0 in
    ((q.0, q.1), (s.0, s.1), decls (top_of (ModuleOf own imports exports hidden ds)) q.0 rules r.1)
