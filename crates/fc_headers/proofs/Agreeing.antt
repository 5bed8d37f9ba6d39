-- The form of a module that resolves mentions no module but itself and those that it imports. So its written header is that of the module.
use Rattle.std.proofs.Common.{◌≡◌, true, List, ◌∷◌, ◌++◌, Option, Some, None, Ok, append-nil, refl, sym, ap, ◌∙◌, subst}
use Rattle.std.specs.List.{flat_map, list_all}
use Rattle.std.proofs.lemmas.List.Concat.{flat_map-cons}
use Rattle.fc_syntax.specs.declared.ty.Name.{Name}
use Rattle.fc_syntax.specs.declared.expr.Head.{Head}
use Rattle.fc_syntax.specs.declared.fault.FaultKind.TheVariants.{NotExported, Unbound}
use Rattle.fc_syntax.specs.Tree.{Word, Ty, Co, Cos, Binder, Arg, Args, Expr, Exprs, Binds, Joins, Alts, ConDecl, Decl, ModuleOf}
use Rattle.fc_model.specs.Faulting.{and_then}
use Rattle.fc_model.specs.Headers.{hidden_of, others, written_among}
use Rattle.fc_model.specs.Mentioning.{in_head, in_name}
use Rattle.fc_model.specs.Nameless.{NTy, NCo, NCos, NBinder, NArg, NArgs, NExpr, NExprs, NBinds, NJoins, NAlts, NConDecl, NConOf, NDecl, NModuleOf}
use Rattle.fc_model.specs.Resolution.{Locals, Top, WordSet, Words, declared_name, no_word, no_words, plus, plus_all, resolved_decls, resolved_or_fault, top_of}
use Rattle.fc_model.specs.ResolutionRules.{ResolvesTy, resolves_type_variable, resolves_type_name, resolves_int, resolves_type_application, resolves_function, resolves_forall, resolves_coforall}
use Rattle.fc_model.specs.ResolutionRules.{ResolvesTys, resolves_no_types, resolves_types}
use Rattle.fc_model.specs.ResolutionRules.{ResolvesCo, resolves_coercion_variable, resolves_refl, resolves_sym, resolves_trans, resolves_tc, resolves_capp, resolves_funco, resolves_allco}
use Rattle.fc_model.specs.ResolutionRules.{resolves_coallco, resolves_inst, resolves_nth, resolves_left, resolves_right, resolves_sub, resolves_axiom, resolves_univ}
use Rattle.fc_model.specs.ResolutionRules.{ResolvesCos, resolves_no_coercions, resolves_coercions}
use Rattle.fc_model.specs.ResolutionRules.{ResolvesBinder, resolves_value_binder, resolves_type_binder, resolves_coercion_binder, ResolvesBinders, resolves_no_binders, resolves_binders}
use Rattle.fc_model.specs.ResolutionRules.{ResolvesHead, resolves_default, resolves_literal_head, resolves_constructor_head}
use Rattle.fc_model.specs.ResolutionRules.{ResolvesExpr, resolves_local, resolves_definition, resolves_imported, resolves_literal, resolves_application, resolves_lambda, resolves_let}
use Rattle.fc_model.specs.ResolutionRules.{resolves_case, resolves_cast, resolves_constructor, resolves_primitive, resolves_fail, resolves_join, resolves_jump}
use Rattle.fc_model.specs.ResolutionRules.{ResolvesArg, resolves_term, resolves_type, resolves_coercion, ResolvesArgs, resolves_no_args, resolves_args, ResolvesExprs, resolves_no_exprs, resolves_exprs}
use Rattle.fc_model.specs.ResolutionRules.{ResolvesBinds, resolves_no_binds, resolves_binds, ResolvesJoins, resolves_no_joins, resolves_joins, ResolvesAlts, resolves_no_alts, resolves_alts}
use Rattle.fc_model.specs.ResolutionRules.{ResolvesCons, resolves_no_constructors, resolves_constructors}
use Rattle.fc_model.specs.ResolutionRules.{ResolvesDecl, resolves_data, resolves_newtype, resolves_family, resolves_equation, resolves_def, resolves_wrap, ResolvesDecls, resolves_no_decls, resolves_decls}
use Rattle.fc_model.proofs.Parts.{and_then_inv, need_inv, ok_ok}
use Rattle.fc_model.proofs.Resolved.{decls_have_words}
use Rattle.fc_model.proofs.ResolvedModulesAre.{resolved_decls_are}
use Rattle.fc_model.proofs.Sameness.{bytes_eq_refl, false_true}
use Rattle.fc_model.proofs.SetWritten.{written_alone}
use Rattle.fc_model.proofs.UnderHeader.{all_are_in, all_keep, all_of_both}
use Rattle.fc_headers.specs.NamelessHeaders.{HeadersAgree, form_written_among, hidden_of_form, imports_of_form}
use Rattle.fc_headers.specs.NamelessHeaders.{modules_in_alts, modules_in_arg, modules_in_args, modules_in_binder, modules_in_binds, modules_in_coercion, modules_in_coercions, modules_in_constructor}
use Rattle.fc_headers.specs.NamelessHeaders.{modules_in_decl, modules_in_decls, modules_in_expr, modules_in_exprs, modules_in_joins, modules_in_type}
use Rattle.fc_model.proofs.SetWritten.{in_all, none_chosen}

-- WHAT A FORM MENTIONS is known, where the module itself is, and each that it imports
module _ (top : Top) (known : WordSet) (itself : known top.own ≡ true)
    (imported : (w : Word) → top.imports w ≡ true → known w ≡ true) where
  abbrev Known : List Word → Type 0
  Known ws = list_all known ws ≡ true

  both : (vs ws : List Word) → Known vs → Known ws → Known (vs ++ ws)
  both vs ws v w = all_of_both known vs ws v w

  mapped : {X : Type 0} (f : X → List Word) (x : X) (xs : List X) → Known (f x) → Known (flat_map f xs) → Known (flat_map f (x ∷ xs))
  mapped f x xs h g = ap (λ ws. list_all known ws) (flat_map-cons f x xs) ∙ both (f x) (flat_map f xs) h g

  name : (words : WordSet) (offered : Word → WordSet) (o : Option Word) (w : Word) (m : Name) → declared_name top words offered o w ≡ Ok m → Known (in_name m.module)
  name words offered None w m h = subst (λ (n : Name). Known (in_name n.module)) (ok_ok (need_inv (words w) Unbound _ m h).1) (rw itself refl)
  name words offered (Some v) w m h =
      let p = need_inv (top.imports v) Unbound _ m h in
      subst (λ (n : Name). Known (in_name n.module)) (ok_ok (need_inv (offered v w) NotExported _ m p.1).1) (rw (imported v p.0) refl)

  ty : {s : List Word} {t : Ty} {a : NTy} → ResolvesTy top s t a → Known (modules_in_type a)
  ty (resolves_type_variable h) = refl
  ty (resolves_type_name {n = n} {m = m} h) = name _ _ n.module n.text m h
  ty resolves_int = refl
  ty (resolves_type_application t u) = both _ _ (ty t) (ty u)
  ty (resolves_function t u) = both _ _ (ty t) (ty u)
  ty (resolves_forall t) = ty t
  ty (resolves_coforall t u v) = both _ _ (ty t) (both _ _ (ty u) (ty v))

  tys : {s : List Word} {ts : List Ty} {us : List NTy} → ResolvesTys top s ts us → Known (flat_map modules_in_type us)
  tys resolves_no_types = refl
  tys (resolves_types {a = a} {us = us} h rest) = mapped modules_in_type a us (ty h) (tys rest)

  mutual
    co : {s : Locals} {g : Co} {a : NCo} → ResolvesCo top s g a → Known (modules_in_coercion a)
    co (resolves_coercion_variable h) = refl
    co (resolves_refl t) = ty t
    co (resolves_sym g) = co g
    co (resolves_trans g h) = both _ _ (co g) (co h)
    co (resolves_tc {n = n} {m = m} h gs) = both _ _ (name _ _ n.module n.text m h) (cos gs)
    co (resolves_capp g h) = both _ _ (co g) (co h)
    co (resolves_funco g h) = both _ _ (co g) (co h)
    co (resolves_allco g) = co g
    co (resolves_coallco f g h) = both _ _ (co f) (both _ _ (co g) (co h))
    co (resolves_inst g h) = both _ _ (co g) (co h)
    co (resolves_nth g) = co g
    co (resolves_left g) = co g
    co (resolves_right g) = co g
    co (resolves_sub g) = co g
    co (resolves_axiom {n = n} {m = m} h gs) = both _ _ (name _ _ n.module n.text m h) (cos gs)
    co (resolves_univ t u) = both _ _ (ty t) (ty u)

    cos : {s : Locals} {gs : Cos} {xs : NCos} → ResolvesCos top s gs xs → Known (modules_in_coercions xs)
    cos resolves_no_coercions = refl
    cos (resolves_coercions g gs) = both _ _ (co g) (cos gs)

  binder : {s : Locals} {b : Binder} {c : NBinder} → ResolvesBinder top s b c → Known (modules_in_binder c)
  binder (resolves_value_binder t) = ty t
  binder resolves_type_binder = refl
  binder (resolves_coercion_binder t u) = both _ _ (ty t) (ty u)

  binders : {s : Locals} {ws : Words} {bs : List Binder} {cs : List NBinder} → ResolvesBinders top s ws bs cs → Known (flat_map modules_in_binder cs)
  binders resolves_no_binders = refl
  binders (resolves_binders {c = c} {cs = cs} new h rest) = mapped modules_in_binder c cs (binder h) (binders rest)

  head : {h k : Head} → ResolvesHead top h k → Known (in_head k)
  head resolves_default = refl
  head resolves_literal_head = refl
  head (resolves_constructor_head {n = n} {m = m} h) = name _ _ n.module n.text m h

  mutual
    expr : {s : Locals} {e : Expr} {f : NExpr} → ResolvesExpr top s e f → Known (modules_in_expr f)
    expr (resolves_local none h) = refl
    expr (resolves_definition {n = n} {m = m} none nowhere h) = name top.terms top.offers.terms None n.text m h
    expr (resolves_imported {n = n} {m = m} w some h) = name top.terms top.offers.terms (Some w) n.text m h
    expr resolves_literal = refl
    expr (resolves_application f a) = both _ _ (expr f) (arg a)
    expr (resolves_lambda b e) = both _ _ (binder b) (expr e)
    expr (resolves_let bs e) = both _ _ (binds bs) (expr e)
    expr (resolves_case e t u al) = both _ _ (expr e) (both _ _ (ty t) (both _ _ (ty u) (alts al)))
    expr (resolves_cast e g) = both _ _ (expr e) (co g)
    expr (resolves_constructor {n = n} {m = m} h xs) = both _ _ (name _ _ n.module n.text m h) (args xs)
    expr (resolves_primitive es) = exprs es
    expr (resolves_fail t) = ty t
    expr (resolves_join t js e) = both _ _ (ty t) (both _ _ (joins js) (expr e))
    expr (resolves_jump h xs) = args xs

    arg : {s : Locals} {a : Arg} {b : NArg} → ResolvesArg top s a b → Known (modules_in_arg b)
    arg (resolves_term e) = expr e
    arg (resolves_type t) = ty t
    arg (resolves_coercion g) = co g

    args : {s : Locals} {al : Args} {xs : NArgs} → ResolvesArgs top s al xs → Known (modules_in_args xs)
    args resolves_no_args = refl
    args (resolves_args a rest) = both _ _ (arg a) (args rest)

    exprs : {s : Locals} {es : Exprs} {fs : NExprs} → ResolvesExprs top s es fs → Known (modules_in_exprs fs)
    exprs resolves_no_exprs = refl
    exprs (resolves_exprs e es) = both _ _ (expr e) (exprs es)

    binds : {s : Locals} {earlier : WordSet} {bs : Binds} {cs : NBinds} → ResolvesBinds top s earlier bs cs → Known (modules_in_binds cs)
    binds resolves_no_binds = refl
    binds (resolves_binds new t e rest) = both _ _ (ty t) (both _ _ (expr e) (binds rest))

    joins : {s : Locals} {earlier : WordSet} {js : Joins} {ks : NJoins} → ResolvesJoins top s earlier js ks → Known (modules_in_joins ks)
    joins resolves_no_joins = refl
    joins (resolves_joins new ps e rest) = both _ _ (binders ps) (both _ _ (expr e) (joins rest))

    alts : {s : Locals} {al : Alts} {xs : NAlts} → ResolvesAlts top s al xs → Known (modules_in_alts xs)
    alts resolves_no_alts = refl
    alts (resolves_alts h bs e rest) = both _ _ (head h) (both _ _ (binders bs) (both _ _ (expr e) (alts rest)))

  constructors : {s : Locals} {earlier : WordSet} {cs : List ConDecl} {ds : List NConDecl} → ResolvesCons top s earlier cs ds
      → Known (flat_map modules_in_constructor ds)
  constructors resolves_no_constructors = refl
  constructors (resolves_constructors {n = n} {cs = own} {ts = ts} {es = es} new bs fields rest) =
      mapped modules_in_constructor (NConOf n own ts) es (both _ _ (binders bs) (tys fields)) (constructors rest)

  decl : {ws : Words} {d : Decl} {c : NDecl} → ResolvesDecl top ws d c → Known (modules_in_decl c)
  decl (resolves_data new ps cs) = constructors cs
  decl (resolves_newtype new ps t con) = ty t
  decl (resolves_family new ps) = refl
  decl (resolves_equation new ps t u) = both _ _ (ty t) (ty u)
  decl (resolves_def new t e) = both _ _ (ty t) (expr e)
  decl (resolves_wrap new t e) = both _ _ (ty t) (expr e)

  form_mentions_known : {ws : Words} {ds : List Decl} {cs : List NDecl} → ResolvesDecls top ws ds cs → Known (modules_in_decls cs)
  form_mentions_known resolves_no_decls = refl
  form_mentions_known (resolves_decls {c = c} {cs = cs} h rest) = mapped modules_in_decl c cs (decl h) (form_mentions_known rest)

-- SETS

among : (p : WordSet) (ws : List Word) → list_all p ws ≡ true → (w : Word) → plus_all ws no_word w ≡ true → p w ≡ true
among p ws all w h = in_all p no_word ws all (λ v g. false_true g) w h

-- THE LAW

pub headers_agree : HeadersAgree
headers_agree order (ModuleOf m imports exports hidden ds) n h =
    let read = ModuleOf m imports exports hidden ds in
    let e = and_then_inv (resolved_decls (top_of read) no_words ds) _ n h in
    let known = plus_all imports (plus m no_word) in
    let own : known m ≡ true = all_keep imports (plus m no_word) m (rw (bytes_eq_refl m) refl) in
    let all = form_mentions_known (top_of read) known own (among known imports (all_are_in imports (plus m no_word)))
    (resolved_decls_are (top_of read) no_words ds e.0 e.1) in
    let none = none_chosen (plus_all (modules_in_decls e.0) no_word) known order (among known (modules_in_decls e.0) all) in
    let same : imports_of_form order (NModuleOf m imports exports hidden e.0) ≡ imports = ap (λ ws. imports ++ ws) none ∙ append-nil imports in
    let words : hidden_of read ≡ hidden_of_form (NModuleOf m imports exports hidden e.0) =
    ap (λ ws. hidden ++ others (plus_all hidden (plus_all exports no_word)) ws) (decls_have_words (top_of read) no_words ds e.0 e.1) in
    subst (λ k. resolved_or_fault (written_among order read) ≡ Ok (form_written_among order k)) (ok_ok e.2)
    (ap (λ k. resolved_or_fault k) (written_alone order read n h) ∙ ap (λ r. and_then r (λ cs. Ok (NModuleOf m imports exports (hidden_of read) cs))) e.1
    ∙ ap (λ ws. Ok (NModuleOf m imports exports ws e.0)) words
    ∙ ap (λ is. Ok (NModuleOf m is exports (hidden_of_form (NModuleOf m imports exports hidden e.0)) e.0)) (sym same))
