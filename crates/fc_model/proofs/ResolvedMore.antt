-- What resolves among modules resolves alike where modules have more for others.
use Rattle.std.proofs.Common.{◌≡◌, true, List, Option, Some, None, Ok, refl, sym, ap, ◌∙◌, subst}
use Rattle.fc_syntax.specs.declared.ty.Name.{Name}
use Rattle.fc_syntax.specs.declared.expr.Head.{Head}
use Rattle.fc_syntax.specs.declared.fault.FaultKind.TheVariants.{NotExported, Unbound}
use Rattle.fc_syntax.specs.Tree.{Word, Ty, Co, Cos, Binder, Arg, Args, Expr, Exprs, Binds, Joins, Alts, ConDecl, Decl, Module, ModuleOf}
use Rattle.fc_model.specs.Faulting.{and_then, need}
use Rattle.fc_model.specs.Nameless.{NTy, NCo, NCos, NBinder, NArg, NArgs, NExpr, NExprs, NBinds, NJoins, NAlts, NConDecl, NDecl, NModule, NModuleOf}
use Rattle.fc_model.specs.Resolution.{Locals, Offers, Top, WordSet, Words, declared_name, no_words, resolved_among, resolved_decls, top_among}
use Rattle.fc_model.specs.ResolutionRules.{ResolvesTy, resolves_type_variable, resolves_type_name, resolves_int, resolves_type_application, resolves_function, resolves_forall, resolves_coforall}
use Rattle.fc_model.specs.ResolutionRules.{ResolvesTys, resolves_no_types, resolves_types}
use Rattle.fc_model.specs.ResolutionRules.{ResolvesCo, resolves_coercion_variable, resolves_refl, resolves_sym, resolves_trans, resolves_tc, resolves_capp, resolves_funco, resolves_allco}
use Rattle.fc_model.specs.ResolutionRules.{resolves_coallco, resolves_inst, resolves_nth, resolves_left, resolves_right, resolves_sub, resolves_axiom, resolves_univ}
use Rattle.fc_model.specs.ResolutionRules.{ResolvesCos, resolves_no_coercions, resolves_coercions}
use Rattle.fc_model.specs.ResolutionRules.{ResolvesBinder, resolves_value_binder, resolves_type_binder, resolves_coercion_binder, ResolvesBinders, resolves_no_binders, resolves_binders}
use Rattle.fc_model.specs.ResolutionRules.{ResolvesHead, resolves_default, resolves_literal_head, resolves_constructor_head}
use Rattle.fc_model.specs.ResolutionRules.{ResolvesExpr, resolves_local, resolves_definition, resolves_imported, resolves_literal, resolves_application, resolves_lambda, resolves_let}
use Rattle.fc_model.specs.ResolutionRules.{resolves_case, resolves_cast, resolves_constructor, resolves_primitive, resolves_fail, resolves_join, resolves_jump}
use Rattle.fc_model.specs.ResolutionRules.{ResolvesArg, resolves_term, resolves_type, resolves_coercion, ResolvesArgs, resolves_no_args, resolves_args, ResolvesExprs, resolves_no_exprs, resolves_exprs}
use Rattle.fc_model.specs.ResolutionRules.{ResolvesBinds, resolves_no_binds, resolves_binds, ResolvesJoins, resolves_no_joins, resolves_joins, ResolvesAlts, resolves_no_alts, resolves_alts}
use Rattle.fc_model.specs.ResolutionRules.{ResolvesCons, resolves_no_constructors, resolves_constructors}
use Rattle.fc_model.specs.ResolutionRules.{ResolvesDecl, resolves_data, resolves_newtype, resolves_family, resolves_equation, resolves_def, resolves_wrap, ResolvesDecls, resolves_no_decls, resolves_decls}
use Rattle.fc_model.proofs.Parts.{and_then_inv, need_inv}
use Rattle.fc_model.proofs.ResolvedModulesAre.{decls_are_resolved, resolved_decls_are}

-- a name that is found is found there too
abbrev pub FindsMore : Top → Top → (WordSet) → (Word → WordSet) → WordSet → (Word → WordSet) → Type 0
FindsMore top more words offered words' offered' =
    (o : Option Word) (w : Word) (m : Name) → declared_name top words offered o w ≡ Ok m → declared_name more words' offered' o w ≡ Ok m

module _ (top more : Top) (types : FindsMore top more top.types top.offers.types more.types more.offers.types)
    (terms : FindsMore top more top.terms top.offers.terms more.terms more.offers.terms)
    (coercions : FindsMore top more top.coercions top.offers.coercions more.coercions more.offers.coercions) where
  ty : {tys : List Word} {t : Ty} {a : NTy} → ResolvesTy top tys t a → ResolvesTy more tys t a
  ty (resolves_type_variable h) = resolves_type_variable h
  ty (resolves_type_name {n = n} {m = m} h) = resolves_type_name (types n.module n.text m h)
  ty resolves_int = resolves_int
  ty (resolves_type_application t u) = resolves_type_application (ty t) (ty u)
  ty (resolves_function t u) = resolves_function (ty t) (ty u)
  ty (resolves_forall t) = resolves_forall (ty t)
  ty (resolves_coforall t u v) = resolves_coforall (ty t) (ty u) (ty v)

  tys : {s : List Word} {ts : List Ty} {us : List NTy} → ResolvesTys top s ts us → ResolvesTys more s ts us
  tys resolves_no_types = resolves_no_types
  tys (resolves_types t ts) = resolves_types (ty t) (tys ts)

  mutual
    co : {s : Locals} {g : Co} {a : NCo} → ResolvesCo top s g a → ResolvesCo more s g a
    co (resolves_coercion_variable h) = resolves_coercion_variable h
    co (resolves_refl t) = resolves_refl (ty t)
    co (resolves_sym g) = resolves_sym (co g)
    co (resolves_trans g h) = resolves_trans (co g) (co h)
    co (resolves_tc {n = n} {m = m} h gs) = resolves_tc (types n.module n.text m h) (cos gs)
    co (resolves_capp g h) = resolves_capp (co g) (co h)
    co (resolves_funco g h) = resolves_funco (co g) (co h)
    co (resolves_allco g) = resolves_allco (co g)
    co (resolves_coallco f g h) = resolves_coallco (co f) (co g) (co h)
    co (resolves_inst g h) = resolves_inst (co g) (co h)
    co (resolves_nth g) = resolves_nth (co g)
    co (resolves_left g) = resolves_left (co g)
    co (resolves_right g) = resolves_right (co g)
    co (resolves_sub g) = resolves_sub (co g)
    co (resolves_axiom {n = n} {m = m} h gs) = resolves_axiom (coercions n.module n.text m h) (cos gs)
    co (resolves_univ t u) = resolves_univ (ty t) (ty u)

    cos : {s : Locals} {gs : Cos} {xs : NCos} → ResolvesCos top s gs xs → ResolvesCos more s gs xs
    cos resolves_no_coercions = resolves_no_coercions
    cos (resolves_coercions g gs) = resolves_coercions (co g) (cos gs)

  binder : {s : Locals} {b : Binder} {c : NBinder} → ResolvesBinder top s b c → ResolvesBinder more s b c
  binder (resolves_value_binder t) = resolves_value_binder (ty t)
  binder resolves_type_binder = resolves_type_binder
  binder (resolves_coercion_binder t u) = resolves_coercion_binder (ty t) (ty u)

  binders : {s : Locals} {ws : Words} {bs : List Binder} {cs : List NBinder} → ResolvesBinders top s ws bs cs → ResolvesBinders more s ws bs cs
  binders resolves_no_binders = resolves_no_binders
  binders (resolves_binders new b bs) = resolves_binders new (binder b) (binders bs)

  head : {h k : Head} → ResolvesHead top h k → ResolvesHead more h k
  head resolves_default = resolves_default
  head resolves_literal_head = resolves_literal_head
  head (resolves_constructor_head {n = n} {m = m} h) = resolves_constructor_head (terms n.module n.text m h)

  mutual
    expr : {s : Locals} {e : Expr} {f : NExpr} → ResolvesExpr top s e f → ResolvesExpr more s e f
    expr (resolves_local none h) = resolves_local none h
    expr (resolves_definition {n = n} {m = m} none nowhere h) = resolves_definition none nowhere (terms None n.text m h)
    expr (resolves_imported {n = n} {m = m} w some h) = resolves_imported w some (terms (Some w) n.text m h)
    expr resolves_literal = resolves_literal
    expr (resolves_application f a) = resolves_application (expr f) (arg a)
    expr (resolves_lambda b e) = resolves_lambda (binder b) (expr e)
    expr (resolves_let bs e) = resolves_let (binds bs) (expr e)
    expr (resolves_case e t u al) = resolves_case (expr e) (ty t) (ty u) (alts al)
    expr (resolves_cast e g) = resolves_cast (expr e) (co g)
    expr (resolves_constructor {n = n} {m = m} h args) = resolves_constructor (terms n.module n.text m h) (args_more args)
    expr (resolves_primitive es) = resolves_primitive (exprs es)
    expr (resolves_fail t) = resolves_fail (ty t)
    expr (resolves_join t js e) = resolves_join (ty t) (joins js) (expr e)
    expr (resolves_jump h args) = resolves_jump h (args_more args)

    arg : {s : Locals} {a : Arg} {b : NArg} → ResolvesArg top s a b → ResolvesArg more s a b
    arg (resolves_term e) = resolves_term (expr e)
    arg (resolves_type t) = resolves_type (ty t)
    arg (resolves_coercion g) = resolves_coercion (co g)

    args_more : {s : Locals} {al : Args} {xs : NArgs} → ResolvesArgs top s al xs → ResolvesArgs more s al xs
    args_more resolves_no_args = resolves_no_args
    args_more (resolves_args a rest) = resolves_args (arg a) (args_more rest)

    exprs : {s : Locals} {es : Exprs} {fs : NExprs} → ResolvesExprs top s es fs → ResolvesExprs more s es fs
    exprs resolves_no_exprs = resolves_no_exprs
    exprs (resolves_exprs e es) = resolves_exprs (expr e) (exprs es)

    binds : {s : Locals} {earlier : WordSet} {bs : Binds} {cs : NBinds} → ResolvesBinds top s earlier bs cs → ResolvesBinds more s earlier bs cs
    binds resolves_no_binds = resolves_no_binds
    binds (resolves_binds new t e rest) = resolves_binds new (ty t) (expr e) (binds rest)

    joins : {s : Locals} {earlier : WordSet} {js : Joins} {ks : NJoins} → ResolvesJoins top s earlier js ks → ResolvesJoins more s earlier js ks
    joins resolves_no_joins = resolves_no_joins
    joins (resolves_joins new ps e rest) = resolves_joins new (binders ps) (expr e) (joins rest)

    alts : {s : Locals} {al : Alts} {xs : NAlts} → ResolvesAlts top s al xs → ResolvesAlts more s al xs
    alts resolves_no_alts = resolves_no_alts
    alts (resolves_alts h bs e rest) = resolves_alts (head h) (binders bs) (expr e) (alts rest)

  constructors : {s : Locals} {earlier : WordSet} {cs : List ConDecl} {ds : List NConDecl} → ResolvesCons top s earlier cs ds → ResolvesCons more s earlier cs ds
  constructors resolves_no_constructors = resolves_no_constructors
  constructors (resolves_constructors new bs ts rest) = resolves_constructors new (binders bs) (tys ts) (constructors rest)

  decl : {ws : Words} {d : Decl} {c : NDecl} → ResolvesDecl top ws d c → ResolvesDecl more ws d c
  decl (resolves_data new ps cs) = resolves_data new ps (constructors cs)
  decl (resolves_newtype new ps t con) = resolves_newtype new ps (ty t) con
  decl (resolves_family new ps) = resolves_family new ps
  decl (resolves_equation new ps t u) = resolves_equation new ps (ty t) (ty u)
  decl (resolves_def new t e) = resolves_def new (ty t) (expr e)
  decl (resolves_wrap new t e) = resolves_wrap new (ty t) (expr e)

  decls : {ws : Words} {ds : List Decl} {cs : List NDecl} → ResolvesDecls top ws ds cs → ResolvesDecls more ws ds cs
  decls resolves_no_decls = resolves_no_decls
  decls (resolves_decls d rest) = resolves_decls (decl d) (decls rest)

-- each word that a module has for others it has here too
abbrev pub HasMore : (Word → WordSet) → (Word → WordSet) → Type 0
HasMore offered more = (m w : Word) → offered m w ≡ true → more m w ≡ true

pub record OffersMore (offers more : Offers) : Type 0 where
  pub types : HasMore offers.types more.types
  pub terms : HasMore offers.terms more.terms
  pub coercions : HasMore offers.coercions more.coercions

-- among modules that have more, a name that is found is found
names_more : (top more : Top) → top.own ≡ more.own → top.imports ≡ more.imports → (words : WordSet) (offered offered' : Word → WordSet) → HasMore offered offered'
    → FindsMore top more words offered words offered'
names_more top more own imports words offered offered' has None w m h =
    subst (λ o. need (words w) Unbound (Ok (record { «module» = Some o; text = w })) ≡ Ok m) own h
names_more top more own imports words offered offered' has (Some v) w m h =
    let p = need_inv (top.imports v) Unbound _ m h in
    let q = need_inv (offered v w) NotExported _ m p.1 in
    rw (sym (ap (λ (s : WordSet). s v) imports) ∙ p.0, has v w q.0) q.1

pub decls_among_more : (offers more : Offers) → OffersMore offers more → (m : Module) {ws : Words} {ds : List Decl} {cs : List NDecl}
    → ResolvesDecls (top_among offers m) ws ds cs → ResolvesDecls (top_among more m) ws ds cs
decls_among_more offers more has (ModuleOf m imports exports hidden ds) rules =
    let top = top_among offers (ModuleOf m imports exports hidden ds) in
    let top' = top_among more (ModuleOf m imports exports hidden ds) in
    decls top top' (names_more top top' refl refl top.types offers.types more.types has.types) (names_more top top' refl refl top.terms offers.terms more.terms has.terms)
    (names_more top top' refl refl top.coercions offers.coercions more.coercions has.coercions) rules

-- what resolves among modules resolves alike among modules that have more for others
pub resolved_more : (offers more : Offers) → OffersMore offers more → (m : Module) (n : NModule) → resolved_among offers m ≡ Ok n → resolved_among more m ≡ Ok n
resolved_more offers more has (ModuleOf m imports exports hidden ds) n h =
    let top = top_among offers (ModuleOf m imports exports hidden ds) in
    let top' = top_among more (ModuleOf m imports exports hidden ds) in
    let p = and_then_inv (resolved_decls top no_words ds) _ n h in
    let rules = decls_among_more offers more has (ModuleOf m imports exports hidden ds) (resolved_decls_are top no_words ds p.0 p.1) in
    ap (λ r. and_then r (λ cs. Ok (NModuleOf m imports exports hidden cs))) (decls_are_resolved top' rules) ∙ p.2
