-- A module that resolves mentions only modules that it imports.
use Rattle.std.proofs.Common.{◌≡◌, true, List, ◌∷◌, ◌++◌, Option, Some, None, Ok, refl, ap, ◌∙◌}
use Rattle.std.specs.List.{flat_map, list_all}
use Rattle.std.proofs.lemmas.List.Concat.{flat_map-cons}
use Rattle.std.proofs.lemmas.List.Folds.{list_all-append}
use Rattle.fc_syntax.specs.declared.ty.Name.{Name}
use Rattle.fc_syntax.specs.declared.expr.Head.{Head}
use Rattle.fc_syntax.specs.declared.fault.FaultKind.TheVariants.{Unbound}
use Rattle.fc_syntax.specs.Tree.{Word, Ty, Co, Cos, Binder, Arg, Args, Expr, Exprs, Binds, Joins, Alts, ConDecl, ConOf, Decl}
use Rattle.fc_model.specs.Mentioning.{in_alts, in_arg, in_args, in_binder, in_binds, in_coercion, in_coercions, in_constructor, in_decl, in_expr, in_exprs, in_head, in_joins, in_name, in_type, mentioned_in}
use Rattle.fc_model.specs.Nameless.{NTy, NCo, NCos, NBinder, NArg, NArgs, NExpr, NExprs, NBinds, NJoins, NAlts, NConDecl, NDecl}
use Rattle.fc_model.specs.Resolution.{Locals, Top, WordSet, Words, declared_name}
use Rattle.fc_model.specs.ResolutionRules.{ResolvesTy, resolves_type_variable, resolves_type_name, resolves_int, resolves_type_application, resolves_function, resolves_forall, resolves_coforall}
use Rattle.fc_model.specs.ResolutionRules.{ResolvesTys, resolves_no_types, resolves_types}
use Rattle.fc_model.specs.ResolutionRules.{ResolvesCo, resolves_coercion_variable, resolves_refl, resolves_sym, resolves_trans, resolves_tc, resolves_capp, resolves_funco, resolves_allco}
use Rattle.fc_model.specs.ResolutionRules.{resolves_coallco, resolves_inst, resolves_nth, resolves_left, resolves_right, resolves_sub, resolves_axiom, resolves_univ}
use Rattle.fc_model.specs.ResolutionRules.{ResolvesCos, resolves_no_coercions, resolves_coercions}
use Rattle.fc_model.specs.ResolutionRules.{ResolvesBinder, resolves_value_binder, resolves_type_binder, resolves_coercion_binder, ResolvesBinders, resolves_no_binders, resolves_binders}
use Rattle.fc_model.specs.ResolutionRules.{ResolvesHead, resolves_default, resolves_literal_head, resolves_constructor_head}
use Rattle.fc_model.specs.ResolutionRules.{ResolvesExpr, resolves_local, resolves_definition, resolves_imported, resolves_literal, resolves_application, resolves_lambda, resolves_let}
use Rattle.fc_model.specs.ResolutionRules.{resolves_case, resolves_cast, resolves_constructor, resolves_primitive, resolves_fail, resolves_join, resolves_jump}
use Rattle.fc_model.specs.ResolutionRules.{ResolvesArg, resolves_term, resolves_type, resolves_coercion, ResolvesArgs, resolves_no_args, resolves_args, ResolvesExprs, resolves_no_exprs, resolves_exprs}
use Rattle.fc_model.specs.ResolutionRules.{ResolvesBinds, resolves_no_binds, resolves_binds, ResolvesJoins, resolves_no_joins, resolves_joins, ResolvesAlts, resolves_no_alts, resolves_alts}
use Rattle.fc_model.specs.ResolutionRules.{ResolvesCons, resolves_no_constructors, resolves_constructors}
use Rattle.fc_model.specs.ResolutionRules.{ResolvesDecl, resolves_data, resolves_newtype, resolves_family, resolves_equation, resolves_def, resolves_wrap, ResolvesDecls, resolves_no_decls, resolves_decls}
use Rattle.fc_model.proofs.Parts.{need_inv}

-- of a name that is found the module is imported
name_imported : (top : Top) (words : WordSet) (offered : Word → WordSet) (o : Option Word) (w : Word) (m : Name) → declared_name top words offered o w ≡ Ok m → list_all top.imports (in_name o) ≡ true
name_imported top words offered None w m h = refl
name_imported top words offered (Some v) w m h = let p = need_inv (top.imports v) Unbound _ m h in rw p.0 refl

module _ (top : Top) where
  abbrev Imported : List Word → Type 0
  Imported ws = list_all top.imports ws ≡ true

  both : (vs ws : List Word) → Imported vs → Imported ws → Imported (vs ++ ws)
  both vs ws v w = list_all-append top.imports vs ws ∙ rw (v, w) refl

  mapped : {X : Type 0} (f : X → List Word) (x : X) (xs : List X) → Imported (f x) → Imported (flat_map f xs) → Imported (flat_map f (x ∷ xs))
  mapped f x xs h g = ap (λ ws. list_all top.imports ws) (flat_map-cons f x xs) ∙ both (f x) (flat_map f xs) h g

  ty : {s : List Word} {t : Ty} {a : NTy} → ResolvesTy top s t a → Imported (in_type t)
  ty (resolves_type_variable h) = refl
  ty (resolves_type_name {n = n} {m = m} h) = name_imported top _ _ n.module n.text m h
  ty resolves_int = refl
  ty (resolves_type_application t u) = both _ _ (ty t) (ty u)
  ty (resolves_function t u) = both _ _ (ty t) (ty u)
  ty (resolves_forall t) = ty t
  ty (resolves_coforall t u v) = both _ _ (ty t) (both _ _ (ty u) (ty v))

  tys : {s : List Word} {ts : List Ty} {us : List NTy} → ResolvesTys top s ts us → Imported (flat_map in_type ts)
  tys resolves_no_types = refl
  tys (resolves_types {t = t} {ts = ts} h rest) = mapped in_type t ts (ty h) (tys rest)

  mutual
    co : {s : Locals} {g : Co} {a : NCo} → ResolvesCo top s g a → Imported (in_coercion g)
    co (resolves_coercion_variable h) = refl
    co (resolves_refl t) = ty t
    co (resolves_sym g) = co g
    co (resolves_trans g h) = both _ _ (co g) (co h)
    co (resolves_tc {n = n} {m = m} h gs) = both _ _ (name_imported top _ _ n.module n.text m h) (cos gs)
    co (resolves_capp g h) = both _ _ (co g) (co h)
    co (resolves_funco g h) = both _ _ (co g) (co h)
    co (resolves_allco g) = co g
    co (resolves_coallco f g h) = both _ _ (co f) (both _ _ (co g) (co h))
    co (resolves_inst g h) = both _ _ (co g) (co h)
    co (resolves_nth g) = co g
    co (resolves_left g) = co g
    co (resolves_right g) = co g
    co (resolves_sub g) = co g
    co (resolves_axiom {n = n} {m = m} h gs) = both _ _ (name_imported top _ _ n.module n.text m h) (cos gs)
    co (resolves_univ t u) = both _ _ (ty t) (ty u)

    cos : {s : Locals} {gs : Cos} {xs : NCos} → ResolvesCos top s gs xs → Imported (in_coercions gs)
    cos resolves_no_coercions = refl
    cos (resolves_coercions g gs) = both _ _ (co g) (cos gs)

  binder : {s : Locals} {b : Binder} {c : NBinder} → ResolvesBinder top s b c → Imported (in_binder b)
  binder (resolves_value_binder t) = ty t
  binder resolves_type_binder = refl
  binder (resolves_coercion_binder t u) = both _ _ (ty t) (ty u)

  binders : {s : Locals} {ws : Words} {bs : List Binder} {cs : List NBinder} → ResolvesBinders top s ws bs cs → Imported (flat_map in_binder bs)
  binders resolves_no_binders = refl
  binders (resolves_binders {b = b} {bs = bs} new h rest) = mapped in_binder b bs (binder h) (binders rest)

  head : {h k : Head} → ResolvesHead top h k → Imported (in_head h)
  head resolves_default = refl
  head resolves_literal_head = refl
  head (resolves_constructor_head {n = n} {m = m} h) = name_imported top _ _ n.module n.text m h

  no_module : (o : Option Word) → o ≡ None → Imported (in_name o)
  no_module None h = refl
  no_module (Some m) h = absurd cc

  one_module : (o : Option Word) (w : Word) → o ≡ Some w → top.imports w ≡ true → Imported (in_name o)
  one_module None w h g = absurd cc
  one_module (Some m) w h g = let same : m ≡ w = cc in rw (ap (λ v. top.imports v) same ∙ g) refl

  mutual
    expr : {s : Locals} {e : Expr} {f : NExpr} → ResolvesExpr top s e f → Imported (in_expr e)
    expr (resolves_local {n = n} none h) = no_module n.module none
    expr (resolves_definition {n = n} none nowhere h) = no_module n.module none
    expr (resolves_imported {n = n} {m = m} w some h) = one_module n.module w some (need_inv (top.imports w) Unbound _ m h).0
    expr resolves_literal = refl
    expr (resolves_application f a) = both _ _ (expr f) (arg a)
    expr (resolves_lambda b e) = both _ _ (binder b) (expr e)
    expr (resolves_let bs e) = both _ _ (binds bs) (expr e)
    expr (resolves_case e t u al) = both _ _ (expr e) (both _ _ (ty t) (both _ _ (ty u) (alts al)))
    expr (resolves_cast e g) = both _ _ (expr e) (co g)
    expr (resolves_constructor {n = n} {m = m} h xs) = both _ _ (name_imported top _ _ n.module n.text m h) (args xs)
    expr (resolves_primitive es) = exprs es
    expr (resolves_fail t) = ty t
    expr (resolves_join t js e) = both _ _ (ty t) (both _ _ (joins js) (expr e))
    expr (resolves_jump h xs) = args xs

    arg : {s : Locals} {a : Arg} {b : NArg} → ResolvesArg top s a b → Imported (in_arg a)
    arg (resolves_term e) = expr e
    arg (resolves_type t) = ty t
    arg (resolves_coercion g) = co g

    args : {s : Locals} {al : Args} {xs : NArgs} → ResolvesArgs top s al xs → Imported (in_args al)
    args resolves_no_args = refl
    args (resolves_args a rest) = both _ _ (arg a) (args rest)

    exprs : {s : Locals} {es : Exprs} {fs : NExprs} → ResolvesExprs top s es fs → Imported (in_exprs es)
    exprs resolves_no_exprs = refl
    exprs (resolves_exprs e es) = both _ _ (expr e) (exprs es)

    binds : {s : Locals} {earlier : WordSet} {bs : Binds} {cs : NBinds} → ResolvesBinds top s earlier bs cs → Imported (in_binds bs)
    binds resolves_no_binds = refl
    binds (resolves_binds new t e rest) = both _ _ (ty t) (both _ _ (expr e) (binds rest))

    joins : {s : Locals} {earlier : WordSet} {js : Joins} {ks : NJoins} → ResolvesJoins top s earlier js ks → Imported (in_joins js)
    joins resolves_no_joins = refl
    joins (resolves_joins new ps e rest) = both _ _ (binders ps) (both _ _ (expr e) (joins rest))

    alts : {s : Locals} {al : Alts} {xs : NAlts} → ResolvesAlts top s al xs → Imported (in_alts al)
    alts resolves_no_alts = refl
    alts (resolves_alts h bs e rest) = both _ _ (head h) (both _ _ (binders bs) (both _ _ (expr e) (alts rest)))

  constructors : {s : Locals} {earlier : WordSet} {cs : List ConDecl} {ds : List NConDecl} → ResolvesCons top s earlier cs ds → Imported (flat_map in_constructor cs)
  constructors resolves_no_constructors = refl
  constructors (resolves_constructors {n = n} {bs = own} {fields = fields} {ds = ds} new bs ts rest) = mapped in_constructor (ConOf n own fields) ds (both _ _ (binders bs) (tys ts)) (constructors rest)

  decl : {ws : Words} {d : Decl} {c : NDecl} → ResolvesDecl top ws d c → Imported (in_decl d)
  decl (resolves_data new ps cs) = constructors cs
  decl (resolves_newtype new ps t con) = ty t
  decl (resolves_family new ps) = refl
  decl (resolves_equation new ps t u) = both _ _ (ty t) (ty u)
  decl (resolves_def new t e) = both _ _ (ty t) (expr e)
  decl (resolves_wrap new t e) = both _ _ (ty t) (expr e)

  pub mentioned_are_imported : {ws : Words} {ds : List Decl} {cs : List NDecl} → ResolvesDecls top ws ds cs → Imported (mentioned_in ds)
  mentioned_are_imported resolves_no_decls = refl
  mentioned_are_imported (resolves_decls {d = d} {ds = ds} h rest) = mapped in_decl d ds (decl h) (mentioned_are_imported rest)
