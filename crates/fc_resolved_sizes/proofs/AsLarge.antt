-- What a tree resolves to is as large and as deep as the tree.
use Rattle.std.proofs.Common.{◌≡◌, suc, List, [], ◌∷◌, map, length, refl, ap}
use Rattle.fc_syntax.specs.Measures.{ty_size, co_size, cos_size, binder_size, binders_size, expr_size, arg_size, exprs_size, args_size, binds_size, joins_size, alts_size, tys_size, cons_size, decl_size, decls_size}
use Rattle.fc_syntax.specs.Measures.{ty_depth, co_depth, cos_depth, binder_depth, binders_depth, expr_depth, arg_depth, exprs_depth, args_depth, binds_depth, joins_depth, alts_depth, leaves_depth, tys_depth, cons_depth, depth_of}
use Rattle.fc_syntax.specs.Tree.{Word, Ty, Co, Cos, Binder, Arg, Args, Expr, Exprs, Binds, Joins, Alts, ConDecl, Decl}
use Rattle.fc_model.specs.Nameless.{NTy, NCo, NCos, NBinder, NArg, NArgs, NExpr, NExprs, NBinds, NJoins, NAlts, NConDecl, NDecl}
use Rattle.fc_model.specs.Resolution.{Locals, Top, WordSet, Words}
use Rattle.fc_model.specs.ResolutionRules.{ResolvesTy, resolves_type_variable, resolves_type_name, resolves_int, resolves_type_application, resolves_function, resolves_forall, resolves_coforall}
use Rattle.fc_model.specs.ResolutionRules.{ResolvesTys, resolves_no_types, resolves_types}
use Rattle.fc_model.specs.ResolutionRules.{ResolvesCo, resolves_coercion_variable, resolves_refl, resolves_sym, resolves_trans, resolves_tc, resolves_capp, resolves_funco, resolves_allco}
use Rattle.fc_model.specs.ResolutionRules.{resolves_coallco, resolves_inst, resolves_nth, resolves_left, resolves_right, resolves_sub, resolves_axiom, resolves_univ}
use Rattle.fc_model.specs.ResolutionRules.{ResolvesCos, resolves_no_coercions, resolves_coercions}
use Rattle.fc_model.specs.ResolutionRules.{ResolvesBinder, resolves_value_binder, resolves_type_binder, resolves_coercion_binder, ResolvesBinders, resolves_no_binders, resolves_binders}
use Rattle.fc_model.specs.ResolutionRules.{ResolvesExpr, resolves_local, resolves_definition, resolves_imported, resolves_literal, resolves_application, resolves_lambda, resolves_let}
use Rattle.fc_model.specs.ResolutionRules.{resolves_case, resolves_cast, resolves_constructor, resolves_primitive, resolves_fail, resolves_join, resolves_jump}
use Rattle.fc_model.specs.ResolutionRules.{ResolvesArg, resolves_term, resolves_type, resolves_coercion, ResolvesArgs, resolves_no_args, resolves_args, ResolvesExprs, resolves_no_exprs, resolves_exprs}
use Rattle.fc_model.specs.ResolutionRules.{ResolvesBinds, resolves_no_binds, resolves_binds, ResolvesJoins, resolves_no_joins, resolves_joins, ResolvesAlts, resolves_no_alts, resolves_alts}
use Rattle.fc_model.specs.ResolutionRules.{ResolvesCons, resolves_no_constructors, resolves_constructors}
use Rattle.fc_model.specs.ResolutionRules.{ResolvesDecl, resolves_data, resolves_newtype, resolves_family, resolves_equation, resolves_def, resolves_wrap, ResolvesDecls, resolves_no_decls, resolves_decls}
use Rattle.fc_model.specs.ResolutionRules.{resolves_module}
use Rattle.fc_model.specs.Worded.{bare_param, bare_plain}
use Rattle.fc_result_limits.proofs.Blank.{blank_ty, blank_co, blank_cos, blank_binder, blank_binders, blank_expr, blank_arg, blank_exprs, blank_args, blank_binds, blank_joins, blank_alts, blank_param, blank_plain, blank_con, blank_decl, blank_decls}
use Rattle.fc_resolved_sizes.specs.ResolvedSizes.{ResolvedAreAsLarge}

-- as many parameters
as_many : {X Y : Type 0} (f : X → Y) (g : Y → X) (xs : List X) → (length xs ≡ length (map g (map f xs))) × (leaves_depth xs ≡ leaves_depth (map g (map f xs)))
as_many f g [] = (refl, refl)
as_many f g (x ∷ xs) = (ap (λ n. suc n) ((as_many f g xs).0), refl)

module _ (top : Top) where
  -- TYPES AND COERCIONS

  ty : {s : List Word} {t : Ty} {a : NTy} → ResolvesTy top s t a → (ty_size t ≡ ty_size (blank_ty a)) × (ty_depth t ≡ ty_depth (blank_ty a))
  ty (resolves_type_variable h) = (refl, refl)
  ty (resolves_type_name h) = (refl, refl)
  ty resolves_int = (refl, refl)
  ty (resolves_type_application t u) = (rw ((ty t).0, (ty u).0) refl, rw ((ty t).1, (ty u).1) refl)
  ty (resolves_function t u) = (rw ((ty t).0, (ty u).0) refl, rw ((ty t).1, (ty u).1) refl)
  ty (resolves_forall t) = (rw ((ty t).0) refl, rw ((ty t).1) refl)
  ty (resolves_coforall t u v) = (rw ((ty t).0, (ty u).0, (ty v).0) refl, rw ((ty t).1, (ty u).1, (ty v).1) refl)

  tys : {s : List Word} {ts : List Ty} {us : List NTy} → ResolvesTys top s ts us → (tys_size ts ≡ tys_size (map blank_ty us)) × (tys_depth ts ≡ tys_depth (map blank_ty us))
  tys resolves_no_types = (refl, refl)
  tys (resolves_types t rest) = (rw ((ty t).0, (tys rest).0) refl, rw ((ty t).1, (tys rest).1) refl)

  mutual
    co : {s : Locals} {g : Co} {a : NCo} → ResolvesCo top s g a → (co_size g ≡ co_size (blank_co a)) × (co_depth g ≡ co_depth (blank_co a))
    co (resolves_coercion_variable h) = (refl, refl)
    co (resolves_refl t) = (rw ((ty t).0) refl, rw ((ty t).1) refl)
    co (resolves_sym g) = (rw ((co g).0) refl, rw ((co g).1) refl)
    co (resolves_trans g h) = (rw ((co g).0, (co h).0) refl, rw ((co g).1, (co h).1) refl)
    co (resolves_tc d gs) = (rw ((cos gs).0) refl, rw ((cos gs).1) refl)
    co (resolves_capp g h) = (rw ((co g).0, (co h).0) refl, rw ((co g).1, (co h).1) refl)
    co (resolves_funco g h) = (rw ((co g).0, (co h).0) refl, rw ((co g).1, (co h).1) refl)
    co (resolves_allco g) = (rw ((co g).0) refl, rw ((co g).1) refl)
    co (resolves_coallco f g h) = (rw ((co f).0, (co g).0, (co h).0) refl, rw ((co f).1, (co g).1, (co h).1) refl)
    co (resolves_inst g h) = (rw ((co g).0, (co h).0) refl, rw ((co g).1, (co h).1) refl)
    co (resolves_nth g) = (rw ((co g).0) refl, rw ((co g).1) refl)
    co (resolves_left g) = (rw ((co g).0) refl, rw ((co g).1) refl)
    co (resolves_right g) = (rw ((co g).0) refl, rw ((co g).1) refl)
    co (resolves_sub g) = (rw ((co g).0) refl, rw ((co g).1) refl)
    co (resolves_axiom d gs) = (rw ((cos gs).0) refl, rw ((cos gs).1) refl)
    co (resolves_univ t u) = (rw ((ty t).0, (ty u).0) refl, rw ((ty t).1, (ty u).1) refl)

    cos : {s : Locals} {gs : Cos} {xs : NCos} → ResolvesCos top s gs xs → (cos_size gs ≡ cos_size (blank_cos xs)) × (cos_depth gs ≡ cos_depth (blank_cos xs))
    cos resolves_no_coercions = (refl, refl)
    cos (resolves_coercions g rest) = (rw ((co g).0, (cos rest).0) refl, rw ((co g).1, (cos rest).1) refl)

  -- EXPRESSIONS

  binder : {s : Locals} {b : Binder} {c : NBinder} → ResolvesBinder top s b c → (binder_size b ≡ binder_size (blank_binder c)) × (binder_depth b ≡ binder_depth (blank_binder c))
  binder (resolves_value_binder t) = (rw ((ty t).0) refl, rw ((ty t).1) refl)
  binder resolves_type_binder = (refl, refl)
  binder (resolves_coercion_binder t u) = (rw ((ty t).0, (ty u).0) refl, rw ((ty t).1, (ty u).1) refl)

  binders : {s : Locals} {ws : Words} {bs : List Binder} {cs : List NBinder} → ResolvesBinders top s ws bs cs → (binders_size bs ≡ binders_size (blank_binders cs)) × (binders_depth bs ≡ binders_depth (blank_binders cs))
  binders resolves_no_binders = (refl, refl)
  binders (resolves_binders new b rest) = (rw ((binder b).0, (binders rest).0) refl, rw ((binder b).1, (binders rest).1) refl)

  mutual
    expr : {s : Locals} {e : Expr} {f : NExpr} → ResolvesExpr top s e f → (expr_size e ≡ expr_size (blank_expr f)) × (expr_depth e ≡ expr_depth (blank_expr f))
    expr (resolves_local none h) = (refl, refl)
    expr (resolves_definition none nowhere h) = (refl, refl)
    expr (resolves_imported w some h) = (refl, refl)
    expr resolves_literal = (refl, refl)
    expr (resolves_application f a) = (rw ((expr f).0, (arg a).0) refl, rw ((expr f).1, (arg a).1) refl)
    expr (resolves_lambda b e) = (rw ((binder b).0, (expr e).0) refl, rw ((binder b).1, (expr e).1) refl)
    expr (resolves_let bs e) = (rw ((binds bs).0, (expr e).0) refl, rw ((binds bs).1, (expr e).1) refl)
    expr (resolves_case e t u al) = (rw ((expr e).0, (ty t).0, (ty u).0, (alts al).0) refl, rw ((expr e).1, (ty t).1, (ty u).1, (alts al).1) refl)
    expr (resolves_cast e g) = (rw ((expr e).0, (co g).0) refl, rw ((expr e).1, (co g).1) refl)
    expr (resolves_constructor d xs) = (rw ((args xs).0) refl, rw ((args xs).1) refl)
    expr (resolves_primitive es) = (rw ((exprs es).0) refl, rw ((exprs es).1) refl)
    expr (resolves_fail t) = (rw ((ty t).0) refl, rw ((ty t).1) refl)
    expr (resolves_join t js e) = (rw ((ty t).0, (joins js).0, (expr e).0) refl, rw ((ty t).1, (joins js).1, (expr e).1) refl)
    expr (resolves_jump found xs) = (rw ((args xs).0) refl, rw ((args xs).1) refl)

    arg : {s : Locals} {a : Arg} {b : NArg} → ResolvesArg top s a b → (arg_size a ≡ arg_size (blank_arg b)) × (arg_depth a ≡ arg_depth (blank_arg b))
    arg (resolves_term e) = (rw ((expr e).0) refl, rw ((expr e).1) refl)
    arg (resolves_type t) = (rw ((ty t).0) refl, rw ((ty t).1) refl)
    arg (resolves_coercion g) = (rw ((co g).0) refl, rw ((co g).1) refl)

    args : {s : Locals} {given : Args} {xs : NArgs} → ResolvesArgs top s given xs → (args_size given ≡ args_size (blank_args xs)) × (args_depth given ≡ args_depth (blank_args xs))
    args resolves_no_args = (refl, refl)
    args (resolves_args a rest) = (rw ((arg a).0, (args rest).0) refl, rw ((arg a).1, (args rest).1) refl)

    exprs : {s : Locals} {es : Exprs} {fs : NExprs} → ResolvesExprs top s es fs → (exprs_size es ≡ exprs_size (blank_exprs fs)) × (exprs_depth es ≡ exprs_depth (blank_exprs fs))
    exprs resolves_no_exprs = (refl, refl)
    exprs (resolves_exprs e rest) = (rw ((expr e).0, (exprs rest).0) refl, rw ((expr e).1, (exprs rest).1) refl)

    binds : {s : Locals} {earlier : WordSet} {bs : Binds} {cs : NBinds} → ResolvesBinds top s earlier bs cs → (binds_size bs ≡ binds_size (blank_binds cs)) × (binds_depth bs ≡ binds_depth (blank_binds cs))
    binds resolves_no_binds = (refl, refl)
    binds (resolves_binds new t e rest) = (rw ((ty t).0, (expr e).0, (binds rest).0) refl, rw ((ty t).1, (expr e).1, (binds rest).1) refl)

    joins : {s : Locals} {earlier : WordSet} {js : Joins} {ks : NJoins} → ResolvesJoins top s earlier js ks → (joins_size js ≡ joins_size (blank_joins ks)) × (joins_depth js ≡ joins_depth (blank_joins ks))
    joins resolves_no_joins = (refl, refl)
    joins (resolves_joins new bs e rest) = (rw ((binders bs).0, (expr e).0, (joins rest).0) refl, rw ((binders bs).1, (expr e).1, (joins rest).1) refl)

    alts : {s : Locals} {al : Alts} {xs : NAlts} → ResolvesAlts top s al xs → (alts_size al ≡ alts_size (blank_alts xs)) × (alts_depth al ≡ alts_depth (blank_alts xs))
    alts resolves_no_alts = (refl, refl)
    alts (resolves_alts h bs e rest) = (rw ((binders bs).0, (expr e).0, (alts rest).0) refl, rw ((binders bs).1, (expr e).1, (alts rest).1) refl)

  -- DECLARATIONS

  cons : {s : Locals} {earlier : WordSet} {cs : List ConDecl} {ds : List NConDecl} → ResolvesCons top s earlier cs ds → (cons_size cs ≡ cons_size (map blank_con ds)) × (cons_depth cs ≡ cons_depth (map blank_con ds))
  cons resolves_no_constructors = (refl, refl)
  cons (resolves_constructors new bs ts rest) = (rw ((binders bs).0, (tys ts).0, (cons rest).0) refl, rw ((binders bs).1, (tys ts).1, (cons rest).1) refl)

  decl : {ws : Words} {d : Decl} {c : NDecl} → ResolvesDecl top ws d c → (decl_size d ≡ decl_size (blank_decl c)) × (depth_of d ≡ depth_of (blank_decl c))
  decl (resolves_data {ps = ps} new distinct cs) = (rw ((as_many bare_param blank_param ps).0, (cons cs).0) refl, rw ((as_many bare_param blank_param ps).1, (cons cs).1) refl)
  decl (resolves_newtype {ps = ps} new distinct t other) = (rw ((as_many bare_param blank_param ps).0, (ty t).0) refl, rw ((as_many bare_param blank_param ps).1, (ty t).1) refl)
  decl (resolves_family {ps = ps} new distinct) = (rw ((as_many bare_plain blank_plain ps).0) refl, rw ((as_many bare_plain blank_plain ps).1) refl)
  decl (resolves_equation {ps = ps} new distinct t u) = (rw ((as_many bare_plain blank_plain ps).0, (ty t).0, (ty u).0) refl, rw ((as_many bare_plain blank_plain ps).1, (ty t).1, (ty u).1) refl)
  decl (resolves_def new t e) = (rw ((ty t).0, (expr e).0) refl, rw ((ty t).1, (expr e).1) refl)
  decl (resolves_wrap new t e) = (rw ((ty t).0, (expr e).0) refl, rw ((ty t).1, (expr e).1) refl)

  decls : {ws : Words} {ds : List Decl} {cs : List NDecl} → ResolvesDecls top ws ds cs → (decls_size ds ≡ decls_size (blank_decls cs)) × (map depth_of ds ≡ map depth_of (blank_decls cs))
  decls resolves_no_decls = (refl, refl)
  decls (resolves_decls d rest) = (rw ((decl d).0, (decls rest).0) refl, rw ((decl d).1, (decls rest).1) refl)

-- MODULES

pub resolved_are_as_large : ResolvedAreAsLarge
resolved_are_as_large m n (resolves_module rules) = let same = decls _ rules in record { depths = same.1; size = same.0 }
