-- What resolves, and names of other modules only what they have for others, resolves among them alike.
use Rattle.std.proofs.Common.{◌≡◌, true, false, List, Option, Some, None, Ok, sym, subst}
use Rattle.fc_syntax.specs.declared.ty.Name.{Name}
use Rattle.fc_syntax.specs.declared.expr.Head.{Head}
use Rattle.fc_syntax.specs.declared.fault.FaultKind.TheVariants.{NotExported, Unbound}
use Rattle.fc_syntax.specs.Tree.{Word, Ty, Co, Cos, Binder, Arg, Args, Expr, Exprs, Binds, Joins, Alts, ConDecl, Decl}
use Rattle.fc_model.specs.Nameless.{NTy, NCo, NCos, NBinder, NArg, NArgs, NExpr, NExprs, NBinds, NJoins, NAlts, NConDecl, NDecl}
use Rattle.fc_model.specs.Resolution.{Locals, Offers, Top, WordSet, Words, declared_name}
use Rattle.fc_model.specs.ResolutionRules.{ResolvesTy, resolves_type_variable, resolves_type_name, resolves_int, resolves_type_application, resolves_function, resolves_forall, resolves_coforall}
use Rattle.fc_model.specs.ResolutionRules.{ResolvesTys, resolves_no_types, resolves_types}
use Rattle.fc_model.specs.ResolutionRules.{ResolvesCo, resolves_coercion_variable, resolves_refl, resolves_sym, resolves_trans, resolves_tc, resolves_capp, resolves_funco, resolves_allco}
use Rattle.fc_model.specs.ResolutionRules.{resolves_coallco, resolves_inst, resolves_nth, resolves_left, resolves_right, resolves_sub, resolves_axiom, resolves_univ}
use Rattle.fc_model.specs.ResolutionRules.{ResolvesCos, resolves_no_coercions, resolves_coercions}
use Rattle.fc_model.specs.ResolutionRules.{ResolvesBinder, resolves_value_binder, resolves_type_binder, resolves_coercion_binder, ResolvesBinders, resolves_no_binders, resolves_binders}
use Rattle.fc_model.specs.ResolutionRules.{ResolvesHead, resolves_default, resolves_literal_head, resolves_constructor_head}
use Rattle.fc_model.specs.ResolutionRules.{ResolvesExpr, resolves_local, resolves_definition, resolves_imported, resolves_literal, resolves_application, resolves_lambda, resolves_let}
use Rattle.fc_model.specs.ResolutionRules.{resolves_case, resolves_cast, resolves_constructor, resolves_primitive, resolves_fail, resolves_join, resolves_jump}
use Rattle.fc_model.specs.ResolutionRules.{ResolvesArg, resolves_term, resolves_type, resolves_coercion, ResolvesArgs, resolves_no_args, resolves_args, ResolvesExprs, resolves_no_exprs, resolves_exprs}
use Rattle.fc_model.specs.ResolutionRules.{ResolvesBinds, resolves_no_binds, resolves_binds, ResolvesJoins, resolves_no_joins, resolves_joins, ResolvesAlts, resolves_no_alts, resolves_alts}
use Rattle.fc_model.specs.ResolutionRules.{ResolvesCons, resolves_no_constructors, resolves_constructors}
use Rattle.fc_model.specs.ResolutionRules.{ResolvesDecl, resolves_data, resolves_newtype, resolves_family, resolves_equation, resolves_def, resolves_wrap, ResolvesDecls, resolves_no_decls, resolves_decls}
use Rattle.fc_model.proofs.Parts.{need_inv, ok_ok}
use Rattle.fc_used_words.specs.Scoped.{Counts, in_binder, Saying, HoldsTy, HoldsTys, HoldsCo, HoldsCos, HoldsBinder, HoldsBinders, HoldsHead, HoldsExpr, HoldsArg, HoldsArgs, HoldsExprs, HoldsBinds, HoldsJoins, HoldsAlts, HoldsCons, HoldsDecl, HoldsDecls}
use Rattle.fc_resolved_names.proofs.Scoped.{is_other}
use Rattle.fc_set_rules.specs.FormsDecide.{IsOffered, offered_names}

module _ (top : Top) (offers : Offers) (alone : top.imports top.own ≡ false) where
  -- the same, where modules have this for others
  abbrev among : Top
  among = record top { offers = offers }

  -- what is said of names among them
  abbrev P : Saying
  P = offered_names top.own offers

  -- a name that is found is found among them
  found : (words : WordSet) (offered offered' : Word → WordSet) (o : Option Word) (w : Word) (m : Name) → declared_name top words offered o w ≡ Ok m → IsOffered top.own offered' m
      → declared_name among words offered' o w ≡ Ok m
  found words offered offered' None w m h has = h
  found words offered offered' (Some v) w m h has =
      let p = need_inv (top.imports v) Unbound _ m h in
      let q = need_inv (offered v w) NotExported _ m p.1 in
      let here : offered' v w ≡ true = subst (IsOffered top.own offered') (sym (ok_ok q.1)) has (is_other top alone v p.0) in
      rw (p.0, here) q.1

  ty : (k : Counts) → {s : List Word} {t : Ty} {a : NTy} → ResolvesTy top s t a → HoldsTy P k a → ResolvesTy among s t a
  ty k (resolves_type_variable h) g = resolves_type_variable h
  ty k (resolves_type_name {n = n} {m = m} h) g = resolves_type_name (found top.types top.offers.types offers.types n.module n.text m h g)
  ty k resolves_int g = resolves_int
  ty k (resolves_type_application t u) g = resolves_type_application (ty _ t g.0) (ty _ u g.1)
  ty k (resolves_function t u) g = resolves_function (ty _ t g.0) (ty _ u g.1)
  ty k (resolves_forall t) g = resolves_forall (ty _ t g)
  ty k (resolves_coforall t u v) g = resolves_coforall (ty _ t g.0) (ty _ u g.1) (ty _ v g.2)

  tys : (k : Counts) → {s : List Word} {ts : List Ty} {us : List NTy} → ResolvesTys top s ts us → HoldsTys P k us → ResolvesTys among s ts us
  tys k resolves_no_types g = resolves_no_types
  tys k (resolves_types t ts) g = resolves_types (ty _ t g.0) (tys _ ts g.1)

  mutual
    co : (k : Counts) → {s : Locals} {c : Co} {a : NCo} → ResolvesCo top s c a → HoldsCo P k a → ResolvesCo among s c a
    co k (resolves_coercion_variable h) g = resolves_coercion_variable h
    co k (resolves_refl t) g = resolves_refl (ty _ t g)
    co k (resolves_sym x) g = resolves_sym (co _ x g)
    co k (resolves_trans x y) g = resolves_trans (co _ x g.0) (co _ y g.1)
    co k (resolves_tc {n = n} {m = m} h xs) g = resolves_tc (found top.types top.offers.types offers.types n.module n.text m h g.0) (cos _ xs g.1)
    co k (resolves_capp x y) g = resolves_capp (co _ x g.0) (co _ y g.1)
    co k (resolves_funco x y) g = resolves_funco (co _ x g.0) (co _ y g.1)
    co k (resolves_allco x) g = resolves_allco (co _ x g)
    co k (resolves_coallco x y z) g = resolves_coallco (co _ x g.0) (co _ y g.1) (co _ z g.2)
    co k (resolves_inst x y) g = resolves_inst (co _ x g.0) (co _ y g.1)
    co k (resolves_nth x) g = resolves_nth (co _ x g)
    co k (resolves_left x) g = resolves_left (co _ x g)
    co k (resolves_right x) g = resolves_right (co _ x g)
    co k (resolves_sub x) g = resolves_sub (co _ x g)
    co k (resolves_axiom {n = n} {m = m} h xs) g = resolves_axiom (found top.coercions top.offers.coercions offers.coercions n.module n.text m h g.0) (cos _ xs g.1)
    co k (resolves_univ t u) g = resolves_univ (ty _ t g.0) (ty _ u g.1)

    cos : (k : Counts) → {s : Locals} {cs : Cos} {xs : NCos} → ResolvesCos top s cs xs → HoldsCos P k xs → ResolvesCos among s cs xs
    cos k resolves_no_coercions g = resolves_no_coercions
    cos k (resolves_coercions x xs) g = resolves_coercions (co _ x g.0) (cos _ xs g.1)

  binder : (k : Counts) → {s : Locals} {b : Binder} {c : NBinder} → ResolvesBinder top s b c → HoldsBinder P k c → ResolvesBinder among s b c
  binder k (resolves_value_binder t) g = resolves_value_binder (ty _ t g)
  binder k resolves_type_binder g = resolves_type_binder
  binder k (resolves_coercion_binder t u) g = resolves_coercion_binder (ty _ t g.0) (ty _ u g.1)

  binders : (k : Counts) → {s : Locals} {ws : Words} {bs : List Binder} {cs : List NBinder} → ResolvesBinders top s ws bs cs → HoldsBinders P k cs → ResolvesBinders among s ws bs cs
  binders k resolves_no_binders g = resolves_no_binders
  binders k (resolves_binders {c = c} new b bs) g = resolves_binders new (binder k b g.0) (binders (in_binder c k) bs g.1)

  head : {h k : Head} → ResolvesHead top h k → HoldsHead P k → ResolvesHead among h k
  head resolves_default g = resolves_default
  head resolves_literal_head g = resolves_literal_head
  head (resolves_constructor_head {n = n} {m = m} h) g = resolves_constructor_head (found top.terms top.offers.terms offers.terms n.module n.text m h g)

  mutual
    expr : (k : Counts) → {s : Locals} {e : Expr} {f : NExpr} → ResolvesExpr top s e f → HoldsExpr P k f → ResolvesExpr among s e f
    expr k (resolves_local none h) g = resolves_local none h
    expr k (resolves_definition {n = n} {m = m} none nowhere h) g = resolves_definition none nowhere (found top.terms top.offers.terms offers.terms None n.text m h g)
    expr k (resolves_imported {n = n} {m = m} w some h) g = resolves_imported w some (found top.terms top.offers.terms offers.terms (Some w) n.text m h g)
    expr k resolves_literal g = resolves_literal
    expr k (resolves_application f a) g = resolves_application (expr _ f g.0) (arg _ a g.1)
    expr k (resolves_lambda b e) g = resolves_lambda (binder _ b g.0) (expr _ e g.1)
    expr k (resolves_let bs e) g = resolves_let (binds _ bs g.0) (expr _ e g.1)
    expr k (resolves_case e t u al) g = resolves_case (expr _ e g.0) (ty _ t g.1) (ty _ u g.2) (alts _ al g.3)
    expr k (resolves_cast e x) g = resolves_cast (expr _ e g.0) (co _ x g.1)
    expr k (resolves_constructor {n = n} {m = m} h args) g = resolves_constructor (found top.terms top.offers.terms offers.terms n.module n.text m h g.0) (all_args _ args g.1)
    expr k (resolves_primitive es) g = resolves_primitive (exprs _ es g)
    expr k (resolves_fail t) g = resolves_fail (ty _ t g)
    expr k (resolves_join t js e) g = resolves_join (ty _ t g.0) (joins _ js g.1) (expr _ e g.2)
    expr k (resolves_jump h args) g = resolves_jump h (all_args _ args g.1)

    arg : (k : Counts) → {s : Locals} {a : Arg} {b : NArg} → ResolvesArg top s a b → HoldsArg P k b → ResolvesArg among s a b
    arg k (resolves_term e) g = resolves_term (expr _ e g)
    arg k (resolves_type t) g = resolves_type (ty _ t g)
    arg k (resolves_coercion x) g = resolves_coercion (co _ x g)

    all_args : (k : Counts) → {s : Locals} {al : Args} {xs : NArgs} → ResolvesArgs top s al xs → HoldsArgs P k xs → ResolvesArgs among s al xs
    all_args k resolves_no_args g = resolves_no_args
    all_args k (resolves_args a rest) g = resolves_args (arg _ a g.0) (all_args _ rest g.1)

    exprs : (k : Counts) → {s : Locals} {es : Exprs} {fs : NExprs} → ResolvesExprs top s es fs → HoldsExprs P k fs → ResolvesExprs among s es fs
    exprs k resolves_no_exprs g = resolves_no_exprs
    exprs k (resolves_exprs e es) g = resolves_exprs (expr _ e g.0) (exprs _ es g.1)

    binds : (k : Counts) → {s : Locals} {earlier : WordSet} {bs : Binds} {cs : NBinds} → ResolvesBinds top s earlier bs cs → HoldsBinds P k cs → ResolvesBinds among s earlier bs cs
    binds k resolves_no_binds g = resolves_no_binds
    binds k (resolves_binds new t e rest) g = resolves_binds new (ty _ t g.0.0) (expr _ e g.0.1) (binds _ rest g.1)

    joins : (k : Counts) → {s : Locals} {earlier : WordSet} {js : Joins} {ks : NJoins} → ResolvesJoins top s earlier js ks → HoldsJoins P k ks → ResolvesJoins among s earlier js ks
    joins k resolves_no_joins g = resolves_no_joins
    joins k (resolves_joins new ps e rest) g = resolves_joins new (binders _ ps g.0.0) (expr _ e g.0.1) (joins _ rest g.1)

    alts : (k : Counts) → {s : Locals} {al : Alts} {xs : NAlts} → ResolvesAlts top s al xs → HoldsAlts P k xs → ResolvesAlts among s al xs
    alts k resolves_no_alts g = resolves_no_alts
    alts k (resolves_alts h bs e rest) g = resolves_alts (head h g.0.0) (binders _ bs g.0.1) (expr _ e g.0.2) (alts _ rest g.1)

  constructors : (k : Counts) → {s : Locals} {earlier : WordSet} {cs : List ConDecl} {ds : List NConDecl} → ResolvesCons top s earlier cs ds → HoldsCons P k ds
      → ResolvesCons among s earlier cs ds
  constructors k resolves_no_constructors g = resolves_no_constructors
  constructors k (resolves_constructors new bs ts rest) g = resolves_constructors new (binders _ bs g.0.0) (tys _ ts g.0.1) (constructors _ rest g.1)

  decl : {ws : Words} {d : Decl} {c : NDecl} → ResolvesDecl top ws d c → HoldsDecl P c → ResolvesDecl among ws d c
  decl (resolves_data new ps cs) g = resolves_data new ps (constructors _ cs g)
  decl (resolves_newtype new ps t con) g = resolves_newtype new ps (ty _ t g) con
  decl (resolves_family new ps) g = resolves_family new ps
  decl (resolves_equation new ps t u) g = resolves_equation new ps (ty _ t g.0) (ty _ u g.1)
  decl (resolves_def new t e) g = resolves_def new (ty _ t g.0) (expr _ e g.1)
  decl (resolves_wrap new t e) g = resolves_wrap new (ty _ t g.0) (expr _ e g.1)

  pub decls_among : {ws : Words} {ds : List Decl} {cs : List NDecl} → ResolvesDecls top ws ds cs → HoldsDecls P cs → ResolvesDecls among ws ds cs
  decls_among resolves_no_decls g = resolves_no_decls
  decls_among (resolves_decls d rest) g = resolves_decls (decl d g.0) (decls_among rest g.1)
