-- The right sides of the definitions of a formed module, without names: each literal is in range, an alternative that is not of a
-- constructor has no binders, and a let or join that is not recursive has one binder.
use Rattle.std.proofs.Common.{◌≡◌, Bool, true, false, ◌&&◌, List, [], ◌∷◌, refl}
use Rattle.std.proofs.lemmas.Bool.{and_parts}
use Rattle.std.specs.List.{list_all}
use Rattle.fc_syntax.specs.declared.expr.Head.{Head}
use Rattle.fc_syntax.specs.declared.expr.Head.TheVariants as head
use Rattle.fc_syntax.specs.Tree.{Expr, Arg, Args, Exprs, Binder, Binds, Joins, Alts, Decl}
use Rattle.fc_model.specs.Formed.{is_literal_formed, is_empty_list, is_lower_word, is_upper_formed, is_type_formed, is_co_formed, is_binder_formed, is_bind_group, is_join_group}
use Rattle.fc_model.specs.Formed.{is_expr_formed, is_arg_formed, are_args_formed, are_exprs_formed, are_binds_formed, are_joins_formed, is_head_formed, are_alts_formed, is_decl_formed}
use Rattle.fc_model.specs.Nameless.{NExpr, NLocal, NVar, NLit, NApp, NLam, NLet, NCase, NCast, NCon, NPrim, NFail, NJoin, NJump, NArg, NATerm, NAType, NACo, NBinder, NBound, NJoined, NBranch}
use Rattle.fc_model.specs.Nameless.{NArgs, NoNArgs, MoreNArgs, NExprs, NoNExprs, MoreNExprs, NBinds, NoNBinds, MoreNBinds, NJoins, NoNJoins, MoreNJoins, NAlts, NoNAlts, MoreNAlts}
use Rattle.fc_model.specs.Nameless.{NDecl, NData, NNew, NFamily, NAxiom, NDef, NWrap}
use Rattle.fc_model.specs.Resolution.{Top, Locals, Words, WordSet}
use Rattle.fc_model.specs.ResolutionRules.{ResolvesBinders, resolves_no_binders, resolves_binders, ResolvesHead, resolves_default, resolves_literal_head, resolves_constructor_head}
use Rattle.fc_model.specs.ResolutionRules.{ResolvesExpr, resolves_local, resolves_definition, resolves_imported, resolves_literal, resolves_application, resolves_lambda, resolves_let, resolves_case}
use Rattle.fc_model.specs.ResolutionRules.{resolves_cast, resolves_constructor, resolves_primitive, resolves_fail, resolves_join, resolves_jump}
use Rattle.fc_model.specs.ResolutionRules.{ResolvesArg, resolves_term, resolves_type, resolves_coercion, ResolvesArgs, resolves_no_args, resolves_args, ResolvesExprs, resolves_no_exprs, resolves_exprs}
use Rattle.fc_model.specs.ResolutionRules.{ResolvesBinds, resolves_no_binds, resolves_binds, ResolvesJoins, resolves_no_joins, resolves_joins, ResolvesAlts, resolves_no_alts, resolves_alts}
use Rattle.fc_model.specs.ResolutionRules.{ResolvesDecl, resolves_data, resolves_newtype, resolves_family, resolves_equation, resolves_def, resolves_wrap, ResolvesDecls, resolves_no_decls, resolves_decls}
use Rattle.fc_model.specs.Terms.{InRange}
use Rattle.fc_model.proofs.Sameness.{false_true}
use Rattle.fc_meaning.proofs.PrimitiveRange.{literal_in_range}

-- only a constructor has binders
abbrev pub HasOwnBinders : Head → List NBinder → Type 0
HasOwnBinders head.Default bs = bs ≡ []
HasOwnBinders (head.Lit n) bs = bs ≡ []
HasOwnBinders (head.Con n) bs = Unit {0}

-- what is not recursive has one binder
abbrev pub IsBindGroup : Bool → NBinds → Type 0
IsBindGroup true bs = Unit {0}
IsBindGroup false NoNBinds = ⊥
IsBindGroup false (MoreNBinds b NoNBinds) = Unit {0}
IsBindGroup false (MoreNBinds b (MoreNBinds c rest)) = ⊥

abbrev pub IsJoinGroup : Bool → NJoins → Type 0
IsJoinGroup true js = Unit {0}
IsJoinGroup false NoNJoins = ⊥
IsJoinGroup false (MoreNJoins j NoNJoins) = Unit {0}
IsJoinGroup false (MoreNJoins j (MoreNJoins k rest)) = ⊥

abbrev mutual
  -- each literal is in range, each alternative has binders of its own, and each let or join that is not recursive has one binder
  pub IsWritten : NExpr → Type 0
  IsWritten (NLocal i) = Unit {0}
  IsWritten (NVar n) = Unit {0}
  IsWritten (NLit n) = InRange n
  IsWritten (NApp f a) = IsWritten f × IsArgWritten a
  IsWritten (NLam b e) = IsWritten e
  IsWritten (NLet r bs e) = IsBindGroup r bs × AreBindsWritten bs × IsWritten e
  IsWritten (NCase e xt rt alts) = IsWritten e × AreAltsWritten alts
  IsWritten (NCast e g) = IsWritten e
  IsWritten (NCon n args) = AreArgsWritten args
  IsWritten (NPrim op es) = AreExprsWritten es
  IsWritten (NFail t) = Unit {0}
  IsWritten (NJoin r t js e) = IsJoinGroup r js × AreJoinsWritten js × IsWritten e
  IsWritten (NJump i args) = AreArgsWritten args

  pub IsArgWritten : NArg → Type 0
  IsArgWritten (NATerm e) = IsWritten e
  IsArgWritten (NAType t) = Unit {0}
  IsArgWritten (NACo g) = Unit {0}

  pub AreArgsWritten : NArgs → Type 0
  AreArgsWritten NoNArgs = Unit {0}
  AreArgsWritten (MoreNArgs a rest) = IsArgWritten a × AreArgsWritten rest

  pub AreExprsWritten : NExprs → Type 0
  AreExprsWritten NoNExprs = Unit {0}
  AreExprsWritten (MoreNExprs e rest) = IsWritten e × AreExprsWritten rest

  pub AreBindsWritten : NBinds → Type 0
  AreBindsWritten NoNBinds = Unit {0}
  AreBindsWritten (MoreNBinds (NBound t d) rest) = IsWritten d × AreBindsWritten rest

  pub AreJoinsWritten : NJoins → Type 0
  AreJoinsWritten NoNJoins = Unit {0}
  AreJoinsWritten (MoreNJoins (NJoined ps d) rest) = IsWritten d × AreJoinsWritten rest

  pub AreAltsWritten : NAlts → Type 0
  AreAltsWritten NoNAlts = Unit {0}
  AreAltsWritten (MoreNAlts (NBranch h bs e) rest) = HasOwnBinders h bs × IsWritten e × AreAltsWritten rest

-- the right side of a definition is
abbrev pub IsDeclWritten : NDecl → Type 0
IsDeclWritten (NData n ps cs) = Unit {0}
IsDeclWritten (NNew n ps t con) = Unit {0}
IsDeclWritten (NFamily n ps k) = Unit {0}
IsDeclWritten (NAxiom n ps t u) = Unit {0}
IsDeclWritten (NDef n t e) = IsWritten e
IsDeclWritten (NWrap n t e) = IsWritten e

abbrev pub AreDeclsWritten : List NDecl → Type 0
AreDeclsWritten [] = Unit {0}
AreDeclsWritten (d ∷ ds) = IsDeclWritten d × AreDeclsWritten ds

module _ (top : Top) where
  pub none_resolved : {s : Locals} {ws : Words} {bs : List Binder} {cs : List NBinder} → ResolvesBinders top s ws bs cs → is_empty_list bs ≡ true → cs ≡ []
  none_resolved resolves_no_binders f = refl
  none_resolved (resolves_binders new b rest) f = false_true f

  head_written : {s : Locals} {h k : Head} {bs : List Binder} {cs : List NBinder} {ws : Words} → ResolvesHead top h k → ResolvesBinders top s ws bs cs → is_head_formed h bs ≡ true
      → HasOwnBinders k cs
  head_written resolves_default binders f = none_resolved binders f
  head_written {bs = bs} (resolves_literal_head {n = n}) binders f = none_resolved binders (and_parts (is_literal_formed n) (is_empty_list bs) f).1
  head_written (resolves_constructor_head h) binders f = tt

  -- resolution keeps how many binders there are
  bind_group : {s : Locals} {earlier : WordSet} {bs : Binds} {us : NBinds} (r : Bool) → ResolvesBinds top s earlier bs us → is_bind_group r bs ≡ true → IsBindGroup r us
  bind_group true h f = tt
  bind_group false resolves_no_binds f = false_true f
  bind_group false (resolves_binds new a g resolves_no_binds) f = tt
  bind_group false (resolves_binds new a g (resolves_binds later b h rest)) f = false_true f

  join_group : {s : Locals} {earlier : WordSet} {js : Joins} {us : NJoins} (r : Bool) → ResolvesJoins top s earlier js us → is_join_group r js ≡ true → IsJoinGroup r us
  join_group true h f = tt
  join_group false resolves_no_joins f = false_true f
  join_group false (resolves_joins new b g resolves_no_joins) f = tt
  join_group false (resolves_joins new b g (resolves_joins later c h rest)) f = false_true f

  mutual
    expr_written : {s : Locals} {e : Expr} {u : NExpr} → ResolvesExpr top s e u → is_expr_formed e ≡ true → IsWritten u
    expr_written (resolves_local p q) f = tt
    expr_written (resolves_definition p q h) f = tt
    expr_written (resolves_imported w p h) f = tt
    expr_written (resolves_literal {n = n}) f = literal_in_range n f
    expr_written (resolves_application {f = e} {a = a} g b) f = let p = and_parts (is_expr_formed e) (is_arg_formed a) f in (expr_written g p.0, arg_written b p.1)
    expr_written (resolves_lambda {b = b} {e = e} h g) f = expr_written g (and_parts (is_binder_formed b) (is_expr_formed e) f).1
    expr_written (resolves_let {r = r} {bs = bs} {e = e} h g) f =
        let p = and_parts (is_bind_group r bs) (are_binds_formed bs && is_expr_formed e) f in
        let q = and_parts (are_binds_formed bs) (is_expr_formed e) p.1 in
        (bind_group r h p.0, binds_written h q.0, expr_written g q.1)
    expr_written (resolves_case {e = e} {x = x} {t = t} {u = u} {alts = alts} g a b h) f =
        let p = and_parts (is_expr_formed e) ((is_lower_word x && (is_type_formed t && is_type_formed u)) && are_alts_formed alts) f in
        let q = and_parts (is_lower_word x && (is_type_formed t && is_type_formed u)) (are_alts_formed alts) p.1 in
        (expr_written g p.0, alts_written h q.1)
    expr_written (resolves_cast {e = e} {g = g} h c) f = expr_written h (and_parts (is_expr_formed e) (is_co_formed g) f).0
    expr_written (resolves_constructor {n = n} {args = args} h g) f = args_written g (and_parts (is_upper_formed n) (are_args_formed args) f).1
    expr_written (resolves_primitive h) f = exprs_written h f
    expr_written (resolves_fail h) f = tt
    expr_written (resolves_join {r = r} {t = t} {js = js} {e = e} a h g) f =
        let p = and_parts (is_join_group r js) (is_type_formed t && (are_joins_formed js && is_expr_formed e)) f in
        let q = and_parts (is_type_formed t) (are_joins_formed js && is_expr_formed e) p.1 in
        let v = and_parts (are_joins_formed js) (is_expr_formed e) q.1 in
        (join_group r h p.0, joins_written h v.0, expr_written g v.1)
    expr_written (resolves_jump {j = j} {args = args} h g) f = args_written g (and_parts (is_lower_word j) (are_args_formed args) f).1

    arg_written : {s : Locals} {a : Arg} {u : NArg} → ResolvesArg top s a u → is_arg_formed a ≡ true → IsArgWritten u
    arg_written (resolves_term g) f = expr_written g f
    arg_written (resolves_type h) f = tt
    arg_written (resolves_coercion h) f = tt

    args_written : {s : Locals} {args : Args} {us : NArgs} → ResolvesArgs top s args us → are_args_formed args ≡ true → AreArgsWritten us
    args_written resolves_no_args f = tt
    args_written (resolves_args {a = a} {args = args} g rest) f = let p = and_parts (is_arg_formed a) (are_args_formed args) f in (arg_written g p.0, args_written rest p.1)

    exprs_written : {s : Locals} {es : Exprs} {us : NExprs} → ResolvesExprs top s es us → are_exprs_formed es ≡ true → AreExprsWritten us
    exprs_written resolves_no_exprs f = tt
    exprs_written (resolves_exprs {e = e} {es = es} g rest) f = let p = and_parts (is_expr_formed e) (are_exprs_formed es) f in (expr_written g p.0, exprs_written rest p.1)

    binds_written : {s : Locals} {earlier : WordSet} {bs : Binds} {us : NBinds} → ResolvesBinds top s earlier bs us → are_binds_formed bs ≡ true → AreBindsWritten us
    binds_written resolves_no_binds f = tt
    binds_written (resolves_binds {x = x} {t = t} {e = e} {bs = bs} new a g rest) f =
        let p = and_parts (is_lower_word x && (is_type_formed t && is_expr_formed e)) (are_binds_formed bs) f in
        let q = and_parts (is_lower_word x) (is_type_formed t && is_expr_formed e) p.0 in
        (expr_written g (and_parts (is_type_formed t) (is_expr_formed e) q.1).1, binds_written rest p.1)

    joins_written : {s : Locals} {earlier : WordSet} {js : Joins} {us : NJoins} → ResolvesJoins top s earlier js us → are_joins_formed js ≡ true → AreJoinsWritten us
    joins_written resolves_no_joins f = tt
    joins_written (resolves_joins {j = j} {ps = ps} {e = e} {js = js} new b g rest) f =
        let p = and_parts (is_lower_word j && (list_all is_binder_formed ps && is_expr_formed e)) (are_joins_formed js) f in
        let q = and_parts (is_lower_word j) (list_all is_binder_formed ps && is_expr_formed e) p.0 in
        (expr_written g (and_parts (list_all is_binder_formed ps) (is_expr_formed e) q.1).1, joins_written rest p.1)

    alts_written : {s : Locals} {alts : Alts} {us : NAlts} → ResolvesAlts top s alts us → are_alts_formed alts ≡ true → AreAltsWritten us
    alts_written resolves_no_alts f = tt
    alts_written (resolves_alts {h = h} {bs = bs} {e = e} {alts = alts} k b g rest) f =
        let p = and_parts (is_head_formed h bs && is_expr_formed e) (are_alts_formed alts) f in
        let q = and_parts (is_head_formed h bs) (is_expr_formed e) p.0 in
        (head_written k b q.0, expr_written g q.1, alts_written rest p.1)

  decl_written : {ws : Words} {d : Decl} {u : NDecl} → ResolvesDecl top ws d u → is_decl_formed d ≡ true → IsDeclWritten u
  decl_written (resolves_data new distinct cons) f = tt
  decl_written (resolves_newtype new distinct t con) f = tt
  decl_written (resolves_family new distinct) f = tt
  decl_written (resolves_equation new distinct t u) f = tt
  decl_written (resolves_def {n = n} {t = t} {e = e} new a g) f =
      let p = and_parts (is_lower_word n) (is_type_formed t && is_expr_formed e) f in expr_written g (and_parts (is_type_formed t) (is_expr_formed e) p.1).1
  decl_written (resolves_wrap {n = n} {t = t} {e = e} new a g) f =
      let p = and_parts (is_lower_word n) (is_type_formed t && is_expr_formed e) f in expr_written g (and_parts (is_type_formed t) (is_expr_formed e) p.1).1

  pub decls_written : {ws : Words} {ds : List Decl} {us : List NDecl} → ResolvesDecls top ws ds us → list_all is_decl_formed ds ≡ true → AreDeclsWritten us
  decls_written resolves_no_decls f = tt
  decls_written (resolves_decls {d = d} {ds = ds} first rest) f =
      let p = and_parts (is_decl_formed d) (list_all is_decl_formed ds) f in (decl_written first p.0, decls_written rest p.1)
