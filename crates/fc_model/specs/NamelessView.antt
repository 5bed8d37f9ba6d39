-- What the nameless trees of src mean to every judgement: the words of their binders are forgotten.
use Rattle.std.specs.Prelude.{ℕ, List, map}
use Rattle.fc_syntax.specs.GenericTree.{Kind}
use Rattle.fc_syntax.specs.View.{ty_of, tys_of, co_of, cos_of, binder_of, binders_of, expr_of, exprs_of, arg_of, args_of, bind_of, binds_of, join_of, joins_of, alt_of, alts_of}
use Rattle.fc_syntax.specs.View.{param_of, params_of, plain_of, plains_of, con_of, cons_of, decl_of, decls_of, module_of}
use Rattle.fc_syntax.specs.declared.ty.Ref.{Ref}
use Rattle.fc_syntax.specs.declared.ty.Ty as T
use Rattle.fc_syntax.specs.declared.co.Co as G
use Rattle.fc_syntax.specs.declared.expr.Binder as RustBinder
use Rattle.fc_syntax.specs.declared.expr.Arg as A
use Rattle.fc_syntax.specs.declared.expr.Bind as RustBind
use Rattle.fc_syntax.specs.declared.expr.JoinBind as RustJoin
use Rattle.fc_syntax.specs.declared.expr.Alt as RustAlt
use Rattle.fc_syntax.specs.declared.expr.Expr as E
use Rattle.fc_syntax.specs.declared.module.Param as RustParam
use Rattle.fc_syntax.specs.declared.module.Plain as RustPlain
use Rattle.fc_syntax.specs.declared.module.ConDecl as RustConDecl
use Rattle.fc_syntax.specs.declared.module.Decl as RustDecl
use Rattle.fc_syntax.specs.declared.module.Module as RustModule
use Rattle.fc_model.specs.Nameless.{NTy, NCo, NCos, NBinder, NExpr, NArg, NBind, NJoinBind, NAlt, NExprs, NArgs, NBinds, NJoins, NAlts, NParam, NConDecl, NDecl, NModule}
use Rattle.fc_model.specs.Worded.{bare_ty, bare_tys, bare_co, bare_cos, bare_binder, bare_binders, bare_expr, bare_exprs, bare_arg, bare_args, bare_bind, bare_binds, bare_join, bare_joins, bare_alt, bare_alts}
use Rattle.fc_model.specs.Worded.{bare_param, bare_plain, bare_con, bare_decl, bare_decls, bare_module}

abbrev pub nty_of : T.Ty ℕ → NTy
nty_of t = bare_ty (ty_of t)

abbrev pub ntys_of : List (T.Ty ℕ) → List NTy
ntys_of ts = bare_tys (tys_of ts)

abbrev pub nco_of : G.Co ℕ → NCo
nco_of g = bare_co (co_of g)

abbrev pub ncos_of : List (G.Co ℕ) → NCos
ncos_of gs = bare_cos (cos_of gs)

abbrev pub nbinder_of : RustBinder.Binder ℕ → NBinder
nbinder_of b = bare_binder (binder_of b)

abbrev pub nbinders_of : List (RustBinder.Binder ℕ) → List NBinder
nbinders_of bs = bare_binders (binders_of bs)

abbrev pub nexpr_of : E.Expr ℕ Ref → NExpr
nexpr_of e = bare_expr (expr_of e)

abbrev pub narg_of : A.Arg ℕ Ref → NArg
narg_of a = bare_arg (arg_of a)

abbrev pub nbind_of : RustBind.Bind ℕ Ref → NBind
nbind_of b = bare_bind (bind_of b)

abbrev pub njoin_of : RustJoin.JoinBind ℕ Ref → NJoinBind
njoin_of j = bare_join (join_of j)

abbrev pub nalt_of : RustAlt.Alt ℕ Ref → NAlt
nalt_of a = bare_alt (alt_of a)

abbrev pub nexprs_of : List (E.Expr ℕ Ref) → NExprs
nexprs_of es = bare_exprs (exprs_of es)

abbrev pub nargs_of : List (A.Arg ℕ Ref) → NArgs
nargs_of args = bare_args (args_of args)

abbrev pub nbinds_of : List (RustBind.Bind ℕ Ref) → NBinds
nbinds_of bs = bare_binds (binds_of bs)

abbrev pub njoins_of : List (RustJoin.JoinBind ℕ Ref) → NJoins
njoins_of js = bare_joins (joins_of js)

abbrev pub nalts_of : List (RustAlt.Alt ℕ Ref) → NAlts
nalts_of alts = bare_alts (alts_of alts)

abbrev pub nparam_of : RustParam.Param → NParam
nparam_of p = bare_param (param_of p)

abbrev pub nparams_of : List RustParam.Param → List NParam
nparams_of ps = map bare_param (params_of ps)

abbrev pub nplain_of : RustPlain.Plain → Kind
nplain_of p = bare_plain (plain_of p)

abbrev pub nplains_of : List RustPlain.Plain → List Kind
nplains_of ps = map bare_plain (plains_of ps)

abbrev pub ncon_of : RustConDecl.ConDecl ℕ → NConDecl
ncon_of c = bare_con (con_of c)

abbrev pub ncons_of : List (RustConDecl.ConDecl ℕ) → List NConDecl
ncons_of cs = map bare_con (cons_of cs)

abbrev pub ndecl_of : RustDecl.Decl ℕ Ref → NDecl
ndecl_of d = bare_decl (decl_of d)

abbrev pub ndecls_of : List (RustDecl.Decl ℕ Ref) → List NDecl
ndecls_of ds = bare_decls (decls_of ds)

abbrev pub nmodule_of : RustModule.Module ℕ Ref → NModule
nmodule_of m = bare_module (module_of m)

abbrev pub nmodules_of : List (RustModule.Module ℕ Ref) → List NModule
nmodules_of ms = map nmodule_of ms
