-- The definitions that expressions and declarations in view mention are of modules in view.
use Rattle.std.proofs.Common.{List, [], ◌∷◌, ◌++◌}
use Rattle.std.specs.List.{AllByRecursion as Each}
use Rattle.std.proofs.lemmas.List.Elements.{All-from_recursion}
use Rattle.fc_syntax.specs.declared.ty.Name.{Name}
use Rattle.fc_model.specs.Mentioning.{in_head, in_name}
use Rattle.fc_model.specs.Nameless.{NExpr, NLocal, NVar, NLit, NApp, NLam, NLet, NCase, NCast, NCon, NPrim, NFail, NJoin, NJump, NArg, NATerm, NAType, NACo, NBound, NJoined, NBranch}
use Rattle.fc_model.specs.Nameless.{NExprs, NoNExprs, MoreNExprs, NArgs, NoNArgs, MoreNArgs, NBinds, NoNBinds, MoreNBinds, NJoins, NoNJoins, MoreNJoins, NAlts, NoNAlts, MoreNAlts}
use Rattle.fc_model.specs.Nameless.{NDecl, NData, NNew, NFamily, NAxiom, NDef, NWrap}
use Rattle.fc_headers.specs.NamelessHeaders.{modules_in_alts, modules_in_arg, modules_in_args, modules_in_binder, modules_in_binders, modules_in_binds, modules_in_coercion, modules_in_decl, modules_in_decls, modules_in_expr, modules_in_exprs, modules_in_joins, modules_in_type}
use Rattle.fc_reaching.specs.Reaching.{names_in, names_in_alts, names_in_arg, names_in_args, names_in_binds, names_in_exprs, names_in_joins}
use Rattle.fc_views.specs.Views.{AreInView, IsNameInView, NamesAreInView, View, names_in_decl, names_in_decls}
use Rattle.fc_views.proofs.TypesInView.{each_in_both, words_apart}

module _ (view : View) where
  abbrev AreNamesIn : List Name → Type 0
  AreNamesIn names = Each (IsNameInView view) names

  both : (xs ys : List Name) → AreNamesIn xs → AreNamesIn ys → AreNamesIn (xs ++ ys)
  both xs ys p q = each_in_both (IsNameInView view) xs ys p q

  mutual
    names_seen : (e : NExpr) → AreInView view (modules_in_expr e) → AreNamesIn (names_in e)
    names_seen (NLocal i) v = tt
    names_seen (NVar n) v = (v, tt)
    names_seen (NLit z) v = tt
    names_seen (NApp f a) v =
        let w = words_apart view (modules_in_expr f) (modules_in_arg a) v in
        both (names_in f) (names_in_arg a) (names_seen f w.0) (arg_names_seen a w.1)
    names_seen (NLam b e) v = let w = words_apart view (modules_in_binder b) (modules_in_expr e) v in names_seen e w.1
    names_seen (NLet r bs e) v =
        let w = words_apart view (modules_in_binds bs) (modules_in_expr e) v in
        both (names_in_binds bs) (names_in e) (bind_names_seen bs w.0) (names_seen e w.1)
    names_seen (NCase e t u alts) v =
        let w = words_apart view (modules_in_expr e) (modules_in_type t ++ (modules_in_type u ++ modules_in_alts alts)) v in
        let x = words_apart view (modules_in_type t) (modules_in_type u ++ modules_in_alts alts) w.1 in
        let y = words_apart view (modules_in_type u) (modules_in_alts alts) x.1 in
        both (names_in e) (names_in_alts alts) (names_seen e w.0) (alt_names_seen alts y.1)
    names_seen (NCast e g) v = let w = words_apart view (modules_in_expr e) (modules_in_coercion g) v in names_seen e w.0
    names_seen (NCon n args) v = let w = words_apart view (in_name n.module) (modules_in_args args) v in all_names_seen args w.1
    names_seen (NPrim op es) v = operand_names_seen es v
    names_seen (NFail t) v = tt
    names_seen (NJoin r t js e) v =
        let w = words_apart view (modules_in_type t) (modules_in_joins js ++ modules_in_expr e) v in
        let x = words_apart view (modules_in_joins js) (modules_in_expr e) w.1 in
        both (names_in_joins js) (names_in e) (join_names_seen js x.0) (names_seen e x.1)
    names_seen (NJump i args) v = all_names_seen args v

    arg_names_seen : (a : NArg) → AreInView view (modules_in_arg a) → AreNamesIn (names_in_arg a)
    arg_names_seen (NATerm e) v = names_seen e v
    arg_names_seen (NAType t) v = tt
    arg_names_seen (NACo g) v = tt

    all_names_seen : (args : NArgs) → AreInView view (modules_in_args args) → AreNamesIn (names_in_args args)
    all_names_seen NoNArgs v = tt
    all_names_seen (MoreNArgs a rest) v =
        let w = words_apart view (modules_in_arg a) (modules_in_args rest) v in
        both (names_in_arg a) (names_in_args rest) (arg_names_seen a w.0) (all_names_seen rest w.1)

    operand_names_seen : (es : NExprs) → AreInView view (modules_in_exprs es) → AreNamesIn (names_in_exprs es)
    operand_names_seen NoNExprs v = tt
    operand_names_seen (MoreNExprs e rest) v =
        let w = words_apart view (modules_in_expr e) (modules_in_exprs rest) v in
        both (names_in e) (names_in_exprs rest) (names_seen e w.0) (operand_names_seen rest w.1)

    bind_names_seen : (bs : NBinds) → AreInView view (modules_in_binds bs) → AreNamesIn (names_in_binds bs)
    bind_names_seen NoNBinds v = tt
    bind_names_seen (MoreNBinds (NBound t e) rest) v =
        let w = words_apart view (modules_in_type t) (modules_in_expr e ++ modules_in_binds rest) v in
        let x = words_apart view (modules_in_expr e) (modules_in_binds rest) w.1 in
        both (names_in e) (names_in_binds rest) (names_seen e x.0) (bind_names_seen rest x.1)

    join_names_seen : (js : NJoins) → AreInView view (modules_in_joins js) → AreNamesIn (names_in_joins js)
    join_names_seen NoNJoins v = tt
    join_names_seen (MoreNJoins (NJoined ps e) rest) v =
        let w = words_apart view (modules_in_binders ps) (modules_in_expr e ++ modules_in_joins rest) v in
        let x = words_apart view (modules_in_expr e) (modules_in_joins rest) w.1 in
        both (names_in e) (names_in_joins rest) (names_seen e x.0) (join_names_seen rest x.1)

    alt_names_seen : (alts : NAlts) → AreInView view (modules_in_alts alts) → AreNamesIn (names_in_alts alts)
    alt_names_seen NoNAlts v = tt
    alt_names_seen (MoreNAlts (NBranch h bs e) rest) v =
        let w = words_apart view (in_head h) (modules_in_binders bs ++ (modules_in_expr e ++ modules_in_alts rest)) v in
        let x = words_apart view (modules_in_binders bs) (modules_in_expr e ++ modules_in_alts rest) w.1 in
        let y = words_apart view (modules_in_expr e) (modules_in_alts rest) x.1 in
        both (names_in e) (names_in_alts rest) (names_seen e y.0) (alt_names_seen rest y.1)

  decl_names_seen : (d : NDecl) → AreInView view (modules_in_decl d) → AreNamesIn (names_in_decl d)
  decl_names_seen (NData n ps cs) v = tt
  decl_names_seen (NNew n ps t con) v = tt
  decl_names_seen (NFamily n ps k) v = tt
  decl_names_seen (NAxiom n ps t u) v = tt
  decl_names_seen (NDef n t e) v = let w = words_apart view (modules_in_type t) (modules_in_expr e) v in names_seen e w.1
  decl_names_seen (NWrap n t e) v = let w = words_apart view (modules_in_type t) (modules_in_expr e) v in names_seen e w.1

  decls_names_seen : (ds : List NDecl) → AreInView view (modules_in_decls ds) → AreNamesIn (names_in_decls ds)
  decls_names_seen [] v = tt
  decls_names_seen (d ∷ ds) v =
      let w = words_apart view (modules_in_decl d) (modules_in_decls ds) v in
      both (names_in_decl d) (names_in_decls ds) (decl_names_seen d w.0) (decls_names_seen ds w.1)

-- THE LAW

pub names_are_in_view : NamesAreInView
names_are_in_view view ds v = All-from_recursion (IsNameInView view) (names_in_decls ds) (decls_names_seen view ds v)
