-- The pieces of a formed expression or declaration can be printed.
use Rattle.std.proofs.Common.{◌≡◌, true, false, List, [], ◌∷◌, refl, sym}
use Rattle.std.specs.Prelude.{◌&&◌}
use Rattle.std.specs.List.{list_all}
use Rattle.std.proofs.lemmas.Bool.{and_parts, and_from, true≢false}
use Rattle.fc_syntax.specs.declared.expr.Head.TheVariants as head
use Rattle.fc_syntax.specs.Tree as tree
use Rattle.fc_syntax.specs.Tree.{Ty, Binder, BValue, BType, BCo, Arg, ATerm, Bind, Bound, JoinBind, Joined, Alt, Branch}
use Rattle.fc_syntax.specs.Tree.{Expr, EVar, ELit, EApp, ELam, ELet, ECase, ECast, ECon, EPrim, EFail, EJoin, EJump}
use Rattle.fc_syntax.specs.Tree.{Exprs, NoExprs, MoreExprs, Args, NoArgs, MoreArgs, Binds, NoBinds, MoreBinds, Joins, NoJoins, MoreJoins, Alts, NoAlts, MoreAlts}
use Rattle.fc_syntax.specs.Tree.{Param, ParamOf, Plain, PlainOf, ConDecl, ConOf, Decl, DData, DNew, DFamily, DAxiom, DDef, DWrap}
use Rattle.fc_model.specs.Words.{Lower, Upper}
use Rattle.fc_model.specs.Pieces.{Pieces, NoPieces}
use Rattle.fc_model.specs.Spelling.{Position, Alone, AsHead, Binders, Body, group, leaf, type_pieces, co_pieces, expr_pieces, arg_pieces, args_pieces, exprs_pieces, bind_pieces, binds_pieces, join_pieces, joins_pieces, alt_pieces, alts_pieces}
use Rattle.fc_model.specs.Spelling.{params_pieces, plains_pieces, cons_pieces, decl_piece, role_tok}
use Rattle.fc_model.specs.Formed.{is_bind_group, is_join_group, is_expr_formed, is_arg_formed, are_args_formed, are_exprs_formed, is_bind_formed, are_binds_formed, is_join_formed, are_joins_formed, is_alt_formed, are_alts_formed, is_empty_list}
use Rattle.fc_model.specs.Formed.{is_binder_formed, is_co_formed, is_literal_formed, is_lower_word, is_type_formed, is_upper_formed, is_upper_word, is_param_formed, is_plain_formed, is_con_formed, is_decl_formed, are_field_binders, are_field_coercions}
use Rattle.fc_printer.proofs.Printed.{ArePrintable, IsPrintable}
use Rattle.fc_printer.proofs.Leaves.{binder_leaves, binders_leaves, co_leaves, kind_leaves, lower_leaf, operator_leaf, role_leaf, type_leaves, types_leaves, upper_leaf}

mutual
  expr_leaves : (at : Position) (e : Expr) → is_expr_formed e ≡ true → (more : Pieces) → ArePrintable more → ArePrintable (expr_pieces at e more)
  expr_leaves Binders (ELam b e) h more m =
      let p = and_parts (is_binder_formed b) (is_expr_formed e) h in
      binder_leaves b p.0 (expr_pieces Binders e more) (expr_leaves Binders e p.1 more m)
  expr_leaves Binders e h more m = m
  expr_leaves Body (ELam b e) h more m = expr_leaves Body e (and_parts (is_binder_formed b) (is_expr_formed e) h).1 more m
  expr_leaves AsHead (EApp f a) h more m =
      let p = and_parts (is_expr_formed f) (is_arg_formed a) h in
      expr_leaves AsHead f p.0 (arg_pieces a more) (arg_leaves a p.1 more m)
  expr_leaves at (EVar n) h more m = (lower_leaf n h, m)
  expr_leaves at (ELit n) h more m = (h, m)
  expr_leaves at (EApp f a) h more m =
      let p = and_parts (is_expr_formed f) (is_arg_formed a) h in
      ((refl, expr_leaves AsHead f p.0 (arg_pieces a NoPieces) (arg_leaves a p.1 NoPieces tt)), m)
  expr_leaves at (ELam b e) h more m =
      let p = and_parts (is_binder_formed b) (is_expr_formed e) h in
      ((refl, (binder_leaves b p.0 (expr_pieces Binders e NoPieces) (expr_leaves Binders e p.1 NoPieces tt), expr_leaves Body e p.1 NoPieces tt)), m)
  expr_leaves at (ELet false bs e) h more m =
      let p = and_parts (are_binds_formed bs) (is_expr_formed e) (and_parts (is_bind_group false bs) (are_binds_formed bs && is_expr_formed e) h).1 in
      ((refl, binds_leaves bs p.0 (expr_pieces Alone e NoPieces) (expr_leaves Alone e p.1 NoPieces tt)), m)
  expr_leaves at (ELet true bs e) h more m =
      let p = and_parts (are_binds_formed bs) (is_expr_formed e) (and_parts (is_bind_group true bs) (are_binds_formed bs && is_expr_formed e) h).1 in
      ((refl, (binds_leaves bs p.0 NoPieces tt, expr_leaves Alone e p.1 NoPieces tt)), m)
  expr_leaves at (ECase e x t u alts) h more m =
      let p = and_parts (is_expr_formed e) ((is_lower_word x && (is_type_formed t && is_type_formed u)) && are_alts_formed alts) h in
      let p' = and_parts (is_lower_word x && (is_type_formed t && is_type_formed u)) (are_alts_formed alts) p.1 in
      let named = and_parts (is_lower_word x) (is_type_formed t && is_type_formed u) p'.0 in
      let tys = and_parts (is_type_formed t) (is_type_formed u) named.1 in
      let rest = group (leaf (Lower x) (type_pieces Alone t NoPieces)) (type_pieces Alone u (alts_pieces alts NoPieces)) in
      ((refl, expr_leaves Alone e p.0 rest ((named.0, type_leaves Alone t tys.0 NoPieces tt), type_leaves Alone u tys.1 (alts_pieces alts NoPieces) (alts_leaves alts p'.1))), m)
  expr_leaves at (ECast e g) h more m =
      let p = and_parts (is_expr_formed e) (is_co_formed g) h in
      ((refl, expr_leaves Alone e p.0 (co_pieces g NoPieces) (co_leaves g p.1 NoPieces tt)), m)
  expr_leaves at (ECon n args) h more m = let p = and_parts (is_upper_formed n) (are_args_formed args) h in ((refl, (upper_leaf n p.0, args_leaves args p.1)), m)
  expr_leaves at (EPrim o es) h more m = ((refl, (operator_leaf o, exprs_leaves es h)), m)
  expr_leaves at (EFail t) h more m = ((refl, type_leaves Alone t h NoPieces tt), m)
  expr_leaves at (EJoin false t js e) h more m =
      let p = and_parts (is_type_formed t) (are_joins_formed js && is_expr_formed e) (and_parts (is_join_group false js) (is_type_formed t && (are_joins_formed js && is_expr_formed e)) h).1 in
      let q = and_parts (are_joins_formed js) (is_expr_formed e) p.1 in
      ((refl, type_leaves Alone t p.0 (joins_pieces js (expr_pieces Alone e NoPieces)) (joins_leaves js q.0 (expr_pieces Alone e NoPieces) (expr_leaves Alone e q.1 NoPieces tt))), m)
  expr_leaves at (EJoin true t js e) h more m =
      let p = and_parts (is_type_formed t) (are_joins_formed js && is_expr_formed e) (and_parts (is_join_group true js) (is_type_formed t && (are_joins_formed js && is_expr_formed e)) h).1 in
      let q = and_parts (are_joins_formed js) (is_expr_formed e) p.1 in
      ((refl, type_leaves Alone t p.0 (group (joins_pieces js NoPieces) (expr_pieces Alone e NoPieces)) (joins_leaves js q.0 NoPieces tt, expr_leaves Alone e q.1 NoPieces tt)), m)
  expr_leaves at (EJump j args) h more m = let p = and_parts (is_lower_word j) (are_args_formed args) h in ((refl, (p.0, args_leaves args p.1)), m)

  arg_leaves : (a : Arg) → is_arg_formed a ≡ true → (more : Pieces) → ArePrintable more → ArePrintable (arg_pieces a more)
  arg_leaves (ATerm e) h more m = expr_leaves Alone e h more m
  arg_leaves (tree.AType t) h more m = ((refl, type_leaves Alone t h NoPieces tt), m)
  arg_leaves (tree.ACo g) h more m = ((refl, co_leaves g h NoPieces tt), m)

  args_leaves : (xs : Args) → are_args_formed xs ≡ true → ArePrintable (args_pieces xs NoPieces)
  args_leaves NoArgs h = tt
  args_leaves (MoreArgs a xs) h = let p = and_parts (is_arg_formed a) (are_args_formed xs) h in arg_leaves a p.0 (args_pieces xs NoPieces) (args_leaves xs p.1)

  exprs_leaves : (xs : Exprs) → are_exprs_formed xs ≡ true → ArePrintable (exprs_pieces xs NoPieces)
  exprs_leaves NoExprs h = tt
  exprs_leaves (MoreExprs e xs) h = let p = and_parts (is_expr_formed e) (are_exprs_formed xs) h in expr_leaves Alone e p.0 (exprs_pieces xs NoPieces) (exprs_leaves xs p.1)

  bind_leaves : (b : Bind) → is_bind_formed b ≡ true → (more : Pieces) → ArePrintable more → ArePrintable (bind_pieces b more)
  bind_leaves (Bound x t e) h more m =
      let p = and_parts (is_lower_word x) (is_type_formed t && is_expr_formed e) h in
      let q = and_parts (is_type_formed t) (is_expr_formed e) p.1 in
      ((p.0, type_leaves Alone t q.0 (expr_pieces Alone e NoPieces) (expr_leaves Alone e q.1 NoPieces tt)), m)

  binds_leaves : (bs : Binds) → are_binds_formed bs ≡ true → (more : Pieces) → ArePrintable more → ArePrintable (binds_pieces bs more)
  binds_leaves NoBinds h more m = m
  binds_leaves (MoreBinds b bs) h more m = let p = and_parts (is_bind_formed b) (are_binds_formed bs) h in bind_leaves b p.0 (binds_pieces bs more) (binds_leaves bs p.1 more m)

  join_leaves : (j : JoinBind) → is_join_formed j ≡ true → (more : Pieces) → ArePrintable more → ArePrintable (join_pieces j more)
  join_leaves (Joined j params e) h more m =
      let p = and_parts (is_lower_word j) (list_all is_binder_formed params && is_expr_formed e) h in
      let q = and_parts (list_all is_binder_formed params) (is_expr_formed e) p.1 in
      ((p.0, (binders_leaves params q.0, expr_leaves Alone e q.1 NoPieces tt)), m)

  joins_leaves : (js : Joins) → are_joins_formed js ≡ true → (more : Pieces) → ArePrintable more → ArePrintable (joins_pieces js more)
  joins_leaves NoJoins h more m = m
  joins_leaves (MoreJoins j js) h more m = let p = and_parts (is_join_formed j) (are_joins_formed js) h in join_leaves j p.0 (joins_pieces js more) (joins_leaves js p.1 more m)

  alt_leaves : (a : Alt) → is_alt_formed a ≡ true → (more : Pieces) → ArePrintable more → ArePrintable (alt_pieces a more)
  alt_leaves (Branch head.Default bs e) h more m = ((refl, expr_leaves Alone e (and_parts (is_empty_list bs) (is_expr_formed e) h).1 NoPieces tt), m)
  alt_leaves (Branch (head.Lit n) bs e) h more m =
      let p = and_parts (is_literal_formed n && is_empty_list bs) (is_expr_formed e) h in
      (((and_parts (is_literal_formed n) (is_empty_list bs) p.0).0, expr_leaves Alone e p.1 NoPieces tt), m)
  alt_leaves (Branch (head.Con n) bs e) h more m =
      let p = and_parts (is_upper_formed n && list_all is_binder_formed bs) (is_expr_formed e) h in
      let q = and_parts (is_upper_formed n) (list_all is_binder_formed bs) p.0 in
      ((upper_leaf n q.0, (binders_leaves bs q.1, expr_leaves Alone e p.1 NoPieces tt)), m)

  alts_leaves : (xs : Alts) → are_alts_formed xs ≡ true → ArePrintable (alts_pieces xs NoPieces)
  alts_leaves NoAlts h = tt
  alts_leaves (MoreAlts a xs) h = let p = and_parts (is_alt_formed a) (are_alts_formed xs) h in alt_leaves a p.0 (alts_pieces xs NoPieces) (alts_leaves xs p.1)

-- declarations
params_leaves : (ps : List Param) → list_all is_param_formed ps ≡ true → ArePrintable (params_pieces ps NoPieces)
params_leaves [] h = tt
params_leaves (ParamOf a k r ∷ ps) h =
    let p = and_parts (is_lower_word a) (list_all is_param_formed ps) h in
    ((p.0, kind_leaves k (leaf (role_tok r) NoPieces) (role_leaf r, tt)), params_leaves ps p.1)

plains_leaves : (ps : List Plain) → list_all is_plain_formed ps ≡ true → ArePrintable (plains_pieces ps NoPieces)
plains_leaves [] h = tt
plains_leaves (PlainOf a k ∷ ps) h = let p = and_parts (is_lower_word a) (list_all is_plain_formed ps) h in ((p.0, kind_leaves k NoPieces tt), plains_leaves ps p.1)

-- the binders of a constructor are binders
field_coercions_formed : (bs : List Binder) → are_field_coercions bs ≡ true → list_all is_binder_formed bs ≡ true
field_coercions_formed [] h = refl
field_coercions_formed (BValue x t ∷ bs) h = absurd (true≢false (sym h))
field_coercions_formed (BType a k ∷ bs) h = absurd (true≢false (sym h))
field_coercions_formed (BCo c r t u ∷ bs) h =
    let p = and_parts (is_binder_formed (BCo c r t u)) (are_field_coercions bs) h in
    and_from (is_binder_formed (BCo c r t u)) (list_all is_binder_formed bs) p.0 (field_coercions_formed bs p.1)

field_binders_formed : (bs : List Binder) → are_field_binders bs ≡ true → list_all is_binder_formed bs ≡ true
field_binders_formed [] h = refl
field_binders_formed (BValue x t ∷ bs) h = absurd (true≢false (sym h))
field_binders_formed (BType a k ∷ bs) h = let p = and_parts (is_lower_word a) (are_field_binders bs) h in and_from (is_lower_word a) (list_all is_binder_formed bs) p.0 (field_binders_formed bs p.1)
field_binders_formed (BCo c r t u ∷ bs) h =
    let p = and_parts (is_binder_formed (BCo c r t u)) (are_field_coercions bs) h in
    and_from (is_binder_formed (BCo c r t u)) (list_all is_binder_formed bs) p.0 (field_coercions_formed bs p.1)

cons_leaves : (cs : List ConDecl) → list_all is_con_formed cs ≡ true → ArePrintable (cons_pieces cs NoPieces)
cons_leaves [] h = tt
cons_leaves (ConOf n bs fields ∷ cs) h =
    let p = and_parts (is_con_formed (ConOf n bs fields)) (list_all is_con_formed cs) h in
    let p' = and_parts (is_upper_word n) (are_field_binders bs && list_all is_type_formed fields) p.0 in
    let q = and_parts (are_field_binders bs) (list_all is_type_formed fields) p'.1 in
    ((p'.0, (binders_leaves bs (field_binders_formed bs q.0), types_leaves fields q.1)), cons_leaves cs p.1)

def_leaves : (t : Ty) (e : Expr) → (is_type_formed t && is_expr_formed e) ≡ true → ArePrintable (type_pieces Alone t (expr_pieces Alone e NoPieces))
def_leaves t e h = let p = and_parts (is_type_formed t) (is_expr_formed e) h in type_leaves Alone t p.0 (expr_pieces Alone e NoPieces) (expr_leaves Alone e p.1 NoPieces tt)

pub decl_leaves : (d : Decl) → is_decl_formed d ≡ true → IsPrintable (decl_piece d)
decl_leaves (DData n ps cs) h =
    let p = and_parts (is_upper_word n) (list_all is_param_formed ps && list_all is_con_formed cs) h in
    let q = and_parts (list_all is_param_formed ps) (list_all is_con_formed cs) p.1 in
    (refl, (p.0, (params_leaves ps q.0, cons_leaves cs q.1)))
decl_leaves (DNew n ps t c) h =
    let p = and_parts (is_upper_word n && is_upper_word c) (list_all is_param_formed ps && is_type_formed t) h in
    let names = and_parts (is_upper_word n) (is_upper_word c) p.0 in
    let q = and_parts (list_all is_param_formed ps) (is_type_formed t) p.1 in
    (refl, (names.0, (params_leaves ps q.0, type_leaves Alone t q.1 (leaf (Upper c) NoPieces) (names.1, tt))))
decl_leaves (DFamily n ps k) h =
    let p = and_parts (is_upper_word n) (list_all is_plain_formed ps) h in
    (refl, (p.0, (plains_leaves ps p.1, kind_leaves k NoPieces tt)))
decl_leaves (DAxiom n ps t u) h =
    let p = and_parts (is_upper_word n) (list_all is_plain_formed ps && (is_type_formed t && is_type_formed u)) h in
    let q = and_parts (list_all is_plain_formed ps) (is_type_formed t && is_type_formed u) p.1 in
    let tys = and_parts (is_type_formed t) (is_type_formed u) q.1 in
    (refl, (p.0, (plains_leaves ps q.0, type_leaves Alone t tys.0 (type_pieces Alone u NoPieces) (type_leaves Alone u tys.1 NoPieces tt))))
decl_leaves (DDef n t e) h = let p = and_parts (is_lower_word n) (is_type_formed t && is_expr_formed e) h in (refl, (p.0, def_leaves t e p.1))
decl_leaves (DWrap n t e) h = let p = and_parts (is_lower_word n) (is_type_formed t && is_expr_formed e) h in (refl, (p.0, def_leaves t e p.1))
