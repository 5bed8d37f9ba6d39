-- The nodes of a nameless tree are those of the tree with words.
use Rattle.std.proofs.Common.{◌≡◌, ◌+◌, ◌*◌, Bool, true, false, List, [], ◌∷◌, refl, ap, ap₂, ◌∙◌}
use Rattle.fc_syntax.specs.declared.expr.Head.{Head}
use Rattle.fc_syntax.specs.declared.expr.Head.TheVariants as head
use Rattle.fc_syntax.specs.declared.ty.Ref.TheVariants as ref
use Rattle.fc_syntax.specs.GenericTree.{BValue, BType, BCo, ATerm, AType, ACo, Bound, Joined, Branch}
use Rattle.fc_syntax.specs.GenericTree.{EVar, ELit, EApp, ELam, ELet, ECase, ECast, ECon, EPrim, EFail, EJoin, EJump}
use Rattle.fc_syntax.specs.GenericTree.{NoExprs, MoreExprs, NoArgs, MoreArgs, NoBinds, MoreBinds, NoJoins, MoreJoins, NoAlts, MoreAlts}
use Rattle.fc_syntax.specs.GenericTree.{DData, DNew, DFamily, DAxiom, DDef, DWrap, ModuleOf}
use Rattle.fc_syntax.specs.Measures as worded
use Rattle.fc_model.specs.Worded.{WArg, WBind, WBinder, WDecl, WExpr, WExprs, WArgs, WBinds, WJoinBind, WJoins, WAlt, WAlts}
use Rattle.fc_model.specs.Worded.{bare_alt, bare_alts, bare_arg, bare_args, bare_bind, bare_binder, bare_binders, bare_binds, bare_decl, bare_decls, bare_expr, bare_exprs, bare_join, bare_joins}
use Rattle.fc_rows.specs.Shrinking.{is_trivial}
use Rattle.fc_row_nodes.specs.Nodes.{WordsAddNoNodes, alt_nodes, alternative_count, alts_nodes, applied_nodes, arg_nodes, args_nodes, bind_nodes, binds_nodes, counted_binders, decl_nodes, decls_nodes, exprs_nodes, field_extra, field_nodes, fields_nodes, join_nodes, joins_nodes, lambda_count, nodes}

-- BINDERS AND WHAT IS TRIVIAL

same_lambda : (b : WBinder) → lambda_count (bare_binder b) ≡ worded.lambda_count b
same_lambda (BValue x t) = refl
same_lambda (BType a k) = refl
same_lambda (BCo c r t u) = refl

same_binders : (bs : List WBinder) → counted_binders (bare_binders bs) ≡ worded.value_count bs
same_binders [] = refl
same_binders (b ∷ bs) = ap₂ (λ m n. m + n) (same_lambda b) (same_binders bs)

same_alternative : (h : Head) (bs : List WBinder) → alternative_count h (bare_binders bs) ≡ worded.alternative_count h bs
same_alternative head.Default bs = refl
same_alternative (head.Lit n) bs = refl
same_alternative (head.Con n) bs = ap (λ m. 1 + 2 * m) (same_binders bs)

same_trivial : (e : WExpr) → is_trivial (bare_expr e) ≡ worded.is_trivial e
same_trivial (EVar (ref.Local i)) = refl
same_trivial (EVar (ref.Top n)) = refl
same_trivial (EApp f (AType t)) = same_trivial f
same_trivial (ECast e g) = same_trivial e
same_trivial e = refl

same_extra : (b : Bool) → field_extra b ≡ worded.field_extra b
same_extra true = refl
same_extra false = refl

-- EXPRESSIONS

mutual
  same_nodes : (e : WExpr) → nodes (bare_expr e) ≡ worded.nodes_of e
  same_nodes (EVar (ref.Local i)) = refl
  same_nodes (EVar (ref.Top n)) = refl
  same_nodes (ELit n) = refl
  same_nodes (EApp f a) = ap₂ (λ m n. m + n) (same_applied a) (same_nodes f)
  same_nodes (ELam b e) = ap₂ (λ m n. m + n) (same_lambda b) (same_nodes e)
  same_nodes (ELet r bs e) = ap₂ (λ m n. m + n) (same_binds bs) (same_nodes e)
  same_nodes (ECase e x t u alts) = ap₂ (λ m n. 1 + (m + n)) (same_nodes e) (same_alts alts)
  same_nodes (ECast e g) = same_nodes e
  same_nodes (ECon k args) = ap (λ n. 1 + n) (same_fields args)
  same_nodes (EPrim op es) = ap (λ n. 1 + n) (same_exprs es)
  same_nodes (EFail t) = refl
  same_nodes (EJoin r t js e) = ap₂ (λ m n. 1 + (m + n)) (same_joins js) (same_nodes e)
  same_nodes (EJump j args) = ap (λ n. 1 + n) (same_args args)

  same_applied : (a : WArg) → applied_nodes (bare_arg a) ≡ worded.applied_nodes a
  same_applied (ATerm e) = ap (λ n. 1 + n) (same_nodes e)
  same_applied (AType t) = refl
  same_applied (ACo g) = refl

  same_arg : (a : WArg) → arg_nodes (bare_arg a) ≡ worded.arg_nodes a
  same_arg (ATerm e) = same_nodes e
  same_arg (AType t) = refl
  same_arg (ACo g) = refl

  same_field : (a : WArg) → field_nodes (bare_arg a) ≡ worded.field_nodes a
  same_field (ATerm e) = ap₂ (λ m n. m + n) (same_nodes e) (ap field_extra (same_trivial e) ∙ same_extra (worded.is_trivial e))
  same_field (AType t) = refl
  same_field (ACo g) = refl

  same_bind : (b : WBind) → bind_nodes (bare_bind b) ≡ worded.bind_nodes b
  same_bind (Bound x t e) = ap (λ n. 1 + n) (same_nodes e)

  same_join : (j : WJoinBind) → join_nodes (bare_join j) ≡ worded.join_nodes j
  same_join (Joined j ps e) = ap₂ (λ m n. (1 + m) + n) (same_binders ps) (same_nodes e)

  same_alt : (a : WAlt) → alt_nodes (bare_alt a) ≡ worded.alt_nodes a
  same_alt (Branch h bs e) = ap₂ (λ m n. m + n) (same_alternative h bs) (same_nodes e)

  same_exprs : (es : WExprs) → exprs_nodes (bare_exprs es) ≡ worded.exprs_nodes es
  same_exprs NoExprs = refl
  same_exprs (MoreExprs e rest) = ap₂ (λ m n. m + n) (same_nodes e) (same_exprs rest)

  same_args : (args : WArgs) → args_nodes (bare_args args) ≡ worded.args_nodes args
  same_args NoArgs = refl
  same_args (MoreArgs a rest) = ap₂ (λ m n. m + n) (same_arg a) (same_args rest)

  same_fields : (args : WArgs) → fields_nodes (bare_args args) ≡ worded.fields_nodes args
  same_fields NoArgs = refl
  same_fields (MoreArgs a rest) = ap₂ (λ m n. m + n) (same_field a) (same_fields rest)

  same_binds : (bs : WBinds) → binds_nodes (bare_binds bs) ≡ worded.binds_nodes bs
  same_binds NoBinds = refl
  same_binds (MoreBinds b rest) = ap₂ (λ m n. m + n) (same_bind b) (same_binds rest)

  same_joins : (js : WJoins) → joins_nodes (bare_joins js) ≡ worded.joins_nodes js
  same_joins NoJoins = refl
  same_joins (MoreJoins j rest) = ap₂ (λ m n. m + n) (same_join j) (same_joins rest)

  same_alts : (alts : WAlts) → alts_nodes (bare_alts alts) ≡ worded.alts_nodes alts
  same_alts NoAlts = refl
  same_alts (MoreAlts a rest) = ap₂ (λ m n. m + n) (same_alt a) (same_alts rest)

-- MODULES

same_decl : (d : WDecl) → decl_nodes (bare_decl d) ≡ worded.decl_nodes d
same_decl (DData n ps cs) = refl
same_decl (DNew n ps t con) = refl
same_decl (DFamily n ps k) = refl
same_decl (DAxiom n ps t u) = refl
same_decl (DDef n t e) = ap (λ m. 1 + m) (same_nodes e)
same_decl (DWrap n t e) = ap (λ m. 1 + m) (same_nodes e)

same_decls : (ds : List WDecl) → decls_nodes (bare_decls ds) ≡ worded.decls_nodes ds
same_decls [] = refl
same_decls (d ∷ ds) = ap₂ (λ m n. m + n) (same_decl d) (same_decls ds)

pub words_add_no_nodes : WordsAddNoNodes
words_add_no_nodes (ModuleOf n imports exports hidden ds) = same_decls ds
