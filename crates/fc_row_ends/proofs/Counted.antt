-- The first number is the nodes.
use Rattle.std.proofs.Common.{◌≡◌, ◌≤◌, ◌+◌, false, List, [], ◌∷◌, refl, arith}
use Rattle.fc_model.specs.Nameless.{NATerm, NAType, NACo, NBound, NBValue, NBType, NBCo, NJoined, NBranch}
use Rattle.fc_model.specs.Nameless.{NExpr, NLocal, NVar, NLit, NApp, NLam, NLet, NCase, NCast, NCon, NPrim, NFail, NJoin, NJump}
use Rattle.fc_model.specs.Nameless.{NArgs, NoNArgs, MoreNArgs, NExprs, NoNExprs, MoreNExprs, NBinds, NoNBinds, MoreNBinds, NJoins, NoNJoins, MoreNJoins, NAlts, NoNAlts, MoreNAlts}
use Rattle.fc_model.specs.Nameless.{NDecl, NData, NNew, NFamily, NAxiom, NDef, NWrap, NModule, NModuleOf}
use Rattle.fc_rows.specs.Shrinking.{is_trivial}
use Rattle.fc_row_nodes.specs.Nodes.{alts_nodes, args_nodes, binds_nodes, decls_nodes, exprs_nodes, fields_nodes, joins_nodes, module_nodes, nodes}
use Rattle.fc_row_nodes.proofs.Within.{IsWithin, field_at_most, field_plain}
use Rattle.fc_row_ends.proofs.Drops.{Drops}
use Rattle.fc_row_ends.proofs.Numbers.{Nodes, Level, count, in_alts, in_args, in_binds, in_decls, in_exprs, in_fields, in_joins, in_module}

mutual
  pub nodes_counted : (l : Level Nodes) (e : NExpr) → count Nodes l e ≡ nodes e
  nodes_counted l (NLocal i) = refl
  nodes_counted l (NVar x) = refl
  nodes_counted l (NLit z) = refl
  nodes_counted l (NApp f (NATerm a)) = omega (arith, nodes_counted l f, nodes_counted l a)
  nodes_counted l (NApp f (NAType t)) = omega (arith, nodes_counted l f)
  nodes_counted l (NApp f (NACo g)) = omega (arith, nodes_counted l f)
  nodes_counted l (NLam (NBValue t) e) = omega (arith, nodes_counted l e)
  nodes_counted l (NLam (NBType k) e) = omega (arith, nodes_counted l e)
  nodes_counted l (NLam (NBCo r t u) e) = omega (arith, nodes_counted l e)
  nodes_counted l (NLet r bs e) = omega (arith, binds_counted l bs, nodes_counted l e)
  nodes_counted l (NCase e t u alts) = omega (arith, nodes_counted l e, alts_counted l alts)
  nodes_counted l (NCast e g) = omega (arith, nodes_counted l e)
  nodes_counted l (NCon k args) = omega (arith, fields_counted l args)
  nodes_counted l (NPrim op es) = omega (arith, exprs_counted l es)
  nodes_counted l (NFail t) = refl
  nodes_counted l (NJoin r t js e) = omega (arith, joins_counted l js, nodes_counted l e)
  nodes_counted l (NJump j args) = omega (arith, args_counted l args)

  exprs_counted : (l : Level Nodes) (es : NExprs) → in_exprs Nodes l es ≡ exprs_nodes es
  exprs_counted l NoNExprs = refl
  exprs_counted l (MoreNExprs e es) = omega (arith, nodes_counted l e, exprs_counted l es)

  args_counted : (l : Level Nodes) (args : NArgs) → in_args Nodes l args ≡ args_nodes args
  args_counted l NoNArgs = refl
  args_counted l (MoreNArgs (NATerm e) rest) = omega (arith, nodes_counted l e, args_counted l rest)
  args_counted l (MoreNArgs (NAType t) rest) = omega (arith, args_counted l rest)
  args_counted l (MoreNArgs (NACo g) rest) = omega (arith, args_counted l rest)

  pub fields_counted : (l : Level Nodes) (args : NArgs) → in_fields Nodes l args ≡ fields_nodes args
  fields_counted l NoNArgs = refl
  fields_counted l (MoreNArgs (NATerm e) rest) = omega (arith, nodes_counted l e, fields_counted l rest)
  fields_counted l (MoreNArgs (NAType t) rest) = omega (arith, fields_counted l rest)
  fields_counted l (MoreNArgs (NACo g) rest) = omega (arith, fields_counted l rest)

  binds_counted : (l : Level Nodes) (bs : NBinds) → in_binds Nodes l bs ≡ binds_nodes bs
  binds_counted l NoNBinds = refl
  binds_counted l (MoreNBinds (NBound t e) bs) = omega (arith, nodes_counted l e, binds_counted l bs)

  joins_counted : (l : Level Nodes) (js : NJoins) → in_joins Nodes l js ≡ joins_nodes js
  joins_counted l NoNJoins = refl
  joins_counted l (MoreNJoins (NJoined ps e) js) = omega (arith, nodes_counted l e, joins_counted l js)

  pub alts_counted : (l : Level Nodes) (alts : NAlts) → in_alts Nodes l alts ≡ alts_nodes alts
  alts_counted l NoNAlts = refl
  alts_counted l (MoreNAlts (NBranch h bs e) rest) = omega (arith, nodes_counted l e, alts_counted l rest)

-- what is made of no more nodes
pub nodes_stay : (e f : NExpr) → IsWithin 0 e f → Drops Nodes 0 e f
nodes_stay e f w = record {
  whole = λ l. omega (arith, w.whole, nodes_counted l e, nodes_counted l f);
  field = λ l. omega (arith, w.as_field, nodes_counted l e, nodes_counted l f);
}

-- what is made of fewer
pub nodes_fall : (e f : NExpr) → is_trivial e ≡ false → nodes f + 1 ≤ nodes e → Drops Nodes 1 e f
nodes_fall e f plain less = record {
  whole = λ l. omega (arith, less, nodes_counted l e, nodes_counted l f);
  field = λ l. omega (arith, less, field_plain e plain, field_at_most f, nodes_counted l e, nodes_counted l f);
}

-- MODULES

decls_counted : (ds : List NDecl) → in_decls Nodes ds ≡ decls_nodes ds
decls_counted [] = refl
decls_counted (NData x ps cs ∷ ds) = omega (arith, decls_counted ds)
decls_counted (NNew x ps t con ∷ ds) = omega (arith, decls_counted ds)
decls_counted (NFamily x ps k ∷ ds) = omega (arith, decls_counted ds)
decls_counted (NAxiom x ps t u ∷ ds) = omega (arith, decls_counted ds)
decls_counted (NDef x t e ∷ ds) = omega (arith, nodes_counted tt e, decls_counted ds)
decls_counted (NWrap x t e ∷ ds) = omega (arith, nodes_counted tt e, decls_counted ds)

pub module_counted : (m : NModule) → in_module Nodes m ≡ module_nodes m
module_counted (NModuleOf x imports exports hidden ds) = decls_counted ds
