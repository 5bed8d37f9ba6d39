-- How many terms a nameless tree is made of. Types, coercions and casts count nothing, and a term of a constructor that is not trivial counts two more.
use Rattle.std.specs.Prelude.{◌≡◌, ℕ, ◌+◌, ◌*◌, Bool, true, false, List, [], ◌∷◌}
use Rattle.fc_syntax.specs.Measures.{module_nodes as worded_nodes}
use Rattle.fc_syntax.specs.declared.expr.Head.{Head}
use Rattle.fc_syntax.specs.declared.expr.Head.TheVariants as head
use Rattle.fc_model.specs.Nameless.{NBinder, NBValue, NBType, NBCo, NArg, NATerm, NAType, NACo, NBind, NBound, NJoinBind, NJoined, NAlt, NBranch}
use Rattle.fc_model.specs.Nameless.{NExpr, NLocal, NVar, NLit, NApp, NLam, NLet, NCase, NCast, NCon, NPrim, NFail, NJoin, NJump}
use Rattle.fc_model.specs.Nameless.{NArgs, NoNArgs, MoreNArgs, NExprs, NoNExprs, MoreNExprs, NBinds, NoNBinds, MoreNBinds, NJoins, NoNJoins, MoreNJoins, NAlts, NoNAlts, MoreNAlts}
use Rattle.fc_model.specs.Nameless.{NDecl, NData, NNew, NFamily, NAxiom, NDef, NWrap, NModule, NModuleOf}
use Rattle.fc_model.specs.Worded.{WModule, bare_module}
use Rattle.fc_rows.specs.Shrinking.{is_trivial}

-- a lambda over a type is not counted
abbrev pub lambda_count : NBinder → ℕ
lambda_count (NBValue t) = 1
lambda_count (NBType k) = 0
lambda_count (NBCo r t u) = 1

-- how many of the binders bind a term or a coercion
abbrev pub counted_binders : List NBinder → ℕ
counted_binders [] = 0
counted_binders (b ∷ bs) = lambda_count b + counted_binders bs

-- an alternative of a constructor counts one and two for each term and coercion that it binds, one of a literal counts one, and a default nothing
abbrev pub alternative_count : Head → List NBinder → ℕ
alternative_count head.Default bs = 0
alternative_count (head.Lit n) bs = 1
alternative_count (head.Con n) bs = 1 + 2 * counted_binders bs

abbrev pub field_extra : Bool → ℕ
field_extra true = 0
field_extra false = 2

abbrev mutual
  pub nodes : NExpr → ℕ
  nodes (NLocal i) = 1
  nodes (NVar n) = 1
  nodes (NLit n) = 1
  nodes (NApp f a) = applied_nodes a + nodes f
  nodes (NLam b e) = lambda_count b + nodes e
  nodes (NLet r bs e) = binds_nodes bs + nodes e
  nodes (NCase e t u alts) = 1 + (nodes e + alts_nodes alts)
  nodes (NCast e g) = nodes e
  nodes (NCon k args) = 1 + fields_nodes args
  nodes (NPrim op es) = 1 + exprs_nodes es
  nodes (NFail t) = 1
  nodes (NJoin r t js e) = 1 + (joins_nodes js + nodes e)
  nodes (NJump j args) = 1 + args_nodes args

  pub applied_nodes : NArg → ℕ
  applied_nodes (NATerm e) = 1 + nodes e
  applied_nodes (NAType t) = 0
  applied_nodes (NACo g) = 2

  pub arg_nodes : NArg → ℕ
  arg_nodes (NATerm e) = nodes e
  arg_nodes (NAType t) = 0
  arg_nodes (NACo g) = 1

  pub field_nodes : NArg → ℕ
  field_nodes (NATerm e) = nodes e + field_extra (is_trivial e)
  field_nodes (NAType t) = 0
  field_nodes (NACo g) = 1

  pub bind_nodes : NBind → ℕ
  bind_nodes (NBound t e) = 1 + nodes e

  pub join_nodes : NJoinBind → ℕ
  join_nodes (NJoined ps e) = (1 + counted_binders ps) + nodes e

  pub alt_nodes : NAlt → ℕ
  alt_nodes (NBranch h bs e) = alternative_count h bs + nodes e

  pub exprs_nodes : NExprs → ℕ
  exprs_nodes NoNExprs = 0
  exprs_nodes (MoreNExprs e es) = nodes e + exprs_nodes es

  pub args_nodes : NArgs → ℕ
  args_nodes NoNArgs = 0
  args_nodes (MoreNArgs a rest) = arg_nodes a + args_nodes rest

  pub fields_nodes : NArgs → ℕ
  fields_nodes NoNArgs = 0
  fields_nodes (MoreNArgs a rest) = field_nodes a + fields_nodes rest

  pub binds_nodes : NBinds → ℕ
  binds_nodes NoNBinds = 0
  binds_nodes (MoreNBinds b bs) = bind_nodes b + binds_nodes bs

  pub joins_nodes : NJoins → ℕ
  joins_nodes NoNJoins = 0
  joins_nodes (MoreNJoins j js) = join_nodes j + joins_nodes js

  pub alts_nodes : NAlts → ℕ
  alts_nodes NoNAlts = 0
  alts_nodes (MoreNAlts a rest) = alt_nodes a + alts_nodes rest

-- a definition counts one and its right side, every other declaration nothing
abbrev pub decl_nodes : NDecl → ℕ
decl_nodes (NData n ps cs) = 0
decl_nodes (NNew n ps t con) = 0
decl_nodes (NFamily n ps k) = 0
decl_nodes (NAxiom n ps t u) = 0
decl_nodes (NDef n t e) = 1 + nodes e
decl_nodes (NWrap n t e) = 1 + nodes e

abbrev pub decls_nodes : List NDecl → ℕ
decls_nodes [] = 0
decls_nodes (d ∷ ds) = decl_nodes d + decls_nodes ds

-- the nodes of a module: those of its definitions
abbrev pub module_nodes : NModule → ℕ
module_nodes (NModuleOf m imports exports hidden ds) = decls_nodes ds

-- the words that binders keep count for nothing: these are the nodes of the tree with words
abbrev pub WordsAddNoNodes : Type 0
WordsAddNoNodes = (m : WModule) → module_nodes (bare_module m) ≡ worded_nodes m
