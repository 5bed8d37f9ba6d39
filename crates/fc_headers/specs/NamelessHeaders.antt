-- The header of what is written, of a nameless module: the same as that of the named one. In a nameless module each name tells its module, one of the module itself too.
use Rattle.std.specs.Prelude.{◌≡◌, List, [], ◌++◌, Ok}
use Rattle.std.specs.List.{flat_map}
use Rattle.fc_syntax.specs.Tree.{Word, Module}
use Rattle.fc_model.specs.Declaring.{ndeclared_words}
use Rattle.fc_model.specs.Headers.{others, words_but, written_among}
use Rattle.fc_model.specs.Mentioning.{in_head, in_name}
use Rattle.fc_model.specs.Nameless.{NTy, NTVar, NTCon, NTInt, NTApp, NTFun, NTForall, NTCoForall}
use Rattle.fc_model.specs.Nameless.{NCo, NGVar, NGRefl, NGSym, NGTrans, NGTc, NGCapp, NGFun, NGAll, NGCoAll, NGInst, NGNth, NGLeft, NGRight, NGSub, NGAx, NGUniv, NCos, NoNCos, MoreNCos}
use Rattle.fc_model.specs.Nameless.{NBinder, NBValue, NBType, NBCo, NArg, NATerm, NAType, NACo, NBound, NJoined, NBranch}
use Rattle.fc_model.specs.Nameless.{NExpr, NLocal, NVar, NLit, NApp, NLam, NLet, NCase, NCast, NCon, NPrim, NFail, NJoin, NJump}
use Rattle.fc_model.specs.Nameless.{NExprs, NoNExprs, MoreNExprs, NArgs, NoNArgs, MoreNArgs, NBinds, NoNBinds, MoreNBinds, NJoins, NoNJoins, MoreNJoins, NAlts, NoNAlts, MoreNAlts}
use Rattle.fc_model.specs.Nameless.{NConDecl, NConOf, NDecl, NData, NNew, NFamily, NAxiom, NDef, NWrap, NModule, NModuleOf}
use Rattle.fc_model.specs.Resolution.{no_word, plus, plus_all, resolved_or_fault}

-- THE MODULES THAT A MODULE MENTIONS, in the order of the text

abbrev pub modules_in_type : NTy → List Word
modules_in_type (NTVar i) = []
modules_in_type (NTCon n) = in_name n.module
modules_in_type NTInt = []
modules_in_type (NTApp t u) = modules_in_type t ++ modules_in_type u
modules_in_type (NTFun t u) = modules_in_type t ++ modules_in_type u
modules_in_type (NTForall k t) = modules_in_type t
modules_in_type (NTCoForall r t u v) = modules_in_type t ++ (modules_in_type u ++ modules_in_type v)

abbrev mutual
  pub modules_in_coercion : NCo → List Word
  modules_in_coercion (NGVar i) = []
  modules_in_coercion (NGRefl r t) = modules_in_type t
  modules_in_coercion (NGSym g) = modules_in_coercion g
  modules_in_coercion (NGTrans g h) = modules_in_coercion g ++ modules_in_coercion h
  modules_in_coercion (NGTc r n gs) = in_name n.module ++ modules_in_coercions gs
  modules_in_coercion (NGCapp g h) = modules_in_coercion g ++ modules_in_coercion h
  modules_in_coercion (NGFun g h) = modules_in_coercion g ++ modules_in_coercion h
  modules_in_coercion (NGAll k g) = modules_in_coercion g
  modules_in_coercion (NGCoAll r s f g h) = modules_in_coercion f ++ (modules_in_coercion g ++ modules_in_coercion h)
  modules_in_coercion (NGInst g h) = modules_in_coercion g ++ modules_in_coercion h
  modules_in_coercion (NGNth n g) = modules_in_coercion g
  modules_in_coercion (NGLeft g) = modules_in_coercion g
  modules_in_coercion (NGRight g) = modules_in_coercion g
  modules_in_coercion (NGSub g) = modules_in_coercion g
  modules_in_coercion (NGAx n gs) = in_name n.module ++ modules_in_coercions gs
  modules_in_coercion (NGUniv t u) = modules_in_type t ++ modules_in_type u

  pub modules_in_coercions : NCos → List Word
  modules_in_coercions NoNCos = []
  modules_in_coercions (MoreNCos g gs) = modules_in_coercion g ++ modules_in_coercions gs

abbrev pub modules_in_types : List NTy → List Word
modules_in_types ts = flat_map modules_in_type ts

abbrev pub modules_in_binder : NBinder → List Word
modules_in_binder (NBValue t) = modules_in_type t
modules_in_binder (NBType k) = []
modules_in_binder (NBCo r t u) = modules_in_type t ++ modules_in_type u

abbrev pub modules_in_binders : List NBinder → List Word
modules_in_binders bs = flat_map modules_in_binder bs

abbrev mutual
  pub modules_in_expr : NExpr → List Word
  modules_in_expr (NLocal i) = []
  modules_in_expr (NVar n) = in_name n.module
  modules_in_expr (NLit n) = []
  modules_in_expr (NApp f a) = modules_in_expr f ++ modules_in_arg a
  modules_in_expr (NLam b e) = modules_in_binder b ++ modules_in_expr e
  modules_in_expr (NLet r bs e) = modules_in_binds bs ++ modules_in_expr e
  modules_in_expr (NCase e t u alts) = modules_in_expr e ++ (modules_in_type t ++ (modules_in_type u ++ modules_in_alts alts))
  modules_in_expr (NCast e g) = modules_in_expr e ++ modules_in_coercion g
  modules_in_expr (NCon n args) = in_name n.module ++ modules_in_args args
  modules_in_expr (NPrim op es) = modules_in_exprs es
  modules_in_expr (NFail t) = modules_in_type t
  modules_in_expr (NJoin r t js e) = modules_in_type t ++ (modules_in_joins js ++ modules_in_expr e)
  modules_in_expr (NJump i args) = modules_in_args args

  pub modules_in_arg : NArg → List Word
  modules_in_arg (NATerm e) = modules_in_expr e
  modules_in_arg (NAType t) = modules_in_type t
  modules_in_arg (NACo g) = modules_in_coercion g

  pub modules_in_args : NArgs → List Word
  modules_in_args NoNArgs = []
  modules_in_args (MoreNArgs a rest) = modules_in_arg a ++ modules_in_args rest

  pub modules_in_exprs : NExprs → List Word
  modules_in_exprs NoNExprs = []
  modules_in_exprs (MoreNExprs e rest) = modules_in_expr e ++ modules_in_exprs rest

  pub modules_in_binds : NBinds → List Word
  modules_in_binds NoNBinds = []
  modules_in_binds (MoreNBinds (NBound t e) rest) = modules_in_type t ++ (modules_in_expr e ++ modules_in_binds rest)

  pub modules_in_joins : NJoins → List Word
  modules_in_joins NoNJoins = []
  modules_in_joins (MoreNJoins (NJoined ps e) rest) = modules_in_binders ps ++ (modules_in_expr e ++ modules_in_joins rest)

  pub modules_in_alts : NAlts → List Word
  modules_in_alts NoNAlts = []
  modules_in_alts (MoreNAlts (NBranch h bs e) rest) = in_head h ++ (modules_in_binders bs ++ (modules_in_expr e ++ modules_in_alts rest))

abbrev pub modules_in_constructor : NConDecl → List Word
modules_in_constructor (NConOf n bs fields) = modules_in_binders bs ++ modules_in_types fields

abbrev pub modules_in_decl : NDecl → List Word
modules_in_decl (NData n ps cs) = flat_map modules_in_constructor cs
modules_in_decl (NNew n ps t con) = modules_in_type t
modules_in_decl (NFamily n ps k) = []
modules_in_decl (NAxiom n ps t u) = modules_in_type t ++ modules_in_type u
modules_in_decl (NDef n t e) = modules_in_type t ++ modules_in_expr e
modules_in_decl (NWrap n t e) = modules_in_type t ++ modules_in_expr e

abbrev pub modules_in_decls : List NDecl → List Word
modules_in_decls ds = flat_map modules_in_decl ds

-- THE HEADER

-- the hidden names that are written: the read ones, and then every other declared word that is not exported, in declared order
abbrev pub hidden_of_form : NModule → List Word
hidden_of_form (NModuleOf m imports exports hidden ds) = hidden ++ others (plus_all hidden (plus_all exports no_word)) (ndeclared_words ds)

-- the imports that are written, among modules of these names in the order in which they are built: the read ones, and then every other module than itself that
-- the module mentions
abbrev pub imports_of_form : List Word → NModule → List Word
imports_of_form order (NModuleOf m imports exports hidden ds) =
    imports ++ words_but (plus_all (modules_in_decls ds) no_word) (plus_all imports (plus m no_word)) order

-- the module under the written header, among modules of these names
abbrev pub form_written_among : List Word → NModule → NModule
form_written_among order (NModuleOf m imports exports hidden ds) =
    NModuleOf m (imports_of_form order (NModuleOf m imports exports hidden ds)) exports (hidden_of_form (NModuleOf m imports exports hidden ds)) ds

-- THE LAW: a module under its written header has the nameless form of the module under the same header

abbrev pub HeadersAgree : Type 0
HeadersAgree = (order : List Word) (m : Module) (n : NModule) → resolved_or_fault m ≡ Ok n → resolved_or_fault (written_among order m) ≡ Ok (form_written_among order n)
