-- The definitions of a module that one reaches by what right sides mention.
use Rattle.std.specs.Prelude.{◌≡◌, ◌↔◌, Bool, true, if◌then◌else◌, List, [], ◌∷◌, ◌++◌, Option, Some, None}
use Rattle.std.specs.List.{filter, list_any}
use Rattle.std.specs.Str.{bytes_eq}
use Rattle.fc_syntax.specs.declared.ty.Name.{Name}
use Rattle.fc_syntax.specs.Tree.{Word}
use Rattle.fc_model.specs.Kinding.{same_name}
use Rattle.fc_model.specs.Nameless.{NExpr, NLocal, NVar, NLit, NApp, NLam, NLet, NCase, NCast, NCon, NPrim, NFail, NJoin, NJump}
use Rattle.fc_model.specs.Nameless.{NArg, NATerm, NAType, NACo, NBind, NBound, NJoinBind, NJoined, NAlt, NBranch}
use Rattle.fc_model.specs.Nameless.{NExprs, NoNExprs, MoreNExprs, NArgs, NoNArgs, MoreNArgs, NBinds, NoNBinds, MoreNBinds, NJoins, NoNJoins, MoreNJoins, NAlts, NoNAlts, MoreNAlts}
use Rattle.fc_model.specs.Nameless.{NDecl, NData, NNew, NFamily, NAxiom, NDef, NWrap, NModule, NModuleOf}

-- WHAT AN EXPRESSION MENTIONS

-- the names of definitions that stand in an expression, in the order in which they do
abbrev mutual
  pub names_in : NExpr → List Name
  names_in (NLocal i) = []
  names_in (NVar n) = n ∷ []
  names_in (NLit z) = []
  names_in (NApp f a) = names_in f ++ names_in_arg a
  names_in (NLam b e) = names_in e
  names_in (NLet r bs e) = names_in_binds bs ++ names_in e
  names_in (NCase e xt rt alts) = names_in e ++ names_in_alts alts
  names_in (NCast e g) = names_in e
  names_in (NCon n args) = names_in_args args
  names_in (NPrim op es) = names_in_exprs es
  names_in (NFail t) = []
  names_in (NJoin r t js e) = names_in_joins js ++ names_in e
  names_in (NJump i args) = names_in_args args

  pub names_in_arg : NArg → List Name
  names_in_arg (NATerm e) = names_in e
  names_in_arg (NAType t) = []
  names_in_arg (NACo g) = []

  pub names_in_bind : NBind → List Name
  names_in_bind (NBound t e) = names_in e

  pub names_in_join : NJoinBind → List Name
  names_in_join (NJoined params e) = names_in e

  pub names_in_alt : NAlt → List Name
  names_in_alt (NBranch h bs e) = names_in e

  pub names_in_exprs : NExprs → List Name
  names_in_exprs NoNExprs = []
  names_in_exprs (MoreNExprs e rest) = names_in e ++ names_in_exprs rest

  pub names_in_args : NArgs → List Name
  names_in_args NoNArgs = []
  names_in_args (MoreNArgs a rest) = names_in_arg a ++ names_in_args rest

  pub names_in_binds : NBinds → List Name
  names_in_binds NoNBinds = []
  names_in_binds (MoreNBinds b rest) = names_in_bind b ++ names_in_binds rest

  pub names_in_joins : NJoins → List Name
  names_in_joins NoNJoins = []
  names_in_joins (MoreNJoins j rest) = names_in_join j ++ names_in_joins rest

  pub names_in_alts : NAlts → List Name
  names_in_alts NoNAlts = []
  names_in_alts (MoreNAlts a rest) = names_in_alt a ++ names_in_alts rest

-- THE DEFINITIONS OF A MODULE

-- the words of the definitions, in declared order
abbrev pub defined_words : List NDecl → List Word
defined_words [] = []
defined_words (NData n ps cs ∷ ds) = defined_words ds
defined_words (NNew n ps t con ∷ ds) = defined_words ds
defined_words (NFamily n ps k ∷ ds) = defined_words ds
defined_words (NAxiom n ps t u ∷ ds) = defined_words ds
defined_words (NDef n t e ∷ ds) = n ∷ defined_words ds
defined_words (NWrap n t e ∷ ds) = n ∷ defined_words ds

-- the right side of the first definition of a word
abbrev pub right_side : List NDecl → Word → Option NExpr
right_side [] w = None
right_side (NData n ps cs ∷ ds) w = right_side ds w
right_side (NNew n ps t con ∷ ds) w = right_side ds w
right_side (NFamily n ps k ∷ ds) w = right_side ds w
right_side (NAxiom n ps t u ∷ ds) w = right_side ds w
right_side (NDef n t e ∷ ds) w = if bytes_eq n w then Some e else right_side ds w
right_side (NWrap n t e ∷ ds) w = if bytes_eq n w then Some e else right_side ds w

abbrev pub name_in : NModule → Word → Name
name_in (NModuleOf m imports exports hidden ds) w = record { «module» = Some m; text = w }

abbrev pub decls_in : NModule → List NDecl
decls_in (NModuleOf m imports exports hidden ds) = ds

-- REACHING

-- the right side of one definition of a module mentions another
pub record MentionsDefinition (m : NModule) (v w : Word) : Type 0 where
  pub right : NExpr
  pub defined : right_side (decls_in m) v ≡ Some right
  pub mentioned : list_any (same_name (name_in m w)) (names_in right) ≡ true
  pub other : NExpr
  pub other_defined : right_side (decls_in m) w ≡ Some other

-- a definition reaches another by a chain of one or more mentions; itself where the chain is a ring
pub data ReachesDefinition (m : NModule) : Word → Word → Type 0 where
  at_once : (v w : Word) → MentionsDefinition m v w → ReachesDefinition m v w
  through : (u v w : Word) → MentionsDefinition m v u → ReachesDefinition m u w → ReachesDefinition m v w

-- these are the definitions that one reaches, in declared order
pub record AreReached (m : NModule) (v : Word) (ws : List Word) : Type 0 where
  pub is_reached : Word → Bool
  pub reached : (w : Word) → (is_reached w ≡ true) ↔ ReachesDefinition m v w
  pub in_order : ws ≡ filter is_reached (defined_words (decls_in m))
