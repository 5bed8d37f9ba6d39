-- The terms among the arguments of what is of a type, with the types that are asked of them, and the lets for them.
use Rattle.std.specs.Prelude.{◌≡◌, ℕ, suc, List, [], ◌∷◌, map, All, Option, Some, None, IfSome}
use Rattle.fc_syntax.specs.Tree.{Kind}
use Rattle.fc_model.specs.Calling.{at_type, coercion_asked, from_some, function_ends}
use Rattle.fc_model.specs.Nameless.{NTy, NExpr, NArg, NATerm, NAType, NACo, NArgs, NoNArgs, MoreNArgs}
use Rattle.fc_model.specs.NamelessView.{nexpr_of}
use Rattle.fc_model.specs.Replacing.{renamed}
use Rattle.fc_rows.specs.Changing.{made}
use Rattle.fc_rows.specs.Shrinking.{let_of}
use Rattle.fc_rows.specs.Surroundings.{past_values}
use Rattle.fc_type_table.specs.Scopes.{IsTypeAt, shown_at}
use Rattle.fc_type_table.specs.TypeTables.{nodes_of}
use Rattle.fc_type_table.specs.declared.node.Node.{Node}
use Rattle.fc_type_table.specs.declared.node.TypeId.{TypeId}
use Rattle.fc_type_table.specs.declared.table.TypeTable.{TypeTable}
use Rattle.fc_lets_for_terms.specs.declared.asking.AskedTerm.{AskedTerm}
use Rattle.fc_lets_for_terms.specs.declared.asking.Step.{Step}

-- LETS FOR TERMS

-- the terms among the arguments of what is of type t, each behind the type that is asked of it, where the arguments are of the sorts that are asked
abbrev pub asked_terms : NTy → NArgs → Option (List (NTy × NExpr))
asked_terms t NoNArgs = Some []
asked_terms t (MoreNArgs (NATerm a) rest) = from_some (λ e. made (λ more. (e.0, a) ∷ more) (asked_terms e.1 rest)) (function_ends t)
asked_terms t (MoreNArgs (NAType u) rest) = from_some (λ v. asked_terms v rest) (at_type t u)
asked_terms t (MoreNArgs (NACo g) rest) = from_some (λ p. asked_terms p.3 rest) (coercion_asked t)

-- a body behind a let for each term; i such lets stand around already
abbrev pub lets_around : ℕ → List (NTy × NExpr) → NExpr → NExpr
lets_around i [] b = b
lets_around i (p ∷ ps) b = let_of p.0 (renamed (past_values i) p.1) (lets_around (suc i) ps b)

-- TERMS IN A TABLE

-- the term behind the type of its number
abbrev pub asked_at : List Node → List Kind → AskedTerm → NTy × NExpr
asked_at ns ks a = (shown_at ns ks a.ty.0, nexpr_of a.term.now)

abbrev pub IsAskedAt : List Node → List Kind → AskedTerm → Type 0
IsAskedAt ns ks a = IsTypeAt ns ks a.ty.0

-- each has the number of a type
pub record AreAskedAt (ns : List Node) (ks : List Kind) (found : List AskedTerm) : Type 0 where
  pub each : All (λ a. IsAskedAt ns ks a) found

unfoldable pub asked_all_at : List Node → List Kind → List AskedTerm → List (NTy × NExpr)
asked_all_at ns ks found = map (λ a. asked_at ns ks a) found

abbrev pub AreAsked : TypeTable → List Kind → List AskedTerm → Type 0
AreAsked table ks found = AreAskedAt (nodes_of table) ks found

abbrev pub asked_all : TypeTable → List Kind → List AskedTerm → List (NTy × NExpr)
asked_all table ks found = asked_all_at (nodes_of table) ks found

-- ONE ARGUMENT

-- its numbers are those of types
pub record IsStep (ns : List Node) (ks : List Kind) (s : Step) : Type 0 where
  pub whole : IsTypeAt ns ks s.whole.0
  pub asked : IfSome s.asked (λ a. IsAskedAt ns ks a)

-- the term of an argument, if it is one, before those behind it
abbrev pub before_others : List Node → List Kind → Option AskedTerm → Option (List (NTy × NExpr)) → Option (List (NTy × NExpr))
before_others ns ks None o = o
before_others ns ks (Some a) o = made (λ more. asked_at ns ks a ∷ more) o

unfoldable pub asked_behind : List Node → List Kind → Option Step → NArgs → Option (List (NTy × NExpr))
asked_behind ns ks None rest = None
asked_behind ns ks (Some s) rest = before_others ns ks s.asked (asked_terms (shown_at ns ks s.whole.0) rest)

-- what is of a type of old takes an argument, and is then what it is of new, whatever is still to come
pub record Asks (old new : List Node) (ks : List Kind) (whole : TypeId) (argument : NArg) (step : Option Step) : Type 0 where
  pub view : (rest : NArgs) → asked_terms (shown_at old ks whole.0) (MoreNArgs argument rest) ≡ asked_behind new ks step rest
