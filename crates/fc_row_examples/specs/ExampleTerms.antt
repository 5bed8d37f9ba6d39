-- The module and the short forms of the examples.
use Rattle.std.specs.Prelude.{ℕ, ℤ, Bool, true, List, [], ◌∷◌, Option, Some, codes}
use Rattle.fc_syntax.specs.declared.expr.Head.TheVariants as head
use Rattle.fc_syntax.specs.declared.ty.Name.{Name}
use Rattle.fc_syntax.specs.declared.ty.Role.TheVariants.{R}
use Rattle.fc_syntax.specs.Tree.{Word, KStar}
use Rattle.fc_log.specs.declared.log.Row.{Row}
use Rattle.fc_model.specs.Calling.{from_some}
use Rattle.fc_model.specs.Kinding.{Modules, decls_at}
use Rattle.fc_model.specs.Nameless.{NTy, NTVar, NTCon, NTFun, NCo, NGAx, NoNCos, NBinder, NBValue, NBType, NBCo, NConOf, NData, NNew, NDef, NDecl, NModule, NModuleOf}
use Rattle.fc_model.specs.Nameless.{NExpr, NLocal, NVar, NApp, NLam, NLet, NCase, NCon, NJoin, NJump, NATerm, NBound, NJoined, NBranch}
use Rattle.fc_model.specs.Nameless.{NArgs, NoNArgs, MoreNArgs, NoNBinds, MoreNBinds, NoNJoins, MoreNJoins, NAlts, MoreNAlts}
use Rattle.fc_rows.specs.Changing.{changed}
use Rattle.fc_rows.specs.ChangingCoercions.{as_they_are}
use Rattle.fc_rows.specs.Rewriting.{looked_at, row_result}
use Rattle.fc_rows.specs.Surroundings.{outside}

abbrev pub named : Word → Name
named w = record { «module» = Some (codes "M"); text = w }

-- TYPES AND VALUES

-- leaves and nodes of two trees; and ages, which are trees
abbrev pub tree : NTy
tree = NTCon (named (codes "Tree"))

abbrev pub age : NTy
age = NTCon (named (codes "Age"))

-- the age is the tree
abbrev pub as_tree : NCo
as_tree = NGAx (named (codes "IsTree")) NoNCos

abbrev pub two : NExpr → NExpr → NArgs
two a b = MoreNArgs (NATerm a) (MoreNArgs (NATerm b) NoNArgs)

abbrev pub leaf : NExpr
leaf = NCon (named (codes "Leaf")) NoNArgs

abbrev pub node : NExpr → NExpr → NExpr
node a b = NCon (named (codes "Node")) (two a b)

abbrev pub call : NExpr → NExpr → NExpr
call f a = NApp f (NATerm a)

abbrev pub lambda : NExpr → NExpr
lambda e = NLam (NBValue tree) e

-- a recursive let of one binder, and of two
abbrev pub let_rec : NExpr → NExpr → NExpr
let_rec a b = NLet true (MoreNBinds (NBound tree a) NoNBinds) b

abbrev pub let_both : NExpr → NExpr → NExpr → NExpr
let_both a b e = NLet true (MoreNBinds (NBound tree a) (MoreNBinds (NBound tree b) NoNBinds)) e

-- CASES AND JOINS

abbrev pub case_of : NExpr → NAlts → NExpr
case_of e alts = NCase e tree tree alts

abbrev pub on_default : NExpr → NAlts → NAlts
on_default e rest = MoreNAlts (NBranch head.Default [] e) rest

abbrev pub on_literal : ℤ → NExpr → NAlts → NAlts
on_literal n e rest = MoreNAlts (NBranch (head.Lit n) [] e) rest

abbrev pub on_leaf : NExpr → NAlts → NAlts
on_leaf e rest = MoreNAlts (NBranch (head.Con (named (codes "Leaf"))) [] e) rest

-- behind the two trees of the node
abbrev pub on_node : NExpr → NAlts → NAlts
on_node e rest = MoreNAlts (NBranch (head.Con (named (codes "Node"))) (NBValue tree ∷ NBValue tree ∷ []) e) rest

-- a join of one point, recursive or not
abbrev pub join_of : Bool → List NBinder → NExpr → NExpr → NExpr
join_of r ps d e = NJoin r tree (MoreNJoins (NJoined ps d) NoNJoins) e

abbrev pub jump : NArgs → NExpr
jump args = NJump 0 args

-- THE MODULE

-- `Any` holds a value of whatever type, and `Aged` a proof that ages are trees
abbrev pub declared : List NDecl
declared = NData (codes "Tree") [] (NConOf (codes "Leaf") [] [] ∷ NConOf (codes "Node") [] (tree ∷ tree ∷ []) ∷ [])
    ∷ NNew (codes "Age") [] tree (codes "IsTree")
    ∷ NData (codes "Any") [] (NConOf (codes "Any") (NBType KStar ∷ []) (NTVar 0 ∷ []) ∷ [])
    ∷ NData (codes "Proof") [] (NConOf (codes "Aged") (NBCo R age tree ∷ []) [] ∷ [])
    ∷ NDef (codes "small") tree leaf
    ∷ NDef (codes "same") (NTFun tree tree) (lambda (NLocal 0))
    ∷ []

abbrev pub small : NExpr
small = NVar (named (codes "small"))

abbrev pub same : NExpr
same = NVar (named (codes "same"))

-- the module with one definition more
abbrev pub holding : NExpr → NModule
holding e = NModuleOf (codes "M") [] [] [] (NDef (codes "whole") tree e ∷ declared)

abbrev pub among : Modules
among = decls_at (NModuleOf (codes "M") [] [] [] declared ∷ [])

-- what a row makes of an expression outside of all binders, and of its part at a place
abbrev pub made_by : Row → NExpr → Option NExpr
made_by r e = row_result among r 0 (outside among) e

abbrev pub made_at : Row → List ℕ → NExpr → Option NExpr
made_at r p e = from_some (λ q. changed (row_result among r q.1) as_they_are (outside among) q.0 e) (looked_at r p)
