-- What a case of a row says, and the short forms of terms.
use Rattle.std.specs.Prelude.{◌≡◌, ℕ, ℤ, true, false, List, [], Some, None, codes}
use Rattle.fc_syntax.specs.declared.expr.Head.TheVariants as head
use Rattle.fc_syntax.specs.declared.expr.PrimOp.{PrimOp}
use Rattle.fc_syntax.specs.declared.ty.Name.{Name}
use Rattle.fc_syntax.specs.Tree.{Word}
use Rattle.fc_log.specs.declared.log.Row.{Row}
use Rattle.fc_model.specs.Nameless.{NApp, NLet, NPrim, NJoin, NATerm, NAType, NACo, NBound, NJoined, NBranch}
use Rattle.fc_model.specs.Nameless.{NoNExprs, MoreNExprs, NoNArgs, MoreNArgs, MoreNBinds, NoNJoins, MoreNJoins, MoreNAlts}
use Rattle.fc_model.specs.Nameless.{NTy, NCo, NBinder, NExpr, NArgs, NBinds, NJoins, NAlts, NModule}
use Rattle.fc_rows.specs.Rewriting.{rewritten}

-- At a place of the definition `f` of a module, the row makes one right side of another, or there is nothing that it makes. The modules of imports come
-- first, as they are told, and the module with its right side.
abbrev pub makes : List NModule → Row → List ℕ → (NExpr → NModule) → NExpr → NExpr → Type 0
makes xs r p m e f = rewritten xs r (codes "f") p (m e) ≡ Some (m f)

abbrev pub makes_nothing : List NModule → Row → List ℕ → (NExpr → NModule) → NExpr → Type 0
makes_nothing xs r p m e = rewritten xs r (codes "f") p (m e) ≡ None

-- TERMS

abbrev pub name_in : Word → Word → Name
name_in m w = record { «module» = Some m; text = w }

abbrev pub call : NExpr → NExpr → NExpr
call f a = NApp f (NATerm a)

abbrev pub at : NExpr → NTy → NExpr
at f t = NApp f (NAType t)

abbrev pub by : NExpr → NCo → NExpr
by f g = NApp f (NACo g)

abbrev pub none : NArgs
none = NoNArgs

abbrev pub given : NExpr → NArgs → NArgs
given e rest = MoreNArgs (NATerm e) rest

abbrev pub given_type : NTy → NArgs → NArgs
given_type t rest = MoreNArgs (NAType t) rest

abbrev pub given_coercion : NCo → NArgs → NArgs
given_coercion g rest = MoreNArgs (NACo g) rest

abbrev pub bind : NTy → NExpr → NBinds → NBinds
bind t e rest = MoreNBinds (NBound t e) rest

abbrev pub let_all : NBinds → NExpr → NExpr
let_all bs e = NLet true bs e

abbrev pub prim : PrimOp → NExpr → NExpr → NExpr
prim o a b = NPrim o (MoreNExprs a (MoreNExprs b NoNExprs))

abbrev pub otherwise : NExpr → NAlts → NAlts
otherwise e rest = MoreNAlts (NBranch head.Default [] e) rest

abbrev pub on_literal : ℤ → NExpr → NAlts → NAlts
on_literal n e rest = MoreNAlts (NBranch (head.Lit n) [] e) rest

abbrev pub on_constructor : Name → List NBinder → NExpr → NAlts → NAlts
on_constructor n bs e rest = MoreNAlts (NBranch (head.Con n) bs e) rest

abbrev pub point : List NBinder → NExpr → NJoins → NJoins
point ps e rest = MoreNJoins (NJoined ps e) rest

abbrev pub join_of : NTy → List NBinder → NExpr → NExpr → NExpr
join_of t ps d e = NJoin false t (point ps d NoNJoins) e

abbrev pub join_all : NTy → NJoins → NExpr → NExpr
join_all t js e = NJoin true t js e
