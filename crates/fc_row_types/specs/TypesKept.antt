-- What keeps types: surroundings that are as they say, rows, and a change of a part.
use Rattle.std.specs.Prelude.{◌≡◌, ℕ, true, false, List, Option, Some, Ok}
use Rattle.fc_syntax.specs.declared.ty.Name.{Name}
use Rattle.fc_syntax.specs.declared.ty.Role.{Role}
use Rattle.fc_syntax.specs.Tree.{Kind}
use Rattle.fc_model.specs.Calling.{type_count}
use Rattle.fc_model.specs.Coercing.{Ends}
use Rattle.fc_model.specs.CoercingRules.{Proves}
use Rattle.fc_model.specs.CoercionLaws.{AreEndsKinded}
use Rattle.fc_model.specs.Faulting.{at_distance}
use Rattle.fc_model.specs.Kinding.{Modules, is_lifted}
use Rattle.fc_model.specs.Nameless.{NCo, NTy, NBinder, NExpr, NoNArgs}
use Rattle.fc_model.specs.Substituting.{raised_type}
use Rattle.fc_model.specs.Typing.{Context, JoinPoint, is_atom, join_point, value_type, with_binders, without_joins}
use Rattle.fc_model.specs.TypingLaws.{AreDeclaredKinded, IsContextKinded}
use Rattle.fc_model.specs.TypingRules.{BindersAreKinded, HasType}
use Rattle.fc_rows.specs.Changing.{changed}
use Rattle.fc_rows.specs.ChangingCoercions.{changed_coercion}
use Rattle.fc_rows.specs.Surroundings.{Is, PointOf, Surroundings}

-- SURROUNDINGS

-- these are the parameters and the right side of a join point
pub record IsPoint (ms : Modules) (c : Context) (ps : List NBinder) (e : NExpr) (j : JoinPoint) : Type 0 where
  pub point : j ≡ join_point j.result ps
  pub params : BindersAreKinded ms true c.kinds ps
  pub right : HasType ms (with_binders ps c) e (raised_type (type_count ps) j.result)

-- Types in scope have the kinds of values, type variables kinds without `#`, and what is known of a variable, its right side or a join point is of
-- its type.
pub record Holds (ms : Modules) (s : Surroundings) : Type 0 where
  pub kinded : IsContextKinded ms s.context
  pub lifted : (i : ℕ) (k : Kind) → at_distance s.context.kinds i ≡ Ok k → is_lifted k ≡ true
  pub locals : (i : ℕ) (e : NExpr) (t : NTy) → s.locals i ≡ Is e → at_distance s.context.values i ≡ Ok t → HasType ms (without_joins s.context) e t
  pub rights : (i : ℕ) (e : NExpr) (t : NTy) → s.rights i ≡ Is e → at_distance s.context.values i ≡ Ok t → HasType ms (without_joins s.context) e t
  pub names : (n : Name) (e : NExpr) (t : NTy) → s.names n ≡ Is e → value_type ms n ≡ Ok t → HasType ms (without_joins s.context) e t
  pub points : (i : ℕ) (ps : List NBinder) (e : NExpr) (j : JoinPoint) → s.points i ≡ PointOf ps e → at_distance s.context.joins i ≡ Ok j → IsPoint ms s.context ps e j

-- ROWS

-- what replaces an expression in its surroundings, and what replaces a coercion among kinds and ends, where something does
abbrev pub ExpressionRow : Type 0
ExpressionRow = Surroundings → NExpr → Option NExpr

abbrev pub CoercionRow : Type 0
CoercionRow = List Kind → List Ends → NCo → Option NCo

-- a row keeps the type of what it replaces, where the surroundings are as they say
abbrev pub KeepsTypes : Modules → ExpressionRow → Type 0
KeepsTypes ms row = (s : Surroundings) → Holds ms s → (e f : NExpr) → row s e ≡ Some f → (t : NTy) → HasType ms s.context e t → HasType ms s.context f t

-- what is an atom stays one, but where it is applied
abbrev pub KeepsAtoms : ExpressionRow → Type 0
KeepsAtoms row = (s : Surroundings) (e f : NExpr) → s.arguments ≡ NoNArgs → row s e ≡ Some f → is_atom e ≡ true → is_atom f ≡ true

-- no row stands at an atom
abbrev pub SparesAtoms : ExpressionRow → Type 0
SparesAtoms row = (s : Surroundings) (e f : NExpr) → row s e ≡ Some f → is_atom e ≡ false

-- a row keeps what the coercion that it replaces proves, where what coercion variables prove has ends of one kind
abbrev pub KeepsProofs : Modules → CoercionRow → Type 0
KeepsProofs ms row = (ks : List Kind) (cs : List Ends) → AreEndsKinded ms ks cs → (g h : NCo) → row ks cs g ≡ Some h → (r : Role) (s t : NTy) → Proves ms ks cs g r s t → Proves ms ks cs h r s t

-- LAWS

-- so it keeps the type of whatever the part stands in
abbrev pub ChangesKeepTypes : Type 0
ChangesKeepTypes = (ms : Modules) → AreDeclaredKinded ms → (row : ExpressionRow) → KeepsTypes ms row → KeepsAtoms row → (co : CoercionRow) → KeepsProofs ms co → (p : List ℕ)
    → KeepsTypes ms (λ s e. changed row co s p e)

-- so it keeps what the whole proves
abbrev pub ChangesKeepProofs : Type 0
ChangesKeepProofs = (ms : Modules) (row : CoercionRow) → KeepsProofs ms row → (p : List ℕ) → KeepsProofs ms (λ ks cs g. changed_coercion row ks cs p g)
