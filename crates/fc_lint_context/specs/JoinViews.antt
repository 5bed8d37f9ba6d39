-- What the join points in tail reach mean.
use Rattle.std.specs.Prelude.{ℕ, List, [], ◌∷◌, ◌++◌, map, reverse, All, Option, Some, Result, Ok, Err}
use Rattle.fc_syntax.specs.Tree.{Kind}
use Rattle.fc_model.specs.Faulting.{at_distance}
use Rattle.fc_model.specs.Nameless.{NTy, NJoins, NoNJoins, MoreNJoins, NJoined}
use Rattle.fc_model.specs.Typing.{JoinPoint, answered, join_point}
use Rattle.fc_type_table.specs.Scopes.{IsTypeAt, shown_at}
use Rattle.fc_type_table.specs.declared.node.Node.{Node}
use Rattle.fc_lint_context.specs.declared.joins.JoinPoint as code
use Rattle.fc_lint_context.specs.declared.joins.Joins.{Joins, End, Group'}

-- join points that stand together before those around them, the last one the innermost
abbrev pub joins_behind : List code.JoinPoint → List code.JoinPoint → List code.JoinPoint
joins_behind js outer = reverse js ++ outer

-- the join point that is found among some, or the distance that is left outside of them
abbrev pub join_among : Result code.JoinPoint ℕ → List code.JoinPoint → Option code.JoinPoint
join_among (Ok j) outer = Some j
join_among (Err left) outer = answered (at_distance outer left)

-- the join points, the innermost first
abbrev pub points_of : Joins → List code.JoinPoint
points_of End = []
points_of (Group' js p rest) = joins_behind js.now (points_of rest)

-- the numbers of a join point's types are numbers of types where type variables of these kinds are in scope
pub record IsJoinAt (ns : List Node) (ks : List Kind) (j : code.JoinPoint) : Type 0 where
  pub ty : IsTypeAt ns ks j.ty.0
  pub answer : IsTypeAt ns ks j.answer.0

pub record AreJoinsAt (ns : List Node) (ks : List Kind) (js : List code.JoinPoint) : Type 0 where
  pub each : All (λ j. IsJoinAt ns ks j) js

-- a join point with the types of its numbers there
abbrev pub shown_join : List Node → List Kind → code.JoinPoint → JoinPoint
shown_join ns ks j = record { arity = j.arity; type = shown_at ns ks j.ty.0; result = shown_at ns ks j.answer.0 }

unfoldable pub shown_joins_at : List Node → List Kind → List code.JoinPoint → List JoinPoint
shown_joins_at ns ks js = map (λ j. shown_join ns ks j) js

-- the join points of a join of type t, in their order
abbrev pub join_points : NTy → NJoins → List JoinPoint
join_points t NoNJoins = []
join_points t (MoreNJoins (NJoined ps e) rest) = join_point t ps ∷ join_points t rest
