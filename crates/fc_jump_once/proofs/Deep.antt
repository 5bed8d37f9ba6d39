-- What a jump with too many terms among its arguments becomes is too deep: there is a let for each of them, one inside the other.
use Rattle.std.proofs.Common.{◌≡◌, ◌<◌, ℕ, Bool, true, false, nat_le, if◌then◌else◌, Option, Some, None, Result, Ok, Err, arith}
use Rattle.std.proofs.lemmas.Bool.Decides.{nat_tests}
use Rattle.fc_syntax.specs.Limits.{standard_limits}
use Rattle.fc_syntax.specs.Measures.{expr_depth}
use Rattle.fc_model.specs.Faulting.{F, at_distance}
use Rattle.fc_model.specs.Nameless.{NArgs, NExpr, NJump}
use Rattle.fc_model.specs.Typing.{JoinPoint}
use Rattle.fc_model.specs.Worded.{WExpr, bare_expr}
use Rattle.fc_rows.specs.Shrinking.{jump_made, jump_once, pair_with, term_count}
use Rattle.fc_rows.specs.Surroundings.{Point, NoPoint, PointOf, Surroundings}
use Rattle.fc_lets_for_terms.proofs.Deeper.{behind_lets_deep}
use Rattle.fc_jump_once.specs.Within.{has_few_terms}

if_some : (c : Bool) (o : Option NExpr) (e : NExpr) → (if c then o else None) ≡ Some e → o ≡ Some e
if_some true o e is = is
if_some false o e is = cc

-- whichever join point it is
made_deep : (r : Result JoinPoint F) (k : Point) (args : NArgs) (w : WExpr) → jump_made r k args ≡ Some (bare_expr w) → term_count args < expr_depth w
made_deep (Ok j) NoPoint args w is = cc
made_deep (Ok j) (PointOf ps d) args w is = behind_lets_deep 0 j.type args _ w (if_some (pair_with ps args) _ (bare_expr w) is)
made_deep (Err f) k args w is = cc

more_than : (n : ℕ) → nat_le n 500 ≡ false → 500 < n
more_than n many = grind (arith, nat_tests, many)

pub too_deep : (s : Surroundings) (e : NExpr) (w : WExpr) → has_few_terms e ≡ false → jump_once s e ≡ Some (bare_expr w) → standard_limits.depth < expr_depth w
too_deep s (NJump i args) w many is = omega (arith, more_than (term_count args) many, made_deep (at_distance s.context.joins i) (s.points i) args w is)
too_deep s _ w many is = cc
