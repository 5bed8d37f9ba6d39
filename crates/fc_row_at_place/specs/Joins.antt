-- Join points with one jump.
use Rattle.std.specs.Prelude.{false, if◌then◌else◌, Option, Some, None}
use Rattle.fc_model.specs.Calling.{from_some}
use Rattle.fc_model.specs.Nameless.{NTy, NExpr, NJoins}
use Rattle.fc_model.specs.Replacing.{renamed}
use Rattle.fc_jump_once.specs.Within.{jump_once_within}
use Rattle.fc_rows.specs.Changing.{changed}
use Rattle.fc_rows.specs.ChangingCoercions.{as_they_are}
use Rattle.fc_rows.specs.Occurrences.{innermost_joins, is_dead, occurrences}
use Rattle.fc_rows.specs.Shrinking.{before_joins, jump_place}
use Rattle.fc_rows.specs.Surroundings.{Surroundings, behind_joins}

-- a body behind one join point to which it does not jump, as it is alone
abbrev pub without_dead_join : NExpr → Option NExpr
without_dead_join c = if is_dead (occurrences (innermost_joins 1) c) then Some (renamed (before_joins 1) c) else None

-- the body of a join with its first jump taken, and then without the join point
abbrev pub with_one_jump : NTy → NJoins → NExpr → Surroundings → Option NExpr
with_one_jump t js b s = from_some (λ p. from_some without_dead_join (changed jump_once_within as_they_are (behind_joins false t js s) p b)) (jump_place 0 b)
