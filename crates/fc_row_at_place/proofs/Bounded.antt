-- What a row makes, and what it makes where that may be within the limits: the same, unless the first is too deep.
use Rattle.std.proofs.Common.{◌≡◌, ◌<◌, ℕ, Bool, true, false, if◌then◌else◌, List, Option, Some, None, refl, ap, arith}
use Rattle.fc_syntax.specs.Limits.{standard_limits}
use Rattle.fc_log.specs.declared.log.Row.{Row}
use Rattle.fc_log.specs.declared.log.Row.TheVariants as row
use Rattle.fc_model.specs.Calling.{from_some}
use Rattle.fc_model.specs.Kinding.{Modules}
use Rattle.fc_model.specs.Nameless.{NExpr, NJoin, NoNJoins, MoreNJoins}
use Rattle.fc_model.specs.Replacing.{renamed}
use Rattle.fc_rows.specs.Changing.{changed}
use Rattle.fc_rows.specs.ChangingCoercions.{as_they_are}
use Rattle.fc_rows.specs.Occurrences.{innermost_joins, is_dead, occurrences}
use Rattle.fc_rows.specs.Rewriting.{row_result}
use Rattle.fc_rows.specs.Shrinking.{before_joins, case_known, join_once, jump_once, jump_place, occurs_once}
use Rattle.fc_rows.specs.Surroundings.{Surroundings, behind_joins}
use Rattle.fc_result_limits.proofs.Deep.{Agrees, agree_at, alike, by_test, deeper, either, nexpr_depth}
use Rattle.fc_result_limits.proofs.Renamed.{before_joins_depth}
use Rattle.fc_case_known.specs.Within.{has_few_terms}
use Rattle.fc_case_known.proofs.Deep.{too_deep}
use Rattle.fc_jump_once.specs.Within as jump
use Rattle.fc_jump_once.proofs.Deep as jump_deep
use Rattle.fc_row_at_place.specs.Joins.{without_dead_join}
use Rattle.fc_row_at_place.specs.Rows.{join_once_within, row_within}

-- JOINS

tested : (c : Bool) (y : NExpr) (b : Option NExpr) → b ≡ None → standard_limits.depth < nexpr_depth y → Agrees nexpr_depth (if c then Some y else None) b
tested true y b none low = deeper y none low
tested false y b none low = alike none

-- without the join point a body is as deep as with it
without : (o b : Option NExpr) → Agrees nexpr_depth o b → Agrees nexpr_depth (from_some without_dead_join o) (from_some without_dead_join b)
without o b (alike same) = alike (ap (from_some without_dead_join) same)
without _ b (deeper x none low) =
    tested (is_dead (occurrences (innermost_joins 1) x)) (renamed (before_joins 1) x) _ (ap (from_some without_dead_join) none) (omega (arith, low, before_joins_depth 1 x))

jumps_agree : (s : Surroundings) (e : NExpr) → Agrees nexpr_depth (jump_once s e) (jump.jump_once_within s e)
jumps_agree s e = by_test (jump.has_few_terms e) (jump_once s e) (jump_deep.too_deep s e)

at_jump : (s : Surroundings) (b : NExpr) (o : Option (List ℕ))
    → Agrees nexpr_depth (from_some (λ p. from_some without_dead_join (changed jump_once as_they_are s p b)) o) (from_some (λ p. from_some without_dead_join (changed jump.jump_once_within as_they_are s p b)) o)
at_jump s b None = alike refl
at_jump s b (Some p) = without _ _ (agree_at jump_once jump.jump_once_within jumps_agree s p b)

joins_agree : (s : Surroundings) (e : NExpr) → Agrees nexpr_depth (join_once s e) (join_once_within s e)
joins_agree s (NJoin false t (MoreNJoins j NoNJoins) b) =
    either nexpr_depth (occurs_once (occurrences (innermost_joins 1) b)) _ _ _ _ (at_jump (behind_joins false t (MoreNJoins j NoNJoins) s) b (jump_place 0 b)) (alike refl)
joins_agree s e = alike refl

-- ROWS

pub rows_agree : (ms : Modules) (r : Row) (i : ℕ) (s : Surroundings) (e : NExpr) → Agrees nexpr_depth (row_result ms r i s e) (row_within ms r i s e)
rows_agree ms row.CaseKnown i s e = by_test (has_few_terms e) (case_known ms s e) (too_deep ms s e)
rows_agree ms row.JoinOnce i s e = joins_agree s e
rows_agree ms r i s e = alike refl
