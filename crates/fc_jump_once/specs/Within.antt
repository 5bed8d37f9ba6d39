-- What is made of a jump that has no more terms among its arguments than a declaration may be deep, and whose join point it is that is known.
use Rattle.std.specs.Prelude.{◌≡◌, ⊤, Bool, true, nat_le, if◌then◌else◌, Option, None}
use Rattle.fc_model.specs.Nameless.{NArgs, NExpr, NJump}
use Rattle.fc_rows.specs.Shrinking.{jump_once, term_count}
use Rattle.fc_rows.specs.Surroundings.{Surroundings}
use Rattle.fc_known.specs.ToldOfPoints.{point_told}
use Rattle.fc_known.specs.declared.points.KnownPoint.{KnownPoint}

-- whether arguments are at most 500 terms
abbrev pub are_few_terms : NArgs → Bool
are_few_terms args = nat_le (term_count args) 500

-- whether a jump has no more terms among its arguments than a declaration may be deep
abbrev pub has_few_terms : NExpr → Bool
has_few_terms (NJump i args) = are_few_terms args
has_few_terms e = true

-- what a jump becomes where that is so
abbrev pub jump_once_within : Surroundings → NExpr → Option NExpr
jump_once_within s e = if has_few_terms e then jump_once s e else None

-- what is known of a join point is that of the one to which an expression jumps
abbrev pub IsPointOf : KnownPoint → Surroundings → NExpr → Type 0
IsPointOf p s (NJump i args) = point_told p ≡ s.points i
IsPointOf p s e = ⊤
