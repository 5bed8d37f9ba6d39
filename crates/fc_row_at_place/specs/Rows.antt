-- The rows that code builds.
use Rattle.std.specs.Prelude.{ℕ, Bool, true, false, if◌then◌else◌, [], Option, None}
use Rattle.fc_log.specs.declared.log.Row.{Row}
use Rattle.fc_log.specs.declared.log.Row.TheVariants as row
use Rattle.fc_model.specs.Kinding.{Modules, decls_at}
use Rattle.fc_model.specs.Nameless.{NExpr, NJoin, NoNJoins, MoreNJoins}
use Rattle.fc_model.specs.Calling.{from_some}
use Rattle.fc_case_known.specs.Within.{case_known_within}
use Rattle.fc_jump_once.specs.Within.{jump_once_within}
use Rattle.fc_rows.specs.Changing.{changed}
use Rattle.fc_rows.specs.ChangingCoercions.{as_they_are}
use Rattle.fc_rows.specs.Occurrences.{innermost_joins, occurrences}
use Rattle.fc_rows.specs.Shrinking.{join_dead, jump_place, occurs_once}
use Rattle.fc_row_at_place.specs.declared.asked.Question.{Question}
use Rattle.fc_row_at_place.specs.declared.asked.Question.TheVariants as question
use Rattle.fc_rows.specs.Rewriting.{row_result}
use Rattle.fc_rows.specs.Surroundings.{Surroundings, behind_joins, outside}

-- those that read the expression alone that they replace, neither types nor what is known of variables
abbrev pub is_term_row : Row → Bool
is_term_row row.LetDead = true
is_term_row row.LetAtom = true
is_term_row row.LetOnce = true
is_term_row row.CaseMerge = true
is_term_row row.CastCast = true
is_term_row row.JoinDead = true
is_term_row row.AppOfLet = true
is_term_row row.CaseOfLet = true
is_term_row row.LetOfLet = true
is_term_row row.CastOfLet = true
is_term_row r = false

-- what such a row makes of an expression, where no module is and nothing stands around; of every other row nothing
abbrev pub term_row : Row → NExpr → Option NExpr
term_row r e = if is_term_row r then row_result (decls_at []) r 0 (outside (decls_at [])) e else None

-- these, those that read types, and those that read what is known of what a case looks at
abbrev pub is_built : Row → Bool
is_built row.Beta = true
is_built row.CaseKnown = true
is_built row.CaseEvaluated = true
is_built row.AltDead = true
is_built row.JoinOnce = true
is_built row.FailAbsorb = true
is_built row.CastRefl = true
is_built row.NameField = true
is_built r = is_term_row r

-- a join point with one jump: the jump becomes its right side, where it has few terms, and then the join is dead
abbrev pub join_once_within : Surroundings → NExpr → Option NExpr
join_once_within s (NJoin false t (MoreNJoins j NoNJoins) b) =
    if occurs_once (occurrences (innermost_joins 1) b)
    then from_some (λ p. from_some (λ c. join_dead (NJoin false t (MoreNJoins j NoNJoins) c)) (changed jump_once_within as_they_are (behind_joins false t (MoreNJoins j NoNJoins) s) p b)) (jump_place 0 b)
    else None
join_once_within s e = None

-- what a row makes of an expression in its surroundings, where that may be within the limits on results: a declaration is at most 500 deep, so that more lets are too many
abbrev pub row_within : Modules → Row → ℕ → Surroundings → NExpr → Option NExpr
row_within ms row.CaseKnown i s e = case_known_within ms s e
row_within ms row.JoinOnce i s e = join_once_within s e
row_within ms r i s e = row_result ms r i s e

-- the same of the rows that are built; of every other row nothing
abbrev pub built_row : Modules → Row → ℕ → Surroundings → NExpr → Option NExpr
built_row ms r i s e = if is_built r then row_within ms r i s e else None

-- what is answered to a question
abbrev pub answer : Modules → Question → Surroundings → NExpr → Option NExpr
answer ms (question.Row r i) s e = built_row ms r i s e
answer ms question.Jump s e = jump_once_within s e
