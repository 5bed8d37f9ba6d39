-- The rows that each call takes steps of.
use Rattle.std.specs.Prelude.{Bool, true, false, not, ◌&&◌}
use Rattle.fc_log.specs.declared.log.Row.{Row}
use Rattle.fc_log.specs.declared.log.Row.TheVariants as row
use Rattle.fc_rows.specs.NormalForms.{is_shrinking_or_commuting}

-- those that move a let, or a field, to where a row that shrinks may meet it
abbrev pub commutes : Row → Bool
commutes row.AppOfLet = true
commutes row.CaseOfLet = true
commutes row.LetOfLet = true
commutes row.CastOfLet = true
commutes row.NameField = true
commutes r = false

-- the others that simplifying takes, which make a module smaller
abbrev pub shrinks : Row → Bool
shrinks r = is_shrinking_or_commuting r && not (commutes r)
