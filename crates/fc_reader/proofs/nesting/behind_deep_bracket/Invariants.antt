use Rattle.std.proofs.Common.{◌≤◌, length}
use Rattle.fc_syntax.specs.Limits.{standard_limits}
use Rattle.fc_read_parts.specs.Seen.{ahead, seen_all}
use Rattle.fc_reader.proofs.Levels.{LevelAt}
use Rattle.fc_reader.proofs.nesting.behind_deep_bracket.Given as goal

abbrev pub decreases-each : goal.decreases-each
decreases-each l = length (ahead l.rest)

abbrev pub invariant-each : goal.invariant-each
invariant-each l = record {
  level : LevelAt (seen_all l.fn.tokens) (ahead l.rest) l.level;
  bounded : l.level ≤ standard_limits.brackets;
  shorter : length (ahead l.rest) ≤ length (seen_all l.fn.tokens);
}
