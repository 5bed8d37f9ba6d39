use Rattle.std.proofs.Common.{arith, ap, length}
use Rattle.fc_read_parts.specs.Seen.{seen}
use Rattle.fc_reader.proofs.Levels.{level_deep, level_more}
use Rattle.fc_reader.proofs.nesting.behind_deep_bracket.Goals as goal

pub returns-in_default-level_behind-clause-some : goal.returns-in_default-level_behind-clause-some
returns-in_default-level_behind-clause-some c = level_deep (seen c.in-Some.token) c.in-Some.ensures.some c.in_default-level_behind.ensures.none c.left.ensures c.each.invariant.level

pub each-preserved : goal.each-preserved
each-preserved c = record {
  level = level_more (seen c.in-Some.token) c.in-Some.ensures.some c.in-Some-level_behind.ensures.some c.each.invariant.level;
  bounded = c.in-Some-level_behind.ensures.bounded;
  shorter = omega (arith, ap length c.in-Some.ensures.some, c.each.invariant.shorter);
}
