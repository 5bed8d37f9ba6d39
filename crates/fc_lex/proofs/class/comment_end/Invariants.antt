use Rattle.std.proofs.Common.{length, ◌-◌, ◌≡◌, ◌≤◌, drop}
use Rattle.fc_syntax.specs.Tokens.{lexed, InComment}
use Rattle.fc_lex.proofs.class.comment_end.Given as goal

abbrev pub invariant-loop-end : goal.invariant-loop-end
invariant-loop-end l = record {
  forward : l.at ≤ l.end;
  within : l.end ≤ length l.bytes;
  same : lexed InComment l.at (drop l.at l.bytes) ≡ lexed InComment l.end (drop l.end l.bytes);
}

abbrev pub decreases-loop-end : goal.decreases-loop-end
decreases-loop-end l = length l.bytes - l.end
