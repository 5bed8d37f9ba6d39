use Rattle.std.proofs.Common.{length, ◌-◌, ◌≡◌, ◌+◌, ◌≤◌, drop}
use Rattle.std.specs.List.{prefix_len}
use Rattle.fc_syntax.specs.Tokens.{is_name_byte}
use Rattle.fc_lex.proofs.word.name_bytes_end.Given as goal

abbrev pub invariant-loop-end : goal.invariant-loop-end
invariant-loop-end l =
    (l.end ≤ length l.bytes) × (l.at + prefix_len is_name_byte (drop l.at l.bytes) ≡ l.end + prefix_len is_name_byte (drop l.end l.bytes))

abbrev pub decreases-loop-end : goal.decreases-loop-end
decreases-loop-end l = length l.bytes - l.end
