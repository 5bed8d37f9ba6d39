use Rattle.std.proofs.Common.{◌≡◌, ◌+◌, ◌≤◌, length, take}
use Rattle.std.specs.Prelude.{not}
use Rattle.std.specs.List.{suffix_len}
use Rattle.fc_syntax.specs.Tokens.{is_dot}
use Rattle.fc_lex.proofs.word.last_part.Given as goal

abbrev pub invariant-loop-start : goal.invariant-loop-start
invariant-loop-start l = record {
  within : l.start ≤ length l.word;
  rest : l.start + suffix_len (λ b. not (is_dot b)) l.word ≡ length l.word + suffix_len (λ b. not (is_dot b)) (take l.start l.word);
}

abbrev pub decreases-loop-start : goal.decreases-loop-start
decreases-loop-start l = l.start
