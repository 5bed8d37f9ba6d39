use Rattle.std.proofs.Common.{◌≡◌, take}
use Rattle.fc_model.specs.Words.{toks}
use Rattle.fc_read_parts.specs.Seen.{seen_all}
use Rattle.fc_read_parts.proofs.terminal.terminals.Given as goal

abbrev pub invariant-loop-token : goal.invariant-loop-token
invariant-loop-token l = seen_all l.all ≡ toks l.bytes (take l.token-index l.tokens)
