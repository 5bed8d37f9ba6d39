use Rattle.std.proofs.Common.{sym}
use Rattle.fc_read_parts.proofs.Names.{keyword_tok}
use Rattle.fc_read_parts.proofs.terminal.terminal_of_word.Goals as goal

pub returns-in-Some : goal.returns-in-Some
returns-in-Some c = sym (keyword_tok c.args.word.now c.in-Some.key (sym c.in-Some.ensures))
