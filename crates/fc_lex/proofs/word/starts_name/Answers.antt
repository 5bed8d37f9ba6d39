-- The table is held against the definition at each of the 256 bytes, by computing.
use Rattle.std.proofs.Common.{get_or, nat_eq, refl, arith}
use Rattle.std.proofs.lemmas.Bool.{agree_below_at}
use Rattle.fc_syntax.specs.Tokens.{starts_names}
use Rattle.fc_lex.specs.declared.word.TheConstants.{IN_NAMES}
use Rattle.fc_lex.proofs.word.starts_name.Goals as goal

pub returns : goal.returns
returns c = agree_below_at (λ k. nat_eq (get_or IN_NAMES k 0) 115) starts_names 256 c.args.byte refl (omega arith)
