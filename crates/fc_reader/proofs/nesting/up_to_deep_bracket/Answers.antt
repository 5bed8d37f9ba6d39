use Rattle.fc_reader.proofs.Ends.{deep_terminals}
use Rattle.fc_reader.proofs.nesting.up_to_deep_bracket.Goals as goal

pub returns-in-Some : goal.returns-in-Some
returns-in-Some c = deep_terminals c.args.tokens.now c.in-Some.behind c.in-Some.ensures.some c.in-Some.ensures.inside
