use Rattle.fc_lex.proofs.Names.{undotted}
use Rattle.fc_lex.proofs.word.last_part.Goals as goal

pub returns-after-loop-start-clause-dotted : goal.returns-after-loop-start-clause-dotted
returns-after-loop-start-clause-dotted c = undotted c.args.word.now c.loop-start.start c.loop-start-test.false c.loop-start.invariant.rest
