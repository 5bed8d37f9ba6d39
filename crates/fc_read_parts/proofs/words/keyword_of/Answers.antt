use Rattle.std.proofs.Common.{◌∙◌, arith}
use Rattle.fc_read_parts.proofs.Lengths.{found_among, found_nowhere}
use Rattle.fc_read_parts.proofs.words.keyword_of.Goals as goal

pub returns-in-2 : goal.returns-in-2
returns-in-2 c = c.of_two.ensures ∙ found_among c.args.word.now 2 (omega arith)

pub returns-in-3 : goal.returns-in-3
returns-in-3 c = c.of_three.ensures ∙ found_among c.args.word.now 3 (omega arith)

pub returns-in-4 : goal.returns-in-4
returns-in-4 c = c.of_four.ensures ∙ found_among c.args.word.now 4 (omega arith)

pub returns-in-5 : goal.returns-in-5
returns-in-5 c = c.of_five.ensures ∙ found_among c.args.word.now 5 (omega arith)

pub returns-in-6 : goal.returns-in-6
returns-in-6 c = c.of_six.ensures ∙ found_among c.args.word.now 6 (omega arith)

pub returns-in-7 : goal.returns-in-7
returns-in-7 c = c.of_seven.ensures ∙ found_among c.args.word.now 7 (omega arith)

pub returns-in-8 : goal.returns-in-8
returns-in-8 c = c.of_eight.ensures ∙ found_among c.args.word.now 8 (omega arith)

pub returns-in_default : goal.returns-in_default
returns-in_default c =
    found_nowhere c.args.word.now (omega arith) (omega arith) (omega arith) (omega arith) (omega arith) (omega arith) (omega arith)
