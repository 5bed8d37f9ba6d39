use Rattle.fc_types.proofs.WordKeys.{word_new}
use Rattle.fc_types.proofs.tables.add_word.Goals as goal

pub returns : goal.returns
returns c = word_new c.args.words.now c.insert.new.self c.as_str.result c.args.word.now c.as_str.ensures c.in_ok-insert.ensures.updates
