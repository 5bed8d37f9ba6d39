use Rattle.fc_reaching.proofs.Numbered.{put_new}
use Rattle.fc_reaching.proofs.definitions.put_first.Goals as goal

pub returns-in_ok-insert : goal.returns-in_ok-insert
returns-in_ok-insert c =
    put_new c.args.numbers.now c.insert.new.self c.as_str-key.result c.args.word.now c.args.number c.as_str-key.ensures c.if-contains_key.ensures c.in_ok-insert.ensures.updates
