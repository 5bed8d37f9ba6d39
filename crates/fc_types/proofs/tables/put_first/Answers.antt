use Rattle.fc_types.proofs.WordKeys.{put_new}
use Rattle.fc_types.proofs.tables.put_first.Goals as goal

pub returns-in_ok-insert : goal.returns-in_ok-insert
returns-in_ok-insert g c =
    put_new c.args.table.now c.insert.new.self (record { «module» = c.as_str.result; word = c.as_str-2.result }) c.args.qualifier.now c.args.word.now c.args.value c.as_str.ensures c.as_str-2.ensures c.if-contains_key.ensures
    c.in_ok-insert.ensures.updates
