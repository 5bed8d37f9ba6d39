use Rattle.fc_definition_places.proofs.WordKeys.{put_new}
use Rattle.fc_definition_places.proofs.building.put_first.Goals as goal

pub returns-in_ok-insert : goal.returns-in_ok-insert
returns-in_ok-insert c =
    put_new c.args.table.now c.insert.new.self (record { «module» = c.as_str.result; word = c.as_str-2.result }) c.args.qualifier.now c.args.word.now c.args.place c.as_str.ensures c.as_str-2.ensures c.if-contains_key.ensures
    c.in_ok-insert.ensures.updates
