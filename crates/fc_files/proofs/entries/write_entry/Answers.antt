use Rattle.std.proofs.Common.{rules, sym, ap, ◌∙◌, ◌≡◌, Some, None, position, ◌++◌, [], ◌∷◌}
use Rattle.fc_files.specs.Entries.{Entry, map_of, is_named}
use Rattle.fc_files.proofs.EntryLemmas.{map_of-push, map_of-set}
use Rattle.fc_files.proofs.entries.write_entry.Goals as goal

pub returns-in-Some-clause-writes : goal.returns-in-Some-clause-writes
returns-in-Some-clause-writes c =
    let at : position (is_named c.args.name.now) c.args.entries.now.items ≡ Some c.in-Some.place = rw (← c.deref.ensures.value) (sym c.in-Some.ensures) in
    map_of-set c.args.entries.now.items c.args.name.now c.args.bytes.now c.in-Some.place c.index_mut.result.now _ at
    (ap (λ (e : Entry). e.0) c.index_mut.ensures.value) (search rules)

pub returns-else-is_err-clause-writes : goal.returns-else-is_err-clause-writes
returns-else-is_err-clause-writes c =
    let at : position (is_named c.args.name.now) c.args.entries.now.items ≡ None = rw (← c.deref.ensures.value) (sym c.in-None.ensures) in
    let more : c.push.new.self.items ≡ c.args.entries.now.items ++ (c.in-Ok-from_str.key, c.in-Ok.copy) ∷ [] = search rules in
    ap map_of more ∙ map_of-push c.args.entries.now.items c.args.name.now c.args.bytes.now _ at (search rules) (search rules)
