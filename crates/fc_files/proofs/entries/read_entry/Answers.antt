use Rattle.std.proofs.Common.{rules, sym, ap, ◌∙◌, Some}
use Rattle.fc_files.proofs.EntryLemmas.{map_of-absent, map_of-found}
use Rattle.fc_files.proofs.entries.read_entry.Goals as goal

pub returns-in-None-clause-reads : goal.returns-in-None-clause-reads
returns-in-None-clause-reads c = map_of-absent c.args.entries.now c.args.name.now (sym c.in-None.ensures)

pub returns-then-bytes-most-clause-reads : goal.returns-then-bytes-most-clause-reads
returns-then-bytes-most-clause-reads c =
    rw (map_of-found c.args.entries.now c.args.name.now c.in-Some.place c.index-entries-place.result (sym c.in-Some.ensures), ← c.as_slice-bytes.ensures.value) c.if-bytes-most.true

pub returns-in-Ok-clause-reads : goal.returns-in-Ok-clause-reads
returns-in-Ok-clause-reads c =
    map_of-found c.args.entries.now c.args.name.now c.in-Some.place c.index-entries-place.result (sym c.in-Some.ensures) ∙ ap Some (search rules)
