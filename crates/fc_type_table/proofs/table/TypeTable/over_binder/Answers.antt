use Rattle.fc_type_table.specs.InScope.{numbered_of}
use Rattle.fc_type_table.specs.TypeTables.{nodes_of}
use Rattle.fc_type_table.proofs.KindsInScope.{AreNumbered-grows}
use Rattle.fc_type_table.proofs.table.TypeTable.over_binder.Goals as goal

pub read_part-requires-in-OfCo-2-clause-numbered : goal.read_part-requires-in-OfCo-2-clause-numbered
read_part-requires-in-OfCo-2-clause-numbered c =
    AreNumbered-grows (nodes_of c.args.self.now) (nodes_of c.read_part-in-OfCo.new.self) (numbered_of c.args.kinds.now) c.in_ok-left-in-OfCo.ensures.extends c.requires.numbered
