use Rattle.fc_type_table.specs.TypeTables.{modules_in, nodes_of}
use Rattle.fc_type_table.proofs.KindsShown.{kind_or_fault-shown}
use Rattle.fc_type_table.proofs.table.TypeTable.kind_or_fault.Goals as goal

pub returns-clause-says : goal.returns-clause-says
returns-clause-says c ks t = rw (kind_or_fault-shown (modules_in c.args.self.now) (nodes_of c.args.self.now) ks c.args.id.0 t) c.head_kind.ensures.says
