use Rattle.fc_type_table.proofs.Noted.{NamesNoted-note}
use Rattle.fc_type_table.proofs.table.TypeTable.keep_name.Goals as goal

pub invariant_of-self : goal.invariant_of-self
invariant_of-self c = record {
  table = c.args.self.now.table;
  names_are = NamesNoted-note c.note_name.result c.args.self.now.nodes.keys c.args.self.now.names c.note_name.new.names c.args.name c.args.answer c.requires.within c.requires.shown c.note_name.ensures.noted c.note_name.ensures.kept c.args.self.now.names_are;
  instances_are = c.args.self.now.instances_are;
}
