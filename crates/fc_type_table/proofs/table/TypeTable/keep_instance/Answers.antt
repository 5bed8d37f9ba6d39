use Rattle.fc_type_table.proofs.Noted.{Instances-note}
use Rattle.fc_type_table.proofs.table.TypeTable.keep_instance.Goals as goal

pub invariant_of-self : goal.invariant_of-self
invariant_of-self c = record {
  table = c.args.self.now.table;
  names_are = c.args.self.now.names_are;
  instances_are = Instances-note c.note_instance.result c.args.self.now.nodes.keys c.args.self.now.instances c.note_instance.new.instances c.args.instance c.args.answer c.requires.body_in c.requires.by_in c.requires.within c.requires.shown
      c.note_instance.ensures.noted c.note_instance.ensures.kept c.args.self.now.instances_are;
}
