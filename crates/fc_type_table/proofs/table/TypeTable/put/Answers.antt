use Rattle.fc_types.specs.ModuleViews.{modules_of}
use Rattle.fc_type_table.proofs.Noted.{Instances-after, NamesNoted-after}
use Rattle.fc_type_table.proofs.SameNodes.{Extends-after, Fits, IsTable-after, shown_there}
use Rattle.fc_type_table.specs.declared.node.Node.{Node}
use Rattle.fc_type_table.proofs.table.TypeTable.put.Goals as goal

pub invariant_of-self : goal.invariant_of-self
invariant_of-self c =
    let node : Node = record { piece = c.args.piece; measure = c.in_ok-measure.measure; judged = c.args.judged } in
    let ms = modules_of c.args.self.now.declared.now in
    let fits : Fits ms c.args.self.now.nodes.keys node = record { parts = c.requires.parts; labels = c.requires.kinds; measured = c.in_ok-measure.ensures; told = c.requires.judged } in
    record { table = IsTable-after c.insert_full.result ms c.args.self.now.nodes.keys c.insert_full.new.self.keys node c.args.self.now.table fits c.insert_full.ensures.unique c.insert_full.ensures.keys c.insert_full.ensures.err; names_are = NamesNoted-after c.insert_full.result c.args.self.now.nodes.keys c.insert_full.new.self.keys node c.args.self.now.names c.insert_full.ensures.keys c.insert_full.ensures.err c.args.self.now.names_are; instances_are = Instances-after c.insert_full.result c.args.self.now.nodes.keys c.insert_full.new.self.keys node c.args.self.now.instances c.insert_full.ensures.keys c.insert_full.ensures.err c.args.self.now.instances_are }

pub returns-clause-shown : goal.returns-clause-shown
returns-clause-shown c =
    let node : Node = record { piece = c.args.piece; measure = c.in_ok-measure.measure; judged = c.args.judged } in
    let ms = modules_of c.args.self.now.declared.now in
    let fits : Fits ms c.args.self.now.nodes.keys node = record { parts = c.requires.parts; labels = c.requires.kinds; measured = c.in_ok-measure.ensures; told = c.requires.judged } in
    let s = c.in_ok-index.ensures.stored in
    shown_there ms c.args.self.now.nodes.keys c.insert_full.new.self.keys node s.0 c.in_ok-index.index
    (IsTable-after c.insert_full.result ms c.args.self.now.nodes.keys c.insert_full.new.self.keys node c.args.self.now.table fits c.insert_full.ensures.unique c.insert_full.ensures.keys c.insert_full.ensures.err)
    (Extends-after c.args.self.now.nodes.keys c.insert_full.new.self.keys node c.in_ok-index.ensures.keys) c.requires.parts c.in_ok-index.ensures.within s.1 s.2

pub returns-clause-extends : goal.returns-clause-extends
returns-clause-extends c =
    let node : Node = record { piece = c.args.piece; measure = c.in_ok-measure.measure; judged = c.args.judged } in
    Extends-after c.args.self.now.nodes.keys c.insert_full.new.self.keys node c.in_ok-index.ensures.keys
