use Rattle.fc_syntax.specs.View.{kind_of}
use Rattle.fc_type_table.proofs.Shown.{bound_valid, bound_view}
use Rattle.fc_type_table.proofs.table.TypeTable.generalize.Goals as goal

pub returns-clause-valid : goal.returns-clause-valid
returns-clause-valid c =
    let k = c.in_ok-kind.ensures in
    let b = c.in_ok-body.ensures in
    bound_valid c.intern.result c.args.self.now.nodes.keys c.put_kind.new.self.nodes.keys c.close_seen.new.self.nodes.keys c.intern.new.self.nodes.keys c.args.variables (kind_of c.args.kind.now) c.args.body.0 c.in_ok-kind.kind.0 c.in_ok-body.body.0
    k.extends b.extends c.requires k.within k.shown b.shown c.intern.ensures.within c.intern.ensures.shown

pub returns-clause-view : goal.returns-clause-view
returns-clause-view c =
    let k = c.in_ok-kind.ensures in
    let b = c.in_ok-body.ensures in
    bound_view c.intern.result c.args.self.now.nodes.keys c.put_kind.new.self.nodes.keys c.close_seen.new.self.nodes.keys c.intern.new.self.nodes.keys c.args.variables (kind_of c.args.kind.now) c.args.body.0 c.in_ok-kind.kind.0 c.in_ok-body.body.0
    k.extends b.extends c.requires k.within k.shown b.shown c.intern.ensures.shown
