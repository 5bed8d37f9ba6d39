use Rattle.std.proofs.Common.{◌∙◌}
use Rattle.fc_types.specs.ModuleViews.{modules_of}
use Rattle.fc_type_table.proofs.KindsShown.{own_kind-shown}
use Rattle.fc_type_table.proofs.table.TypeTable.kind.Goals as goal

pub returns-clause-view : goal.returns-clause-view
returns-clause-view c = λ ks t. c.told_kind.ensures.view ∙ own_kind-shown (modules_of c.args.self.now.declared.now) c.args.self.now.nodes.keys ks c.args.id.0 t
