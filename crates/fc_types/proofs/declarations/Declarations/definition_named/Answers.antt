use Rattle.std.proofs.Common.{Some, None}
use Rattle.fc_types.proofs.FirstDeclared.{definition_found}
use Rattle.fc_types.specs.ModuleViews.{modules_of}
use Rattle.fc_types.proofs.declarations.Declarations.definition_named.Goals as goal

pub returns-in-None : goal.returns-in-None
unfolding modules_of
returns-in-None c =
    let d = c.args.self.now in
    definition_found d.tables.definitions d.modules.now c.args.name.now.module c.args.name.now.text None c.in-None.ensures d.definitions_are

pub returns-in-Some : goal.returns-in-Some
unfolding modules_of
returns-in-Some c =
    let d = c.args.self.now in
    definition_found d.tables.definitions d.modules.now c.args.name.now.module c.args.name.now.text (Some c.in-Some.ty.now) c.in-Some.ensures d.definitions_are
