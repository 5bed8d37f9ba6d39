use Rattle.std.proofs.Common.{Some, None}
use Rattle.fc_types.proofs.FirstDeclared.{constructor_found}
use Rattle.fc_types.specs.ModuleViews.{modules_of}
use Rattle.fc_types.proofs.declarations.Declarations.constructor_named.Goals as goal

pub returns-in-None : goal.returns-in-None
unfolding modules_of
returns-in-None c =
    let d = c.args.self.now in
    constructor_found d.tables.constructors d.modules.now c.args.name.now.module c.args.name.now.text None c.in-None.ensures d.constructors_are

pub returns-in-Some : goal.returns-in-Some
unfolding modules_of
returns-in-Some c =
    let d = c.args.self.now in
    constructor_found d.tables.constructors d.modules.now c.args.name.now.module c.args.name.now.text (Some c.in-Some.con.now) c.in-Some.ensures d.constructors_are
