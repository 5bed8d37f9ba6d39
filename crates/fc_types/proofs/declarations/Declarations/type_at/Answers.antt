use Rattle.std.proofs.Common.{Some, None}
use Rattle.std.specs.Option.{option_map}
use Rattle.fc_types.proofs.FirstDeclared.{type_found}
use Rattle.fc_types.specs.ModuleViews.{modules_of}
use Rattle.fc_types.proofs.declarations.Declarations.type_at.Goals as goal

pub returns-in-None : goal.returns-in-None
unfolding modules_of
returns-in-None c =
    let d = c.args.self.now in
    type_found d.tables.types d.modules.now (option_map (λ w. w.now) c.args.qualifier) c.args.word.now None c.in-None.ensures d.types_are

pub returns-in-Some : goal.returns-in-Some
unfolding modules_of
returns-in-Some c =
    let d = c.args.self.now in
    type_found d.tables.types d.modules.now (option_map (λ w. w.now) c.args.qualifier) c.args.word.now (Some c.in-Some.decl.now) c.in-Some.ensures d.types_are
