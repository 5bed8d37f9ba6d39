use Rattle.std.proofs.Common.{subst, sym}
use Rattle.fc_type_scope.proofs.ScopeKinds.{scope_grows}
use Rattle.fc_type_table.proofs.KindsInScope.{AreNumbered-behind}
use Rattle.fc_type_table.specs.InScope.{AreNumbered, IsScopeAt, numbered_of}
use Rattle.fc_type_table.specs.TypeTables.{nodes_of}
use Rattle.fc_typing.proofs.instances.instance_inside.Goals as goal

pub read-requires-2 : goal.read-requires-2
read-requires-2 c =
    let old = nodes_of c.args.types.now in
    let new = nodes_of c.read.new.types in
    let kinds = c.kinds_behind-kinds.result in
    let both = AreNumbered-behind old c.args.bound.now.kinds (numbered_of c.args.outside.now) c.requires.bound c.requires.outside in
    let here : IsScopeAt old kinds = subst (AreNumbered old) (sym c.kinds_behind-kinds.ensures.numbered) both in
    scope_grows old new kinds c.in_ok-forall.ensures.grows.nodes here
