use Rattle.std.proofs.Common.{◌≡◌, Some, None, arith, rules}
use Rattle.fc_model.specs.NamelessView.{narg_of}
use Rattle.fc_type_reading.specs.Readings.{type_applied}
use Rattle.fc_type_scope.proofs.ScopeKinds.{scope_grows}
use Rattle.fc_type_scope.specs.Scopes.{scope_in}
use Rattle.fc_type_table.proofs.Numbers.{Grows-further}
use Rattle.fc_type_table.specs.TypeTables.{IsType, nodes_of, shown}
use Rattle.fc_commute_types.specs.Fields.{field_in}
use Rattle.fc_commute_types.proofs.Reached.{field_behind}
use Rattle.fc_commute_types.proofs.asked.first_field.Goals as goal

pub applied_type-requires-clause-scope : goal.applied_type-requires-clause-scope
applied_type-requires-clause-scope c = scope_grows (nodes_of c.args.types.now) (nodes_of c.loop-argument.types) c.args.scope.now.kinds.now c.loop-argument.invariant.grows.nodes c.requires.scope

pub loop-argument-preserved : goal.loop-argument-preserved
loop-argument-preserved c =
    let ks = scope_in c.args.scope.now in
    let old = c.loop-argument.types in
    let new = c.applied_type.new.types in
    let t = shown old ks c.loop-argument.whole in
    let a = c.argument-item.result in
    let none : None ≡ field_in (narg_of a) = search rules in
    let next : Some (shown new ks c.in-Some-2.next) ≡ type_applied t (narg_of a) = search rules in
    let next_in : IsType new ks c.in-Some-2.next = search rules in
    record {
      grows = Grows-further c.args.types.now old new c.loop-argument.invariant.grows c.in_ok-applied_type.ensures.grows;
      whole_in = next_in;
      view = field_behind _ t c.args.arguments.now c.loop-argument.argument-index a (Some (shown new ks c.in-Some-2.next)) (omega arith) c.argument-item.is c.loop-argument.invariant.view none next;
    }
