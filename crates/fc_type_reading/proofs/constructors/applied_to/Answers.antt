use Rattle.std.proofs.Common.{◌≡◌, Some, None, drop, sym, arith, rules}
use Rattle.fc_model.specs.NamelessView.{nargs_of}
use Rattle.fc_type_scope.proofs.ScopeKinds.{scope_grows}
use Rattle.fc_type_scope.specs.Scopes.{scope_in}
use Rattle.fc_type_table.proofs.Numbers.{Grows-further}
use Rattle.fc_type_table.specs.TypeTables.{IsType, nodes_of, shown}
use Rattle.fc_type_reading.specs.Readings.{applied_to_first}
use Rattle.fc_type_reading.proofs.Constructed.{turn-at}
use Rattle.fc_type_reading.proofs.constructors.applied_to.Goals as goal

pub applied_at-requires-clause-scope : goal.applied_at-requires-clause-scope
applied_at-requires-clause-scope c = scope_grows (nodes_of c.args.types.now) (nodes_of c.loop-place.types) c.args.scope.now.kinds.now c.loop-place.invariant.grows.nodes c.requires.scope

pub returns-in-None-clause-view : goal.returns-in-None-clause-view
returns-in-None-clause-view c =
    let ks = scope_in c.args.scope.now in
    let old = c.loop-place.types in
    let xs = c.args.args.now in
    let t = shown old ks c.loop-place.whole in
    let none : None ≡ applied_to_first 1 t (nargs_of (drop c.loop-place.place xs)) = search rules in
    sym (turn-at _ c.args.count c.loop-place.place t xs None (omega arith) c.loop-place.invariant.view none)

pub loop-place-preserved : goal.loop-place-preserved
loop-place-preserved c =
    let ks = scope_in c.args.scope.now in
    let old = c.loop-place.types in
    let new = c.applied_at.new.types in
    let xs = c.args.args.now in
    let t = shown old ks c.loop-place.whole in
    let found : Some (shown new ks c.in-Some.next) ≡ applied_to_first 1 t (nargs_of (drop c.loop-place.place xs)) = search rules in
    let next_in : IsType new ks c.in-Some.next = search rules in
    record {
      grows = Grows-further c.args.types.now old new c.loop-place.invariant.grows c.in_ok-applied_at.ensures.grows;
      whole_in = next_in;
      view = turn-at _ c.args.count c.loop-place.place t xs (Some (shown new ks c.in-Some.next)) (omega arith) c.loop-place.invariant.view found;
    }
