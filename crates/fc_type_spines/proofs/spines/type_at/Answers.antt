use Rattle.std.proofs.Common.{◌≡◌, ◌+◌, ◌-◌, Some, None, get_or, reverse, sym, arith, rules}
use Rattle.fc_model.specs.Calling.{at_type, at_types}
use Rattle.fc_type_scope.proofs.Numbers.{AreTypesAt-grows}
use Rattle.fc_type_scope.specs.Scopes.{scope_in, shown_all}
use Rattle.fc_type_table.proofs.Numbers.{Grows-further}
use Rattle.fc_type_table.specs.TypeTables.{IsType, nodes_of, shown}
use Rattle.fc_type_spines.proofs.Heads.{at_types-turn, no_id}
use Rattle.fc_type_spines.proofs.spines.type_at.Goals as goal

pub returns-in-None-clause-view : goal.returns-in-None-clause-view
returns-in-None-clause-view c =
    let ks = scope_in c.args.scope.now in
    let old = c.loop-left.types in
    let new = c.instantiate.new.types in
    let t = shown old ks c.loop-left.whole in
    let ids = c.args.arguments.now in
    let i = c.loop-left.left - 1 in
    let none : None ≡ at_type t (shown old ks (get_or ids i no_id)) = search rules in
    let next : c.loop-left.left ≡ i + 1 = omega arith in
    sym (at_types-turn (nodes_of old) (nodes_of new) ks (at_types (shown c.args.types.now ks c.args.ty) (reverse (shown_all c.args.types.now ks ids))) t ids i c.loop-left.left None
    c.in_ok-instantiate.ensures.grows.nodes c.loop-left.invariant.arguments_in next c.loop-left.invariant.within c.loop-left.invariant.view none)

pub loop-left-preserved : goal.loop-left-preserved
loop-left-preserved c =
    let ks = scope_in c.args.scope.now in
    let old = c.loop-left.types in
    let new = c.instantiate.new.types in
    let t = shown old ks c.loop-left.whole in
    let ids = c.args.arguments.now in
    let i = c.loop-left.left - 1 in
    let found : Some (shown new ks c.in-Some.next) ≡ at_type t (shown old ks (get_or ids i no_id)) = search rules in
    let next_in : IsType new ks c.in-Some.next = search rules in
    let next : c.loop-left.left ≡ i + 1 = omega arith in
    let w = c.loop-left.invariant.within in
    record {
      within = omega arith;
      grows = Grows-further c.args.types.now old new c.loop-left.invariant.grows c.in_ok-instantiate.ensures.grows;
      arguments_in = AreTypesAt-grows (nodes_of old) (nodes_of new) ks ids c.in_ok-instantiate.ensures.grows.nodes c.loop-left.invariant.arguments_in;
      whole_in = next_in;
      view = at_types-turn (nodes_of old) (nodes_of new) ks (at_types (shown c.args.types.now ks c.args.ty) (reverse (shown_all c.args.types.now ks ids))) t ids i c.loop-left.left (Some (shown new ks c.in-Some.next))
          c.in_ok-instantiate.ensures.grows.nodes c.loop-left.invariant.arguments_in next c.loop-left.invariant.within c.loop-left.invariant.view found;
    }
