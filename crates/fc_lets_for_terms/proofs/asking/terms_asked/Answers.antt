use Rattle.std.proofs.Common.{sym, subst}
use Rattle.fc_model.specs.NamelessView.{nargs_of}
use Rattle.fc_type_scope.proofs.ScopeKinds.{scope_grows}
use Rattle.fc_type_scope.specs.Scopes.{scope_in}
use Rattle.fc_type_table.proofs.Numbers.{Grows-further, Grows-refl}
use Rattle.fc_type_table.specs.TypeTables.{nodes_of, shown}
use Rattle.fc_lets_for_terms.specs.Asking.{AreAskedAt, IsStep, asked_terms}
use Rattle.fc_lets_for_terms.proofs.Steps.{AreAskedAt-add, AreAskedAt-none, none_before, none_more, one_more}
use Rattle.fc_lets_for_terms.proofs.asking.terms_asked.Goals as goal

pub loop-argument-init : goal.loop-argument-init
loop-argument-init c =
    let ns = nodes_of c.args.types.now in
    let ks = scope_in c.args.scope.now in
    record {
      grows = Grows-refl c.args.types.now;
      whole_in = c.requires.ty_in;
      found_in = subst (AreAskedAt ns ks) (sym c.new-found.ensures) (AreAskedAt-none ns ks);
      view = none_before ns ks c.new-found.result c.new-found.ensures (asked_terms (shown c.args.types.now ks c.args.ty) (nargs_of c.args.args.now));
    }

pub with_argument-requires-clause-scope : goal.with_argument-requires-clause-scope
with_argument-requires-clause-scope c = scope_grows (nodes_of c.args.types.now) (nodes_of c.loop-argument.types) c.args.scope.now.kinds.now c.loop-argument.invariant.grows.nodes c.requires.scope

pub returns-in-None-clause-view : goal.returns-in-None-clause-view
returns-in-None-clause-view c =
    none_more (nodes_of c.loop-argument.types) (nodes_of c.with_argument.new.types) (scope_in c.args.scope.now) c.loop-argument.found c.in_ok-with_argument.ensures.grows.nodes c.loop-argument.invariant.found_in
    (asked_terms (shown c.args.types.now (scope_in c.args.scope.now) c.args.ty) (nargs_of c.args.args.now)) c.loop-argument.whole c.args.args.now c.loop-argument.argument-index c.argument-item.result
    c.loop-argument-test.true c.argument-item.is c.loop-argument.invariant.view (rw c.in-None.is at c.in_ok-with_argument.ensures.view)

pub loop-argument-preserved : goal.loop-argument-preserved
loop-argument-preserved c =
    let old = nodes_of c.loop-argument.types in
    let new = nodes_of c.with_argument.new.types in
    let ks = scope_in c.args.scope.now in
    let step_in : IsStep new ks c.in-Some.step = rw c.in-Some.is at c.in_ok-with_argument.ensures.valid in
    record {
      grows = Grows-further c.args.types.now c.loop-argument.types c.with_argument.new.types c.loop-argument.invariant.grows c.in_ok-with_argument.ensures.grows;
      whole_in = step_in.whole;
      found_in = AreAskedAt-add old new ks c.loop-argument.found c.in_ok-with_argument.ensures.grows.nodes c.loop-argument.invariant.found_in c.add.new.found c.in-Some.step.asked step_in.asked c.in_ok-add-in-Some.ensures;
      view = one_more old new ks c.loop-argument.found c.in_ok-with_argument.ensures.grows.nodes c.loop-argument.invariant.found_in
          (asked_terms (shown c.args.types.now ks c.args.ty) (nargs_of c.args.args.now)) c.loop-argument.whole c.args.args.now c.loop-argument.argument-index c.argument-item.result
          c.loop-argument-test.true c.argument-item.is c.loop-argument.invariant.view c.in-Some.step c.add.new.found (rw c.in-Some.is at c.in_ok-with_argument.ensures.view) c.in_ok-add-in-Some.ensures;
    }
