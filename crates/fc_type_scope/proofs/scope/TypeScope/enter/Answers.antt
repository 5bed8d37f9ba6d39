use Rattle.std.proofs.Common.{◌+◌, arith, drop, refl, subst, sym, take}
use Rattle.fc_model.specs.NamelessView.{nbinder_of, nbinders_of}
use Rattle.fc_type_scope.specs.Behind.{IsEntered}
use Rattle.fc_type_scope.specs.Scopes.{scope_in}
use Rattle.fc_type_table.specs.TypeTables.{nodes_of}
use Rattle.fc_type_scope.specs.declared.entering.Entered.{Entered}
use Rattle.fc_type_table.proofs.Numbers.{Grows-further, Grows-refl}
use Rattle.fc_type_table.proofs.Reached.{Reached, reached}
use Rattle.fc_type_scope.proofs.OneMore.{entered_none}
use Rattle.fc_type_scope.proofs.ScopeKinds.{scope_grows}
use Rattle.fc_type_scope.proofs.scope.TypeScope.enter.Goals as goal

pub loop-binder-init : goal.loop-binder-init
loop-binder-init c =
    let e : Entered = record { kinds = c.new.result; coercions = c.new-2.result; values = c.new-3.result } in record {
      entered = entered_none (nodes_of c.args.types.now) (scope_in c.args.self.now) e c.new.ensures c.new-2.ensures c.new-3.ensures;
      grows = Grows-refl c.args.types.now;
    }

pub enter_binder-requires-clause-scope : goal.enter_binder-requires-clause-scope
enter_binder-requires-clause-scope c = scope_grows (nodes_of c.args.types.now) (nodes_of c.loop-binder.types) c.args.self.now.kinds.now c.loop-binder.invariant.grows.nodes c.requires

pub loop-binder-preserved : goal.loop-binder-preserved
loop-binder-preserved c =
    let xs = c.args.binders.now in
    let i = c.loop-binder.binder-index in
    let x = c.binder-item.result in
    let before = nbinders_of (take i xs) in
    let upto = nbinders_of (take (i + 1) xs) in
    let r : Reached (nbinders_of xs) upto before (nbinder_of x) (nbinders_of (drop (i + 1) xs)) = reached xs i (i + 1) x (omega arith) refl c.binder-item.is in
    record {
      entered = subst (λ bs. IsEntered (nodes_of c.enter_binder.new.types) (scope_in c.args.self.now) bs c.enter_binder.new.entered) (sym r.last) (c.in_ok-enter_binder.ensures.entered before c.loop-binder.invariant.entered);
      grows = Grows-further c.args.types.now c.loop-binder.types c.enter_binder.new.types c.loop-binder.invariant.grows c.in_ok-enter_binder.ensures.grows;
    }
