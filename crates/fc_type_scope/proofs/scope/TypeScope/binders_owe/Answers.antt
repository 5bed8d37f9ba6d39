use Rattle.std.proofs.Common.{rules, arith, ◌≡◌, ◌∙◌, ◌++◌, ◌+◌, ◌∷◌, None, Ok, Err, drop, reverse, sym, ap, subst}
use Rattle.fc_model.specs.Faulting.{under}
use Rattle.fc_model.specs.NamelessView.{nbinder_of, nbinders_of}
use Rattle.fc_model.specs.Says.{Refuses, Says}
use Rattle.fc_model.specs.Typing.{binder_judged, binders_judged}
use Rattle.fc_model.proofs.Lists.{drop_item}
use Rattle.fc_type_table.specs.InScope.{AreNumbered, kinds_of, numbered_of, own_kinds}
use Rattle.fc_type_table.specs.TypeTables.{modules_in, nodes_of}
use Rattle.fc_type_table.proofs.KindsInScope.{AreNumbered-behind, AreNumbered-grows}
use Rattle.fc_type_table.proofs.Numbers.{Grows-further}
use Rattle.fc_type_scope.specs.Scopes.{scope_in}
use Rattle.fc_type_scope.proofs.BinderLists.{kinds_one_more}
use Rattle.fc_type_scope.proofs.Owing.{owes_fault, owes_on}
use Rattle.fc_type_scope.proofs.scope.TypeScope.binders_owe.Goals as goal

pub part_owes-requires : goal.part_owes-requires
part_owes-requires c =
    let ns = nodes_of c.loop-binder.types in
    let outer = numbered_of c.args.self.now.kinds.now in
    AreNumbered-behind ns c.as_slice.result.now outer (subst (AreNumbered ns) (sym c.as_slice.ensures) c.loop-binder.invariant.numbered)
    (AreNumbered-grows (nodes_of c.args.types.now) ns outer c.loop-binder.invariant.grows.nodes c.requires)

pub add_kind-requires : goal.add_kind-requires
add_kind-requires c = record { numbered = AreNumbered-grows (nodes_of c.loop-binder.types) (nodes_of c.part_owes.new.types) c.loop-binder.own c.in_ok-more.ensures.grows.nodes c.loop-binder.invariant.numbered }

pub loop-binder-preserved : goal.loop-binder-preserved
unfolding scope_in
loop-binder-preserved c =
    let ms = modules_in c.args.types.now in
    let outer = kinds_of c.args.self.now.kinds.now in
    let ks = reverse (own_kinds c.loop-binder.own) ++ outer in
    let b = c.binder-item.result in
    let rest = drop (c.loop-binder.binder-index + 1) c.args.binders.now in
    let here : drop c.loop-binder.binder-index c.args.binders.now ≡ b ∷ rest = drop_item c.args.binders.now c.loop-binder.binder-index b (omega arith) c.binder-item.is in
    let judged : under c.loop-binder.part (binder_judged ms (reverse (own_kinds c.as_slice.result.now) ++ outer) (nbinder_of b)) ≡ Ok c.in_ok-more.more =
    subst (λ m. under c.loop-binder.part (binder_judged m (reverse (own_kinds c.as_slice.result.now) ++ outer) (nbinder_of b)) ≡ Ok c.in_ok-more.more) c.loop-binder.invariant.grows.modules c.in_ok-more.ensures.says in
    let first : under c.loop-binder.part (binder_judged ms ks (nbinder_of b)) ≡ Ok c.in_ok-more.more =
    subst (λ own. under c.loop-binder.part (binder_judged ms (reverse (own_kinds own) ++ outer) (nbinder_of b)) ≡ Ok c.in_ok-more.more) c.as_slice.ensures judged in
    record {
      still = c.loop-binder.invariant.still
          ∙ owes_on ms ks (reverse (own_kinds c.add_kind.new.own) ++ outer) c.loop-binder.part c.in_ok-part.part c.loop-binder.owed c.in_ok-more.more c.first_fault-owed.result
          (nbinder_of b) (nbinders_of rest) (nbinders_of (drop c.loop-binder.binder-index c.args.binders.now)) (ap nbinders_of here) first
          (ap (λ js. reverse js ++ outer) c.in_ok-add_kind.ensures.kinds ∙ kinds_one_more (own_kinds c.loop-binder.own) outer (nbinder_of b)) c.first_fault-owed.ensures c.in_ok-part.ensures.next;
      numbered = c.in_ok-add_kind.ensures.numbered;
      grows = Grows-further c.args.types.now c.part_owes.new.types c.add_kind.new.types
          (Grows-further c.args.types.now c.loop-binder.types c.part_owes.new.types c.loop-binder.invariant.grows c.in_ok-more.ensures.grows) c.in_ok-add_kind.ensures.grows;
    }

pub returns-in_err-more-clause-says : goal.returns-in_err-more-clause-says
unfolding scope_in
returns-in_err-more-clause-says c =
    let ms = modules_in c.args.types.now in
    let outer = kinds_of c.args.self.now.kinds.now in
    let ks = reverse (own_kinds c.loop-binder.own) ++ outer in
    let f = c.in_err-more.field-0.0 in
    let b = c.binder-item.result in
    let rest = drop (c.loop-binder.binder-index + 1) c.args.binders.now in
    let here : drop c.loop-binder.binder-index c.args.binders.now ≡ b ∷ rest = drop_item c.args.binders.now c.loop-binder.binder-index b (omega arith) c.binder-item.is in
    let whole = binders_judged ms outer 0 None (nbinders_of c.args.binders.now) in
    let judged : Refuses f (under c.loop-binder.part (binder_judged ms (reverse (own_kinds c.as_slice.result.now) ++ outer) (nbinder_of b))) =
    subst (λ m. Refuses f (under c.loop-binder.part (binder_judged m (reverse (own_kinds c.as_slice.result.now) ++ outer) (nbinder_of b)))) c.loop-binder.invariant.grows.modules c.in_err-more.ensures.says in
    let first : Refuses f (under c.loop-binder.part (binder_judged ms ks (nbinder_of b))) =
    subst (λ own. Refuses f (under c.loop-binder.part (binder_judged ms (reverse (own_kinds own) ++ outer) (nbinder_of b)))) c.as_slice.ensures judged in
    let refused : Refuses f whole = subst (Refuses f) (sym c.loop-binder.invariant.still)
    (owes_fault f ms ks c.loop-binder.part c.loop-binder.owed (nbinder_of b) (nbinders_of rest) (nbinders_of (drop c.loop-binder.binder-index c.args.binders.now)) (ap nbinders_of here) first) in
    let given : c.from_residual.result ≡ Err f = search rules in
    subst (λ r. Says (λ o. o) r whole) (sym given) refused
