use Rattle.std.proofs.Common.{◌≡◌, ◌+◌, Ok, drop, ap, sym, ◌∙◌, arith, subst}
use Rattle.fc_model.specs.Faulting.{under}
use Rattle.fc_model.specs.Linting.{con_binder_judged, con_binders_judged, kinds_behind_all}
use Rattle.fc_model.specs.Typing.{kinds_behind}
use Rattle.fc_model.specs.NamelessView.{nbinder_of, nbinders_of}
use Rattle.fc_model.proofs.Lists.{drop_item}
use Rattle.fc_types.specs.ModuleViews.{modules_of}
use Rattle.fc_type_scope.proofs.BinderLists.{kinds_one_more}
use Rattle.fc_type_scope.proofs.ScopeKinds.{scope_grows}
use Rattle.fc_type_scope.specs.Scopes.{scope_in}
use Rattle.fc_type_table.specs.InScope.{AreNumbered, behind_group, numbered_of, own_kinds}
use Rattle.fc_type_table.specs.TypeTables.{nodes_of}
use Rattle.fc_type_table.proofs.KindsInScope.{AreNumbered-behind, AreNumbered-grows}
use Rattle.fc_type_table.proofs.Numbers.{Grows-further}
use Rattle.fc_lint_declarations.proofs.Params.{binders_step}
use Rattle.fc_lint_declarations.proofs.constructors.lint_constructor.Goals as goal

pub lint_con_binder_part-requires-clause-scope : goal.lint_con_binder_part-requires-clause-scope
lint_con_binder_part-requires-clause-scope c =
    let ns = nodes_of c.loop-binder.types in
    AreNumbered-behind ns c.as_slice.result.now (numbered_of c.args.outer.now.kinds.now) (subst (AreNumbered ns) (sym c.as_slice.ensures) c.loop-binder.invariant.numbered) c.loop-binder.invariant.scope

pub add_kind-requires : goal.add_kind-requires
add_kind-requires c = record { numbered = AreNumbered-grows (nodes_of c.loop-binder.types) (nodes_of c.lint_con_binder_part.new.types) c.loop-binder.own c.in_ok-same.ensures.grows.nodes c.loop-binder.invariant.numbered }

pub lint_fields-requires-clause-scope : goal.lint_fields-requires-clause-scope
lint_fields-requires-clause-scope c =
    let ns = nodes_of c.loop-binder.types in
    AreNumbered-behind ns c.as_slice-2.result.now (numbered_of c.args.outer.now.kinds.now) (subst (AreNumbered ns) (sym c.as_slice-2.ensures) c.loop-binder.invariant.numbered) c.loop-binder.invariant.scope

pub loop-binder-preserved : goal.loop-binder-preserved
unfolding scope_in
loop-binder-preserved c =
    let ms = modules_of c.args.declared.now in
    let bs = c.args.con.now.binders in
    let k = c.loop-binder.binder-index in
    let outer = scope_in c.args.outer.now in
    let old = behind_group (own_kinds c.loop-binder.own) outer in
    let new = behind_group (own_kinds c.add_kind.new.own) outer in
    let b = nbinder_of c.binder-item.result in
    let rest = nbinders_of (drop (k + 1) bs) in
    let item = drop_item bs k c.binder-item.result (rw (← c.as_slice-binder-items.ensures) c.loop-binder-test.true) (rw (← c.as_slice-binder-items.ensures) c.binder-item.is) in
    let next : new ≡ kinds_behind b old = ap (λ js. behind_group js outer) c.in_ok-add_kind.ensures.kinds ∙ kinds_one_more (own_kinds c.loop-binder.own) outer b in
    let judged : under c.loop-binder.part (con_binder_judged ms old b) ≡ Ok c.in_ok-same.same = rw (← c.as_slice.ensures) c.in_ok-same.ensures.says in
    let mid = c.lint_con_binder_part.new.types in
    let far = Grows-further c.loop-binder.types mid c.add_kind.new.types c.in_ok-same.ensures.grows c.in_ok-add_kind.ensures.grows in
    record {
      part = omega (arith, c.loop-binder.invariant.part, c.in_ok-part.ensures.next);
      judged = c.loop-binder.invariant.judged ∙ ap (λ xs. con_binders_judged ms old c.loop-binder.part c.loop-binder.one (nbinders_of xs)) item
          ∙ binders_step ms old new c.loop-binder.part c.in_ok-part.part c.loop-binder.one c.in_ok-same.same c.both-one.result b rest judged next c.in_ok-part.ensures.next c.both-one.ensures;
      kinds = c.loop-binder.invariant.kinds ∙ ap (λ xs. kinds_behind_all (nbinders_of xs) old) item ∙ ap (λ ks. kinds_behind_all rest ks) (sym next);
      numbered = c.in_ok-add_kind.ensures.numbered;
      scope = scope_grows (nodes_of c.loop-binder.types) (nodes_of c.add_kind.new.types) c.args.outer.now.kinds.now far.nodes c.loop-binder.invariant.scope;
      modules = far.modules ∙ c.loop-binder.invariant.modules;
      grows = Grows-further c.args.types.now c.loop-binder.types c.add_kind.new.types c.loop-binder.invariant.grows far;
    }

pub returns-then-one-clause-scope : goal.returns-then-one-clause-scope
returns-then-one-clause-scope c =
    scope_grows (nodes_of c.loop-binder.types) (nodes_of c.lint_fields.new.types) c.args.outer.now.kinds.now c.in_ok-values.ensures.grows.nodes c.loop-binder.invariant.scope
