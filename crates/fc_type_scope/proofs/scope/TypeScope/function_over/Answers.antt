use Rattle.std.proofs.Common.{arith, ◌≡◌, ◌∙◌, ◌++◌, ◌+◌, ◌-◌, drop, length, reverse, sym, ap, subst, take}
use Rattle.std.proofs.Math.Seq.{take-length}
use Rattle.std.proofs.lemmas.List.{length-map, length-take}
use Rattle.fc_model.specs.Calling.{over_binder, over_binders, type_count}
use Rattle.fc_model.specs.NamelessView.{nbinder_of, nbinders_of}
use Rattle.fc_model.specs.Typing.{kinds_behind}
use Rattle.fc_syntax.specs.View.{kind_of}
use Rattle.fc_type_table.specs.InScope.{AreNumbered, kinds_of, numbered_of, own_kinds}
use Rattle.fc_type_table.specs.declared.numbered.NumberedKind.{NumberedKind}
use Rattle.fc_type_table.specs.Scopes.{IsTypeAt}
use Rattle.fc_type_table.specs.TypeTables.{nodes_of, shown}
use Rattle.fc_type_scope.specs.Behind.{IsEntered, IsValueAt, binder_kinds, kinds_past, value_count}
use Rattle.fc_type_scope.specs.Scopes.{scope_in}
use Rattle.fc_type_table.proofs.Reached.{Reached, kinds_before, kinds_counted, kinds_there, kinds_upto, reached}
use Rattle.fc_type_scope.proofs.Backwards.{counted_values, entered_at, over_upto, values_counted}
use Rattle.fc_type_table.proofs.BinderKinds.{kinds_past-none, length-binder_kinds}
use Rattle.fc_type_table.proofs.KindsInScope.{AreNumbered-behind, AreNumbered-grows, AreNumbered-take}
use Rattle.fc_type_table.proofs.Numbers.{Grows-refl, Grows-further}
use Rattle.fc_type_scope.proofs.OneMore.{entered_grows}
use Rattle.fc_type_scope.proofs.scope.TypeScope.function_over.Goals as goal

pub loop-at-init : goal.loop-at-init
loop-at-init c =
    let xs = c.args.binders.now in
    let all : take (length xs) xs ≡ xs = take-length xs in
    let ks = scope_in c.args.self.now in
    let ids = c.args.entered.now in record {
      within = omega arith;
      kinds =
          ap length c.as_slice-own.ensures ∙ sym (length-map ids.kinds (λ (j : NumberedKind). kind_of j.kind.now)) ∙ ap length c.requires.entered_in.kinds ∙ length-binder_kinds (nbinders_of xs)
          ∙ ap (λ ys. type_count (nbinders_of ys)) (sym all);
      values = ap length c.as_slice-values.ensures ∙ counted_values (nodes_of c.args.types.now) ks (nbinders_of xs) ids c.requires.entered_in ∙ ap (λ ys. value_count (nbinders_of ys)) (sym all);
      valid = subst (λ ys. IsTypeAt (nodes_of c.args.types.now) (kinds_past (nbinders_of ys) ks) c.args.answer.0) (sym all) c.requires.answer_in;
      view = ap (λ ys. over_binders (nbinders_of ys) (shown c.args.types.now (kinds_past (nbinders_of ys) ks) c.args.answer)) all;
      grows = Grows-refl c.args.types.now;
    }

pub before-counts-requires-clause-kinds_in : goal.before-counts-requires-clause-kinds_in
before-counts-requires-clause-kinds_in c =
    let xs = c.args.binders.now in
    let i = c.loop-at.at - 1 in
    let bs = nbinders_of xs in
    let upto = nbinders_of (take c.loop-at.at xs) in
    let p = nbinders_of (take i xs) in
    let b = nbinder_of c.index-binders-at.result in
    let rest = nbinders_of (drop (i + 1) xs) in
    let r : Reached bs upto p b rest = reached xs i c.loop-at.at c.index-binders-at.result (omega arith) (omega arith) c.index-binders-at.is in
    omega (arith, kinds_counted bs upto p b rest r)

pub before-counts-requires-clause-values_in : goal.before-counts-requires-clause-values_in
before-counts-requires-clause-values_in c =
    let xs = c.args.binders.now in
    let i = c.loop-at.at - 1 in
    let bs = nbinders_of xs in
    let upto = nbinders_of (take c.loop-at.at xs) in
    let p = nbinders_of (take i xs) in
    let b = nbinder_of c.index-binders-at.result in
    let rest = nbinders_of (drop (i + 1) xs) in
    let r : Reached bs upto p b rest = reached xs i c.loop-at.at c.index-binders-at.result (omega arith) (omega arith) c.index-binders-at.is in
    omega (arith, values_counted bs upto p b rest r)

pub slice_bounds-kinds-end : goal.slice_bounds-kinds-end
slice_bounds-kinds-end c =
    let xs = c.args.binders.now in
    let i = c.loop-at.at - 1 in
    let bs = nbinders_of xs in
    let upto = nbinders_of (take c.loop-at.at xs) in
    let p = nbinders_of (take i xs) in
    let b = nbinder_of c.index-binders-at.result in
    let rest = nbinders_of (drop (i + 1) xs) in
    let r : Reached bs upto p b rest = reached xs i c.loop-at.at c.index-binders-at.result (omega arith) (omega arith) c.index-binders-at.is in
    let own = c.as_slice-own.result.now in
    let kinds : c.before-counts.result.kinds ≡ type_count p = omega (arith, kinds_counted bs upto p b rest r) in
    let same : own_kinds own ≡ binder_kinds bs = ap own_kinds c.as_slice-own.ensures ∙ c.requires.entered_in.kinds in
    omega (arith, length-take c.before-counts.result.kinds own, kinds_before bs upto p b rest r own same)

pub over_binder-requires-clause-scope : goal.over_binder-requires-clause-scope
over_binder-requires-clause-scope c =
    let old = nodes_of c.args.types.now in
    let ns = nodes_of c.loop-at.types in
    let own = c.as_slice-own.result.now in
    let outer = numbered_of c.args.self.now.kinds.now in
    let count = c.before-counts.result.kinds in
    let numbered = AreNumbered-grows old ns own c.loop-at.invariant.grows.nodes (subst (AreNumbered old) (sym c.as_slice-own.ensures) c.requires.entered_in.numbered) in
    AreNumbered-behind ns (take count own) outer (AreNumbered-take ns count own numbered) (AreNumbered-grows old ns outer c.loop-at.invariant.grows.nodes c.requires.scope)

pub over_binder-requires-clause-value_in : goal.over_binder-requires-clause-value_in
unfolding scope_in
over_binder-requires-clause-value_in c =
    let xs = c.args.binders.now in
    let i = c.loop-at.at - 1 in
    let bs = nbinders_of xs in
    let upto = nbinders_of (take c.loop-at.at xs) in
    let p = nbinders_of (take i xs) in
    let b = nbinder_of c.index-binders-at.result in
    let rest = nbinders_of (drop (i + 1) xs) in
    let r : Reached bs upto p b rest = reached xs i c.loop-at.at c.index-binders-at.result (omega arith) (omega arith) c.index-binders-at.is in
    let outer = kinds_of c.args.self.now.kinds.now in
    let own = c.as_slice-own.result.now in
    let kinds : c.before-counts.result.kinds ≡ type_count p = omega (arith, kinds_counted bs upto p b rest r) in
    let same : own_kinds own ≡ binder_kinds bs = ap own_kinds c.as_slice-own.ensures ∙ c.requires.entered_in.kinds in
    let here : reverse (own_kinds (take c.before-counts.result.kinds own)) ++ outer ≡ kinds_past p outer = kinds_there bs upto p b rest r own outer c.before-counts.result.kinds same kinds in
    let ns = nodes_of c.loop-at.types in
    let values : c.before-counts.result.values ≡ value_count p = omega (arith, values_counted bs upto p b rest r) in
    let now = entered_grows (nodes_of c.args.types.now) ns outer bs c.args.entered.now c.loop-at.invariant.grows.nodes c.requires.entered_in in
    let found = entered_at ns outer p b rest c.args.entered.now (subst (λ cs. IsEntered ns outer cs c.args.entered.now) r.whole now) in
    subst (λ ks. IsValueAt ns ks b c.as_slice-values.result.now c.before-counts.result.values) (sym here)
    (subst (λ j. IsValueAt ns (kinds_past p outer) b c.as_slice-values.result.now j) (sym values) (subst (λ ids. IsValueAt ns (kinds_past p outer) b ids (value_count p)) (sym c.as_slice-values.ensures) found))

pub over_binder-requires-clause-answer_in : goal.over_binder-requires-clause-answer_in
unfolding scope_in
over_binder-requires-clause-answer_in c =
    let xs = c.args.binders.now in
    let i = c.loop-at.at - 1 in
    let bs = nbinders_of xs in
    let upto = nbinders_of (take c.loop-at.at xs) in
    let p = nbinders_of (take i xs) in
    let b = nbinder_of c.index-binders-at.result in
    let rest = nbinders_of (drop (i + 1) xs) in
    let r : Reached bs upto p b rest = reached xs i c.loop-at.at c.index-binders-at.result (omega arith) (omega arith) c.index-binders-at.is in
    let outer = kinds_of c.args.self.now.kinds.now in
    let own = c.as_slice-own.result.now in
    let kinds : c.before-counts.result.kinds ≡ type_count p = omega (arith, kinds_counted bs upto p b rest r) in
    let same : own_kinds own ≡ binder_kinds bs = ap own_kinds c.as_slice-own.ensures ∙ c.requires.entered_in.kinds in
    let here : reverse (own_kinds (take c.before-counts.result.kinds own)) ++ outer ≡ kinds_past p outer = kinds_there bs upto p b rest r own outer c.before-counts.result.kinds same kinds in
    let ns = nodes_of c.loop-at.types in
    subst (λ ks. IsTypeAt ns (kinds_behind b ks) c.loop-at.whole.0) (sym here)
    (subst (λ ks. IsTypeAt ns ks c.loop-at.whole.0) (kinds_upto bs upto p b rest r outer) c.loop-at.invariant.valid)

pub loop-at-preserved : goal.loop-at-preserved
unfolding scope_in
loop-at-preserved c =
    let xs = c.args.binders.now in
    let i = c.loop-at.at - 1 in
    let bs = nbinders_of xs in
    let upto = nbinders_of (take c.loop-at.at xs) in
    let p = nbinders_of (take i xs) in
    let b = nbinder_of c.index-binders-at.result in
    let rest = nbinders_of (drop (i + 1) xs) in
    let r : Reached bs upto p b rest = reached xs i c.loop-at.at c.index-binders-at.result (omega arith) (omega arith) c.index-binders-at.is in
    let outer = kinds_of c.args.self.now.kinds.now in
    let own = c.as_slice-own.result.now in
    let kinds : c.before-counts.result.kinds ≡ type_count p = omega (arith, kinds_counted bs upto p b rest r) in
    let same : own_kinds own ≡ binder_kinds bs = ap own_kinds c.as_slice-own.ensures ∙ c.requires.entered_in.kinds in
    let here : reverse (own_kinds (take c.before-counts.result.kinds own)) ++ outer ≡ kinds_past p outer = kinds_there bs upto p b rest r own outer c.before-counts.result.kinds same kinds in
    let whole = c.in_ok-whole.whole in
    let before = c.loop-at.types in
    let types = c.over_binder.new.types in record {
      within = omega arith;
      kinds = kinds;
      values = omega (arith, values_counted bs upto p b rest r);
      valid = subst (λ ks. IsTypeAt (nodes_of types) ks whole.0) here c.in_ok-whole.ensures.valid;
      view =
          ap (λ ks. over_binders p (shown types ks whole)) (sym here) ∙ ap (over_binders p) c.in_ok-whole.ensures.view
          ∙ ap (λ ks. over_binders p (over_binder b (shown before (kinds_behind b ks) c.loop-at.whole))) here
          ∙ ap (λ ks. over_binders p (over_binder b (shown before ks c.loop-at.whole))) (sym (kinds_upto bs upto p b rest r outer))
          ∙ sym (over_upto bs upto p b rest r (shown before (kinds_past upto outer) c.loop-at.whole))
          ∙ c.loop-at.invariant.view;
      grows = Grows-further c.args.types.now before types c.loop-at.invariant.grows c.in_ok-whole.ensures.grows;
    }

pub returns-clause-valid : goal.returns-clause-valid
returns-clause-valid c =
    let none : c.loop-at.at ≡ 0 = omega arith in
    let ks = scope_in c.args.self.now in
    subst (λ js. IsTypeAt (nodes_of c.loop-at.types) js c.loop-at.whole.0) (kinds_past-none ks)
    (subst (λ n. IsTypeAt (nodes_of c.loop-at.types) (kinds_past (nbinders_of (take n c.args.binders.now)) ks) c.loop-at.whole.0) none c.loop-at.invariant.valid)

pub returns-clause-view : goal.returns-clause-view
returns-clause-view c =
    let none : c.loop-at.at ≡ 0 = omega arith in
    let ks = scope_in c.args.self.now in
    ap (λ js. shown c.loop-at.types js c.loop-at.whole) (sym (kinds_past-none ks))
    ∙ ap (λ n. over_binders (nbinders_of (take n c.args.binders.now)) (shown c.loop-at.types (kinds_past (nbinders_of (take n c.args.binders.now)) ks) c.loop-at.whole)) (sym none)
    ∙ c.loop-at.invariant.view
