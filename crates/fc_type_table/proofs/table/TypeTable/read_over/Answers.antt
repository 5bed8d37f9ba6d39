use Rattle.std.proofs.Common.{◌≡◌, ◌∙◌, ◌++◌, [], ◌∷◌, ◌+◌, ◌-◌, ◌<◌, ℕ, Ok, refl, arith, drop, length, reverse, sym, ap, take}
use Rattle.std.proofs.Math.Seq.{drop-length, take-length}
use Rattle.std.proofs.lemmas.List.{length-map, length-take}
use Rattle.fc_model.specs.Calling.{binders_to, over_binders, type_count}
use Rattle.fc_model.specs.Nameless.{NTy}
use Rattle.fc_model.specs.NamelessView.{nbinder_of, nbinders_of}
use Rattle.fc_model.specs.Substituting.{raised_type}
use Rattle.fc_syntax.specs.View.{kind_of}
use Rattle.fc_type_table.specs.InScope.{kinds_of, numbered_of, own_kinds}
use Rattle.fc_type_table.specs.declared.numbered.NumberedKind.{NumberedKind}
use Rattle.fc_type_table.specs.Binders.{kinds_past, tree_over}
use Rattle.fc_type_table.specs.Nodes.{tree_at}
use Rattle.fc_type_table.specs.Scopes.{leveled, shown_at}
use Rattle.fc_type_table.specs.TypeTables.{nodes_of, shown}
use Rattle.fc_type_table.proofs.BinderKinds.{length-binder_kinds}
use Rattle.fc_type_table.proofs.KindsInScope.{AreNumbered-behind, AreNumbered-grows, AreNumbered-take}
use Rattle.fc_type_table.proofs.Numbers.{Extends-further, Extends-refl}
use Rattle.fc_type_table.proofs.Overs.{answer_scoped, answer_tree, binder_first, binder_tree, whole_tree}
use Rattle.fc_type_table.proofs.Reached.{Reached, kinds_before, kinds_counted, kinds_there, kinds_upto, reached}
use Rattle.fc_type_table.proofs.Shown.{read_valid, read_view}
use Rattle.fc_type_table.proofs.table.TypeTable.read_over.Goals as goal

pub loop-at-init : goal.loop-at-init
unfolding shown_at
loop-at-init c =
    let xs = c.args.binders.now in
    let ks = kinds_of c.args.outer.now in
    let all : take (length xs) xs ≡ xs = take-length xs in
    let none : drop (length xs) xs ≡ [] = drop-length xs in
    let counted : c.in-Ok.count ≡ type_count (nbinders_of xs) =
    c.in-Ok.ensures.1 ∙ sym (length-map c.args.own.now (λ (j : NumberedKind). kind_of j.kind.now)) ∙ ap length c.requires.own ∙ length-binder_kinds (nbinders_of xs) in
    let t : NTy = raised_type (type_count (nbinders_of xs)) (shown c.args.self.now ks c.args.answer) in
    record {
      in_range = omega arith;
      count = counted ∙ ap (λ ys. type_count (nbinders_of ys)) (sym all);
      within = c.requires.answer_in.within;
      so_far = answer_tree ks (nbinders_of xs) c.args.variables c.in-Ok.count (tree_at c.args.self.now.nodes.keys c.args.answer.0) c.requires.count counted c.requires.answer_in.scoped
          ∙ ap (λ ys. leveled c.args.variables (kinds_past (nbinders_of ys) ks) c.in-Ok.count t) (sym all)
          ∙ ap (λ ys. leveled c.args.variables (kinds_past (nbinders_of (take (length xs) xs)) ks) c.in-Ok.count (over_binders (nbinders_of ys) t)) (sym none);
      extends = Extends-refl c.args.self.now.nodes.keys;
      modules = refl;
    }

pub count_before-count-requires : goal.count_before-count-requires
count_before-count-requires c =
    let xs = c.args.binders.now in
    let i = c.loop-at.at - 1 in
    let upto = nbinders_of (take c.loop-at.at xs) in
    let p = nbinders_of (take i xs) in
    let b = nbinder_of c.index-binders-at.result in
    let rest = nbinders_of (drop (i + 1) xs) in
    let r : Reached (nbinders_of xs) upto p b rest = reached xs i c.loop-at.at c.index-binders-at.result (omega arith) (omega arith) c.index-binders-at.is in
    omega (arith, kinds_counted (nbinders_of xs) upto p b rest r)

pub slice_bounds-kinds-end : goal.slice_bounds-kinds-end
slice_bounds-kinds-end c =
    let xs = c.args.binders.now in
    let i = c.loop-at.at - 1 in
    let bs = nbinders_of xs in
    let upto = nbinders_of (take c.loop-at.at xs) in
    let p = nbinders_of (take i xs) in
    let b = nbinder_of c.index-binders-at.result in
    let rest = nbinders_of (drop (i + 1) xs) in
    let r : Reached bs upto p b rest = reached xs i c.loop-at.at c.index-binders-at.result (omega arith) (omega arith) c.index-binders-at.is in
    let counted : c.count_before-count.result ≡ type_count p = omega (arith, kinds_counted bs upto p b rest r) in
    omega (arith, length-take c.count_before-count.result c.args.own.now, kinds_before bs upto p b rest r c.args.own.now c.requires.own)

pub loop-at-preserved : goal.loop-at-preserved
loop-at-preserved c =
    let xs = c.args.binders.now in
    let i = c.loop-at.at - 1 in
    let low : i < length xs = omega arith in
    let x = c.index-binders-at.result in
    let bs = nbinders_of xs in
    let upto = nbinders_of (take c.loop-at.at xs) in
    let p = nbinders_of (take i xs) in
    let b = nbinder_of x in
    let rest = nbinders_of (drop (i + 1) xs) in
    let next : c.loop-at.at ≡ i + 1 = omega arith in
    let r : Reached bs upto p b rest = reached xs i c.loop-at.at x low next c.index-binders-at.is in
    let n = c.args.variables in
    let outer = kinds_of c.args.outer.now in
    let old = c.loop-at.self.nodes.keys in
    let new = c.over_binder.new.self.nodes.keys in
    let count = c.count_before-count.result in
    let counted : count ≡ type_count p = omega (arith, kinds_counted bs upto p b rest r) in
    let more : c.loop-at.count ≡ count + type_count (b ∷ []) = omega (arith, kinds_counted bs upto p b rest r) in
    let here : reverse (own_kinds (take count c.args.own.now)) ++ outer ≡ kinds_past p outer = kinds_there bs upto p b rest r c.args.own.now outer count c.requires.own counted in
    let s : NTy = raised_type (type_count bs) (shown c.args.self.now outer c.args.answer) in
    let t : NTy = over_binders rest s in
    let was = c.loop-at.invariant.so_far in
    let at = c.in_ok-whole.ensures in
    record {
      in_range = omega arith;
      count = counted;
      within = at.within;
      so_far = at.shown
          ∙ ap (λ ks. tree_over n ks count b (tree_at old c.loop-at.whole.0)) here
          ∙ ap (tree_over n (kinds_past p outer) count b) (was ∙ ap (λ j. leveled n (kinds_past upto outer) c.loop-at.count (over_binders (nbinders_of (drop j xs)) s)) next
          ∙ ap (λ ks. leveled n ks c.loop-at.count t) (kinds_upto bs upto p b rest r outer))
          ∙ binder_tree n (kinds_past p outer) count c.loop-at.count b t more
          ∙ ap (λ cs. leveled n (kinds_past p outer) count (over_binders cs s)) (sym (binder_first xs i x low c.index-binders-at.is));
      extends = Extends-further c.args.self.now.nodes.keys old new c.loop-at.invariant.extends at.extends;
      modules = at.modules ∙ c.loop-at.invariant.modules;
    }

pub returns-clause-valid : goal.returns-clause-valid
unfolding shown_at
returns-clause-valid c =
    let xs = c.args.binders.now in
    let bs = nbinders_of xs in
    let ks = kinds_of c.args.outer.now in
    let t = tree_at c.args.self.now.nodes.keys c.args.answer.0 in
    let n = c.args.variables in
    let answer = shown c.args.self.now ks c.args.answer in
    let i = c.loop-at.invariant in
    let w = tree_at c.loop-at.self.nodes.keys c.loop-at.whole.0 in
    read_valid {E = ℕ} (Ok c.loop-at.whole) c.loop-at.self.nodes.keys ks n (binders_to bs answer) c.requires.count (answer_scoped ks n bs t c.requires.count c.requires.scoped c.requires.answer_in.scoped)
    i.within (whole_tree n ks xs c.loop-at.at c.loop-at.count (raised_type (type_count bs) answer) w (omega arith) i.count i.so_far)

pub returns-clause-view : goal.returns-clause-view
unfolding shown_at
returns-clause-view c =
    let xs = c.args.binders.now in
    let bs = nbinders_of xs in
    let ks = kinds_of c.args.outer.now in
    let t = tree_at c.args.self.now.nodes.keys c.args.answer.0 in
    let n = c.args.variables in
    let answer = shown c.args.self.now ks c.args.answer in
    let i = c.loop-at.invariant in
    let w = tree_at c.loop-at.self.nodes.keys c.loop-at.whole.0 in
    read_view {E = ℕ} (Ok c.loop-at.whole) c.loop-at.self.nodes.keys ks n (binders_to bs answer) c.requires.count (answer_scoped ks n bs t c.requires.count c.requires.scoped c.requires.answer_in.scoped)
    (whole_tree n ks xs c.loop-at.at c.loop-at.count (raised_type (type_count bs) answer) w (omega arith) i.count i.so_far)

pub over_binder-requires-clause-numbered : goal.over_binder-requires-clause-numbered
over_binder-requires-clause-numbered c =
    let old = nodes_of c.args.self.now in
    let ns = nodes_of c.loop-at.self in
    let outer = numbered_of c.args.outer.now in
    let own = AreNumbered-grows old ns c.args.own.now c.loop-at.invariant.extends c.requires.own_numbered in
    AreNumbered-behind ns (take c.count_before-count.result c.args.own.now) outer (AreNumbered-take ns c.count_before-count.result c.args.own.now own)
    (AreNumbered-grows old ns outer c.loop-at.invariant.extends c.requires.outer_numbered)
