-- Binders gone through from the last one to the first: their values, and the type of what takes arguments for them.
use Rattle.std.proofs.Common.{◌≡◌, suc, ◌+◌, ◌<◌, List, [], ◌∷◌, ◌++◌, get_or, length, reverse, refl, sym, ap, subst, ◌∙◌, arith, append_assoc}
use Rattle.std.proofs.lemmas.List.{get_or-map, length-reverse, reverse-append}
use Rattle.fc_syntax.specs.Tree.{Kind}
use Rattle.fc_model.specs.Calling.{over_binder, over_binders, type_count}
use Rattle.fc_model.specs.Nameless.{NTy, NBinder, NBValue, NBType, NBCo}
use Rattle.fc_model.specs.Substituting.{raised_type}
use Rattle.fc_type_table.specs.Scopes.{IsTypeAt, shown_at}
use Rattle.fc_type_table.specs.declared.node.Node.{Node}
use Rattle.fc_type_table.specs.declared.node.TypeId.{TypeId}
use Rattle.fc_type_scope.specs.Behind.{IsEntered, IsValueAt, binder_kinds, binder_values, kinds_past, no_id, value_count}
use Rattle.fc_type_scope.specs.Scopes.{shown_all_at}
use Rattle.fc_type_scope.specs.declared.entering.Entered as code
use Rattle.fc_type_table.proofs.Reached.{Reached}
use Rattle.fc_type_table.proofs.BinderKinds.{binder_kinds-append, length-binder_kinds}
use Rattle.fc_type_scope.proofs.BinderLists.{length-binder_values, value_count-append}
use Rattle.fc_type_scope.proofs.Past.{IsTypeAt-earlier, shown_at-earlier}
use Rattle.fc_type_scope.proofs.Numbers.{AreTypesAt-at, length-shown_all}

module _ (bs upto p : List NBinder) (b : NBinder) (rest : List NBinder) (r : Reached bs upto p b rest) where
  pub values_counted : value_count upto ≡ value_count p + value_count (b ∷ [])
  values_counted = ap value_count r.last ∙ value_count-append p (b ∷ [])

  pub over_upto : (t : NTy) → over_binders upto t ≡ over_binders p (over_binder b t)
  over_upto t = ap (λ cs. over_binders cs t) r.last ∙ over_last p
    where
      over_last : (cs : List NBinder) → over_binders (cs ++ b ∷ []) t ≡ over_binders cs (over_binder b t)
      over_last [] = refl
      over_last (c ∷ cs) = ap (over_binder c) (over_last cs)

-- VALUES

-- the value's type is found at the number of values before it
value_there : (p : List NBinder) (t : NTy) (rest : List NBinder) (d : NTy) → get_or (binder_values (p ++ NBValue t ∷ rest)) (value_count p) d ≡ raised_type (type_count rest) t
unfolding binder_values
value_there [] t rest d = refl
value_there (NBValue s ∷ p) t rest d = value_there p t rest d
value_there (NBType k ∷ p) t rest d = value_there p t rest d
value_there (NBCo o u v ∷ p) t rest d = value_there p t rest d

-- the type variables behind a value
kinds_behind_value : (p : List NBinder) (t : NTy) (rest : List NBinder) (ks : List Kind) → kinds_past (p ++ NBValue t ∷ rest) ks ≡ reverse (binder_kinds rest) ++ kinds_past p ks
unfolding kinds_past binder_kinds
kinds_behind_value p t rest ks =
    ap (λ js. reverse js ++ ks) (binder_kinds-append p (NBValue t ∷ rest)) ∙ ap (λ js. js ++ ks) (reverse-append (binder_kinds p) (binder_kinds rest))
    ∙ append_assoc (reverse (binder_kinds rest)) (reverse (binder_kinds p)) ks

value_at : (ns : List Node) (ks : List Kind) (p : List NBinder) (t : NTy) (rest : List NBinder) (e : code.Entered) → IsEntered ns ks (p ++ NBValue t ∷ rest) e → IsValueAt ns (kinds_past p ks) (NBValue t) e.values (value_count p)
unfolding shown_all_at
value_at ns ks p t rest e en =
    let bs = p ++ NBValue t ∷ rest in
    let i = value_count p in
    let id = get_or e.values i no_id in
    let js = reverse (binder_kinds rest) in
    let n : length js ≡ type_count rest = length-reverse (binder_kinds rest) ∙ length-binder_kinds rest in
    let many : length e.values ≡ value_count p + suc (value_count rest) =
    sym (length-shown_all ns (kinds_past bs ks) e.values) ∙ ap length en.view ∙ length-binder_values bs ∙ value_count-append p (NBValue t ∷ rest) in
    let low : i < length e.values = omega arith in
    let valid : IsTypeAt ns (js ++ kinds_past p ks) id.0 = subst (λ ls. IsTypeAt ns ls id.0) (kinds_behind_value p t rest ks) (AreTypesAt-at ns (kinds_past bs ks) e.values i no_id low en.valid) in
    let shows : shown_at ns (kinds_past bs ks) id.0 ≡ raised_type (type_count rest) t =
    sym (get_or-map (λ (x : TypeId). shown_at ns (kinds_past bs ks) x.0) e.values i no_id t low) ∙ ap (λ ts. get_or ts i t) en.view ∙ value_there p t rest t in
    let view : shown_at ns (js ++ kinds_past p ks) id.0 ≡ raised_type (length js) t =
    ap (λ ls. shown_at ns ls id.0) (sym (kinds_behind_value p t rest ks)) ∙ shows ∙ ap (λ m. raised_type m t) (sym n) in
    (low, IsTypeAt-earlier ns js (kinds_past p ks) id.0 t valid view, shown_at-earlier ns js (kinds_past p ks) id.0 t valid view)

pub counted_values : (ns : List Node) (ks : List Kind) (bs : List NBinder) (e : code.Entered) → IsEntered ns ks bs e → length e.values ≡ value_count bs
counted_values ns ks bs e en = sym (length-shown_all ns (kinds_past bs ks) e.values) ∙ ap length en.view ∙ length-binder_values bs

-- what was entered has the binder's value at its place
pub entered_at : (ns : List Node) (ks : List Kind) (p : List NBinder) (b : NBinder) (rest : List NBinder) (e : code.Entered) → IsEntered ns ks (p ++ b ∷ rest) e → IsValueAt ns (kinds_past p ks) b e.values (value_count p)
entered_at ns ks p (NBValue t) rest e en = value_at ns ks p t rest e en
entered_at ns ks p (NBType k) rest e en = tt
entered_at ns ks p (NBCo o t u) rest e en = tt
