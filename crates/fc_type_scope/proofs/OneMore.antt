-- One binder more is entered behind those that were entered before it.
use Rattle.std.proofs.Common.{◌≡◌, List, [], ◌∷◌, ◌++◌, map, reverse, refl, sym, ap, subst, ◌∙◌}
use Rattle.fc_syntax.specs.Tree.{Kind}
use Rattle.fc_syntax.specs.declared.ty.Role.{Role}
use Rattle.fc_model.specs.Coercing.{Ends, ends}
use Rattle.fc_model.specs.Nameless.{NTy, NBinder, NBValue, NBType, NBCo}
use Rattle.fc_model.specs.Substituting.{raised_type}
use Rattle.fc_type_table.specs.InScope.{AreNumbered, own_kinds}
use Rattle.fc_type_table.specs.Nodes.{Extends}
use Rattle.fc_type_table.specs.Scopes.{IsTypeAt, shown_at}
use Rattle.fc_type_table.specs.declared.node.Node.{Node}
use Rattle.fc_type_table.specs.declared.node.TypeId.{TypeId}
use Rattle.fc_type_scope.specs.Behind.{IsEntered, binder_coercions, binder_kinds, binder_values, kinds_past, raised_ends}
use Rattle.fc_type_scope.specs.EndViews.{AreEndsAt, IsEndsAt, shown_all_ends_at, shown_ends_at}
use Rattle.fc_type_scope.specs.Scopes.{AreTypesAt, shown_all_at}
use Rattle.fc_type_scope.specs.declared.ends.Ends as proven
use Rattle.fc_type_scope.specs.declared.entering.Entered as code
use Rattle.fc_type_table.proofs.BinderKinds.{binder_kinds-append, kinds_past-last}
use Rattle.fc_type_table.proofs.KindsInScope.{AreNumbered-grows, AreNumbered-none}
use Rattle.fc_type_scope.proofs.BinderLists.{binder_coercions-one, binder_coercions-type, binder_coercions-value, binder_values-coercion, binder_values-type, binder_values-value}
use Rattle.fc_type_scope.proofs.Numbers.{AreTypesAt-grows, AreTypesAt-none, AreTypesAt-past, AreTypesAt-push, shown_all-grows, shown_all-none, shown_all-past, shown_all-push}
use Rattle.fc_type_scope.proofs.Proven.{AreEndsAt-grows, AreEndsAt-none, AreEndsAt-past, AreEndsAt-push, shown_all_ends-grows, shown_all_ends-none, shown_all_ends-past, shown_all_ends-push}
use Rattle.std.proofs.lemmas.List.{append-nil}

-- where types stand behind one binder more
abbrev Typed : List Node → List NTy → List TypeId → List Kind → Type 0
Typed ns ts ids ks = AreTypesAt ns ks ids × (shown_all_at ns ks ids ≡ ts)

-- where coercions prove behind one binder more
abbrev Proven : List Node → List Ends → List proven.Ends → List Kind → Type 0
Proven ns ds es ks = AreEndsAt ns ks es × (shown_all_ends_at ns ks es ≡ ds)

-- the kinds behind what was entered are those behind its binders
pub behind_entered : (ns : List Node) (ks behind : List Kind) (bs : List NBinder) (e : code.Entered) → IsEntered ns ks bs e → behind ≡ reverse (own_kinds e.kinds) ++ ks → behind ≡ kinds_past bs ks
unfolding kinds_past
behind_entered ns ks behind bs e en b = b ∙ ap (λ js. reverse js ++ ks) en.kinds

-- a table that grows keeps what was entered
pub entered_grows : (old new : List Node) (ks : List Kind) (bs : List NBinder) (e : code.Entered) → Extends old new → IsEntered old ks bs e → IsEntered new ks bs e
entered_grows old new ks bs e x en = record {
  kinds = en.kinds;
  numbered = AreNumbered-grows old new e.kinds x en.numbered;
  valid = AreTypesAt-grows old new (kinds_past bs ks) e.values x en.valid;
  view = shown_all-grows old new (kinds_past bs ks) e.values x en.valid ∙ en.view;
  coercions_valid = AreEndsAt-grows old new (kinds_past bs ks) e.coercions x en.coercions_valid;
  coercions_view = shown_all_ends-grows old new (kinds_past bs ks) e.coercions x en.coercions_valid ∙ en.coercions_view;
}

-- none
pub entered_none : (ns : List Node) (ks : List Kind) (e : code.Entered) → e.kinds ≡ [] → e.coercions ≡ [] → e.values ≡ [] → IsEntered ns ks [] e
unfolding binder_kinds binder_values binder_coercions
entered_none ns ks e k p v = record {
  kinds = ap own_kinds k;
  numbered = subst (AreNumbered ns) (sym k) (AreNumbered-none ns);
  valid = subst (AreTypesAt ns (kinds_past [] ks)) (sym v) (AreTypesAt-none ns (kinds_past [] ks));
  view = ap (shown_all_at ns (kinds_past [] ks)) v ∙ shown_all-none ns (kinds_past [] ks);
  coercions_valid = subst (AreEndsAt ns (kinds_past [] ks)) (sym p) (AreEndsAt-none ns (kinds_past [] ks));
  coercions_view = ap (shown_all_ends_at ns (kinds_past [] ks)) p ∙ shown_all_ends-none ns (kinds_past [] ks);
}

-- a value, whose type was read behind the others, while the table grew
pub entered_value : (old new : List Node) (ks : List Kind) (bs : List NBinder) (e more : code.Entered) (id : TypeId) (t : NTy) → IsEntered old ks bs e → Extends old new
    → IsTypeAt new (kinds_past bs ks) id.0 → shown_at new (kinds_past bs ks) id.0 ≡ t → more.kinds ≡ e.kinds → more.coercions ≡ e.coercions → more.values ≡ e.values ++ id ∷ [] → IsEntered new ks (bs ++ NBValue t ∷ []) more
unfolding binder_kinds
entered_value old new ks bs e more id t en x v s k p i =
    let here : kinds_past (bs ++ NBValue t ∷ []) ks ≡ kinds_past bs ks = kinds_past-last bs (NBValue t) ks in
    let all : Typed new (binder_values (bs ++ NBValue t ∷ [])) more.values (kinds_past bs ks) = (
      AreTypesAt-push old new (kinds_past bs ks) e.values more.values id x en.valid v i,
      shown_all-push old new (kinds_past bs ks) e.values more.values id t x en.valid s i ∙ ap (λ ts. ts ++ t ∷ []) en.view ∙ sym (binder_values-value bs t),
    ) in
    let there = subst (Typed new (binder_values (bs ++ NBValue t ∷ [])) more.values) (sym here) all in
    let same : Proven new (binder_coercions (bs ++ NBValue t ∷ [])) e.coercions (kinds_past bs ks) = (
      AreEndsAt-grows old new (kinds_past bs ks) e.coercions x en.coercions_valid,
      shown_all_ends-grows old new (kinds_past bs ks) e.coercions x en.coercions_valid ∙ en.coercions_view ∙ sym (binder_coercions-value bs t),
    ) in
    let proved = subst (λ es. Proven new (binder_coercions (bs ++ NBValue t ∷ [])) es (kinds_past (bs ++ NBValue t ∷ []) ks)) (sym p)
    (subst (Proven new (binder_coercions (bs ++ NBValue t ∷ [])) e.coercions) (sym here) same) in record {
      kinds = ap own_kinds k ∙ en.kinds ∙ sym (binder_kinds-append bs (NBValue t ∷ []) ∙ append-nil (binder_kinds bs));
      numbered = subst (AreNumbered new) (sym k) (AreNumbered-grows old new e.kinds x en.numbered);
      valid = there.0;
      view = there.1;
      coercions_valid = proved.0;
      coercions_view = proved.1;
    }

-- a type variable, whose kind was numbered while the table grew, and past which the types of the values are raised
pub entered_type : (old ns : List Node) (ks : List Kind) (bs : List NBinder) (e more : code.Entered) (k : Kind) → IsEntered old ks bs e → Extends old ns → AreNumbered ns more.kinds
    → own_kinds more.kinds ≡ own_kinds e.kinds ++ binder_kinds (NBType k ∷ []) → more.coercions ≡ e.coercions → more.values ≡ e.values → IsEntered ns ks (bs ++ NBType k ∷ []) more
unfolding binder_kinds
entered_type old ns ks bs e more k was x numbered j p i =
    let en = entered_grows old ns ks bs e x was in
    let here : kinds_past (bs ++ NBType k ∷ []) ks ≡ k ∷ kinds_past bs ks = kinds_past-last bs (NBType k) ks in
    let all : Typed ns (binder_values (bs ++ NBType k ∷ [])) e.values (k ∷ kinds_past bs ks) = (
      AreTypesAt-past ns (k ∷ []) (kinds_past bs ks) e.values en.valid,
      shown_all-past ns (k ∷ []) (kinds_past bs ks) e.values en.valid ∙ ap (map (raised_type 1)) en.view ∙ sym (binder_values-type bs k),
    ) in
    let there = subst (λ ids. Typed ns (binder_values (bs ++ NBType k ∷ [])) ids (kinds_past (bs ++ NBType k ∷ []) ks)) (sym i)
    (subst (Typed ns (binder_values (bs ++ NBType k ∷ [])) e.values) (sym here) all) in
    let moved : Proven ns (binder_coercions (bs ++ NBType k ∷ [])) e.coercions (k ∷ kinds_past bs ks) = (
      AreEndsAt-past ns (k ∷ []) (kinds_past bs ks) e.coercions en.coercions_valid,
      shown_all_ends-past ns (k ∷ []) (kinds_past bs ks) e.coercions en.coercions_valid ∙ ap (map (raised_ends 1)) en.coercions_view ∙ sym (binder_coercions-type bs k),
    ) in
    let proved = subst (λ es. Proven ns (binder_coercions (bs ++ NBType k ∷ [])) es (kinds_past (bs ++ NBType k ∷ []) ks)) (sym p)
    (subst (Proven ns (binder_coercions (bs ++ NBType k ∷ [])) e.coercions) (sym here) moved) in record {
      kinds = j ∙ ap (λ js. js ++ k ∷ []) en.kinds ∙ sym (binder_kinds-append bs (NBType k ∷ []));
      numbered = numbered;
      valid = there.0;
      view = there.1;
      coercions_valid = proved.0;
      coercions_view = proved.1;
    }

-- a coercion, whose ends were read behind the others, while the table grew
pub entered_coercion : (old new : List Node) (ks : List Kind) (bs : List NBinder) (e more : code.Entered) (d : proven.Ends) (r : Role) (t u : NTy) → IsEntered old ks bs e → Extends old new
    → IsEndsAt new (kinds_past bs ks) d → shown_ends_at new (kinds_past bs ks) d ≡ ends r t u → more.kinds ≡ e.kinds → more.coercions ≡ e.coercions ++ d ∷ [] → more.values ≡ e.values
    → IsEntered new ks (bs ++ NBCo r t u ∷ []) more
unfolding binder_kinds binder_values
entered_coercion old new ks bs e more d r t u en x v s k p i =
    let b = NBCo r t u in
    let here : kinds_past (bs ++ b ∷ []) ks ≡ kinds_past bs ks = kinds_past-last bs b ks in
    let same : Typed new (binder_values (bs ++ b ∷ [])) e.values (kinds_past bs ks) = (
      AreTypesAt-grows old new (kinds_past bs ks) e.values x en.valid,
      shown_all-grows old new (kinds_past bs ks) e.values x en.valid ∙ en.view ∙ sym (binder_values-coercion bs b refl refl),
    ) in
    let there = subst (λ ids. Typed new (binder_values (bs ++ b ∷ [])) ids (kinds_past (bs ++ b ∷ []) ks)) (sym i) (subst (Typed new (binder_values (bs ++ b ∷ [])) e.values) (sym here) same) in
    let all : Proven new (binder_coercions (bs ++ b ∷ [])) more.coercions (kinds_past bs ks) = (
      AreEndsAt-push old new (kinds_past bs ks) e.coercions more.coercions d x en.coercions_valid v p,
      shown_all_ends-push old new (kinds_past bs ks) e.coercions more.coercions d (ends r t u) x en.coercions_valid s p ∙ ap (λ es. es ++ ends r t u ∷ []) en.coercions_view ∙ sym (binder_coercions-one bs r t u),
    ) in
    let proved = subst (Proven new (binder_coercions (bs ++ b ∷ [])) more.coercions) (sym here) all in record {
      kinds = ap own_kinds k ∙ en.kinds ∙ sym (binder_kinds-append bs (b ∷ []) ∙ append-nil (binder_kinds bs));
      numbered = subst (AreNumbered new) (sym k) (AreNumbered-grows old new e.kinds x en.numbered);
      valid = there.0;
      view = there.1;
      coercions_valid = proved.0;
      coercions_view = proved.1;
    }
