-- What stands behind binders: types from before them, lists of types, and a whole context.
use Rattle.std.proofs.Common.{◌≡◌, ℕ, suc, List, [], ◌∷◌, ◌++◌, length, map, reverse, refl, sym, ap, ◌∙◌, append_assoc}
use Rattle.std.proofs.lemmas.Grind.{reverse_onto}
use Rattle.std.proofs.lemmas.List.{length-reverse}
use Rattle.fc_syntax.specs.Tree.{Kind}
use Rattle.fc_model.specs.Calling.{type_count}
use Rattle.fc_model.specs.Coercing.{Ends, ends, shifted_ends}
use Rattle.fc_model.specs.Nameless.{NTy, NBinder, NBValue, NBType, NBCo}
use Rattle.fc_model.specs.Substituting.{raised_type, shifted_type}
use Rattle.fc_model.specs.Typing.{Context, JoinPoint, shifted_join, with_binders, with_coercion, with_type, with_value}
use Rattle.fc_type_table.specs.InScope.{kinds_of, own_kinds}
use Rattle.fc_type_table.specs.TypeTables.{IsType, shown}
use Rattle.fc_type_table.specs.TypeTables.{nodes_of}
use Rattle.fc_type_table.specs.declared.node.Node.{Node}
use Rattle.fc_type_table.specs.declared.node.TypeId.{TypeId}
use Rattle.fc_type_table.specs.declared.table.TypeTable.{TypeTable}
use Rattle.fc_type_scope.specs.Behind.{IsEntered, binder_coercions, binder_kinds, binder_values, context_past, kinds_past, raised_ends, raised_join}
use Rattle.fc_type_scope.specs.Scopes.{AreTypes, scope_in, shown_all}
use Rattle.fc_type_scope.specs.declared.entering.Entered as code
use Rattle.fc_type_scope.specs.declared.scope.TypeScope as scopes
use Rattle.fc_type_table.proofs.BinderKinds.{kinds_past-first, kinds_past-none, length-binder_kinds}
use Rattle.fc_type_scope.proofs.BinderLists.{all_ends_raised_none, all_raised_none}
use Rattle.fc_type_scope.proofs.Numbers.{AreTypesAt-behind, AreTypesAt-past, shown_all-behind, shown_all-past}
use Rattle.fc_type_scope.proofs.Past.{IsTypeAt-past, shown_at-past}
use Rattle.fc_type_scope.proofs.Raising.{raised_none}
use Rattle.fc_type_scope.proofs.Raising.{raised_shifted}

-- SCOPES

-- a scope has the kinds that it was made of
pub scope_in-is : (s : scopes.TypeScope) (ks : List Kind) → kinds_of s.kinds.now ≡ ks → scope_in s ≡ ks
unfolding scope_in
scope_in-is s ks e = e

-- the type variables behind what was entered are those behind its binders
pub entered_kinds : (ns : List Node) (ks : List Kind) (bs : List NBinder) (e : code.Entered) → IsEntered ns ks bs e → reverse (own_kinds e.kinds) ++ ks ≡ kinds_past bs ks
unfolding kinds_past
entered_kinds ns ks bs e en = ap (λ js. reverse js ++ ks) en.kinds

behind_count : (bs : List NBinder) → length (reverse (binder_kinds bs)) ≡ type_count bs
behind_count bs = length-reverse (binder_kinds bs) ∙ length-binder_kinds bs

-- NUMBERS

-- a number stays right behind binders, and what it shows is raised past their type variables
pub IsType-behind : (types : TypeTable) (bs : List NBinder) (ks : List Kind) (id : TypeId) → IsType types ks id → IsType types (kinds_past bs ks) id
unfolding kinds_past
IsType-behind types bs ks id t = IsTypeAt-past (nodes_of types) (reverse (binder_kinds bs)) ks id.0 t

pub shown-behind : (types : TypeTable) (bs : List NBinder) (ks : List Kind) (id : TypeId) → IsType types ks id → shown types (kinds_past bs ks) id ≡ raised_type (type_count bs) (shown types ks id)
unfolding kinds_past
shown-behind types bs ks id t = shown_at-past (nodes_of types) (reverse (binder_kinds bs)) ks id.0 t ∙ ap (λ m. raised_type m (shown types ks id)) (behind_count bs)

pub AreTypes-behind : (types : TypeTable) (bs : List NBinder) (ks : List Kind) (ids : List TypeId) → AreTypes types ks ids → AreTypes types (kinds_past bs ks) ids
unfolding kinds_past
AreTypes-behind types bs ks ids ts = AreTypesAt-past (nodes_of types) (reverse (binder_kinds bs)) ks ids ts

pub shown_all-raised : (types : TypeTable) (bs : List NBinder) (ks : List Kind) (ids : List TypeId) → AreTypes types ks ids → shown_all types (kinds_past bs ks) ids ≡ map (raised_type (type_count bs)) (shown_all types ks ids)
unfolding kinds_past
shown_all-raised types bs ks ids ts = shown_all-past (nodes_of types) (reverse (binder_kinds bs)) ks ids ts ∙ ap (λ m. map (raised_type m) (shown_all types ks ids)) (behind_count bs)

-- the values that were entered, the last one innermost, before those from outside
pub entered_valid : (types : TypeTable) (bs : List NBinder) (ks : List Kind) (e : code.Entered) (outer : List TypeId) → IsEntered (nodes_of types) ks bs e → AreTypes types ks outer
    → AreTypes types (kinds_past bs ks) (reverse e.values ++ outer)
entered_valid types bs ks e outer en ts = AreTypesAt-behind (nodes_of types) (kinds_past bs ks) e.values outer en.valid (AreTypes-behind types bs ks outer ts)

pub entered_shown : (types : TypeTable) (bs : List NBinder) (ks : List Kind) (e : code.Entered) (outer : List TypeId) → IsEntered (nodes_of types) ks bs e → AreTypes types ks outer
    → shown_all types (kinds_past bs ks) (reverse e.values ++ outer) ≡ reverse (binder_values bs) ++ map (raised_type (type_count bs)) (shown_all types ks outer)
entered_shown types bs ks e outer en ts =
    shown_all-behind (nodes_of types) (kinds_past bs ks) e.values outer ∙ ap (λ us. reverse us ++ shown_all types (kinds_past bs ks) outer) en.view
    ∙ ap (λ us. reverse (binder_values bs) ++ us) (shown_all-raised types bs ks outer ts)

-- CONTEXTS

-- a join point and a context by their parts
joined : ℕ → NTy → NTy → JoinPoint
joined n t u = record { arity = n; type = t; result = u }

same_join : (j k : JoinPoint) → j.arity ≡ k.arity → j.type ≡ k.type → j.result ≡ k.result → j ≡ k
unfolding joined
same_join j k n t u = ap (λ m. joined m j.type j.result) n ∙ ap (λ v. joined k.arity v j.result) t ∙ ap (λ v. joined k.arity k.type v) u

context_of : List Kind → List Ends → List NTy → List JoinPoint → Context
context_of ks es ts js = record { kinds = ks; coercions = es; values = ts; joins = js }

pub same_context : (c d : Context) → c.kinds ≡ d.kinds → c.coercions ≡ d.coercions → c.values ≡ d.values → c.joins ≡ d.joins → c ≡ d
unfolding context_of
same_context c d k p v j =
    ap (λ ks. context_of ks c.coercions c.values c.joins) k ∙ ap (λ es. context_of d.kinds es c.values c.joins) p ∙ ap (λ ts. context_of d.kinds d.coercions ts c.joins) v
    ∙ ap (λ js. context_of d.kinds d.coercions d.values js) j

all_ends_raised_shifted : (m : ℕ) (es : List Ends) → map (raised_ends m) (map shifted_ends es) ≡ map (raised_ends (suc m)) es
all_ends_raised_shifted m [] = refl
all_ends_raised_shifted m (e ∷ es) = cc (raised_shifted m e.left, raised_shifted m e.right, all_ends_raised_shifted m es)

all_joins_raised_none : (js : List JoinPoint) → map (raised_join 0) js ≡ js
all_joins_raised_none [] = refl
all_joins_raised_none (j ∷ js) = cc (same_join (raised_join 0 j) j refl (raised_none j.type) (raised_none j.result), all_joins_raised_none js)

all_raised_shifted : (m : ℕ) (ts : List NTy) → map (raised_type m) (map shifted_type ts) ≡ map (raised_type (suc m)) ts
all_raised_shifted m [] = refl
all_raised_shifted m (t ∷ ts) = cc (raised_shifted m t, all_raised_shifted m ts)

all_joins_raised_shifted : (m : ℕ) (js : List JoinPoint) → map (raised_join m) (map shifted_join js) ≡ map (raised_join (suc m)) js
all_joins_raised_shifted m [] = refl
all_joins_raised_shifted m (j ∷ js) =
    cc (same_join (raised_join m (shifted_join j)) (raised_join (suc m) j) refl (raised_shifted m j.type) (raised_shifted m j.result), all_joins_raised_shifted m js)

-- what binders bring to a context, all at once
pub with_binders-is : (bs : List NBinder) (c : Context) → with_binders bs c ≡ context_past bs c
unfolding context_past binder_values binder_coercions
with_binders-is [] c =
    same_context _ _ (sym (kinds_past-none c.kinds)) (sym (all_ends_raised_none c.coercions)) (sym (all_raised_none c.values)) (sym (all_joins_raised_none c.joins))
with_binders-is (NBValue t ∷ bs) c =
    let m = type_count bs in
    with_binders-is bs (with_value t c)
    ∙ same_context _ _ (sym (kinds_past-first (NBValue t) bs c.kinds)) refl
    (sym (ap (λ ts. ts ++ map (raised_type m) c.values) (reverse_onto (binder_values bs) (raised_type m t) []) ∙ append_assoc (reverse (binder_values bs)) (raised_type m t ∷ []) (map (raised_type m) c.values))) refl
with_binders-is (NBType k ∷ bs) c =
    let m = type_count bs in
    with_binders-is bs (with_type k c)
    ∙ same_context _ _ (sym (kinds_past-first (NBType k) bs c.kinds)) (ap (λ es. reverse (binder_coercions bs) ++ es) (all_ends_raised_shifted m c.coercions)) (ap (λ ts. reverse (binder_values bs) ++ ts) (all_raised_shifted m c.values)) (all_joins_raised_shifted m c.joins)
with_binders-is (NBCo r t u ∷ bs) c =
    let m = type_count bs in
    let e = ends r (raised_type m t) (raised_type m u) in
    with_binders-is bs (with_coercion (ends r t u) c)
    ∙ same_context _ _ (sym (kinds_past-first (NBCo r t u) bs c.kinds))
    (sym (ap (λ es. es ++ map (raised_ends m) c.coercions) (reverse_onto (binder_coercions bs) e []) ∙ append_assoc (reverse (binder_coercions bs)) (e ∷ []) (map (raised_ends m) c.coercions))) refl refl

-- the parts of a context behind binders
pub kinds_behind_binders : (bs : List NBinder) (c : Context) → (with_binders bs c).kinds ≡ kinds_past bs c.kinds
unfolding context_past
kinds_behind_binders bs c = ap (λ (d : Context). d.kinds) (with_binders-is bs c)

pub values_behind_binders : (bs : List NBinder) (c : Context) → (with_binders bs c).values ≡ reverse (binder_values bs) ++ map (raised_type (type_count bs)) c.values
unfolding context_past
values_behind_binders bs c = ap (λ (d : Context). d.values) (with_binders-is bs c)

pub coercions_behind_binders : (bs : List NBinder) (c : Context) → (with_binders bs c).coercions ≡ reverse (binder_coercions bs) ++ map (raised_ends (type_count bs)) c.coercions
unfolding context_past
coercions_behind_binders bs c = ap (λ (d : Context). d.coercions) (with_binders-is bs c)

pub joins_behind_binders : (bs : List NBinder) (c : Context) → (with_binders bs c).joins ≡ map (raised_join (type_count bs)) c.joins
unfolding context_past
joins_behind_binders bs c = ap (λ (d : Context). d.joins) (with_binders-is bs c)

-- what a caller needs that goes behind binders
pub ruleset entry_rules = (scope_in-is, entered_kinds, length-binder_kinds, IsType-behind, shown-behind, AreTypes-behind, shown_all-raised, entered_valid, entered_shown, kinds_behind_binders, coercions_behind_binders, values_behind_binders, joins_behind_binders)
