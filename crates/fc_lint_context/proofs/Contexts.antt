-- What is in scope, while the table grows and behind what is bound.
use Rattle.std.proofs.Common.{◌≡◌, List, [], ◌∷◌, ◌++◌, length, map, reverse, refl, sym, ap, subst, ◌∙◌}
use Rattle.std.proofs.lemmas.List.{length-reverse}
use Rattle.fc_syntax.specs.Tree.{Kind}
use Rattle.fc_model.specs.Calling.{type_count}
use Rattle.fc_model.specs.Nameless.{NTy, NBinder, NBType, NBinds, NJoins}
use Rattle.fc_model.specs.Substituting.{raised_type}
use Rattle.fc_model.specs.Typing.{Context, JoinPoint, no_context, with_binders, with_binds, with_joins, with_type}
use Rattle.fc_type_table.specs.InScope.{AreNumbered, IsScopeAt, kinds_of, numbered_of}
use Rattle.fc_type_table.proofs.BinderKinds.{kinds_past-one, length-binder_kinds}
use Rattle.fc_type_table.proofs.KindsInScope.{AreNumbered-behind}
use Rattle.fc_type_scope.proofs.Numbers.{number_rules, AreTypesAt-behind, AreTypesAt-grows, AreTypesAt-past, shown_all-behind, shown_all-grows, shown_all-past}
use Rattle.fc_type_scope.proofs.ScopeKinds.{scope_grows}
use Rattle.fc_type_scope.specs.Behind.{IsEntered, binder_coercions, binder_kinds, binder_values, context_past, kinds_past, raised_ends, raised_join}
use Rattle.fc_type_scope.specs.EndViews.{AreEndsAt, shown_all_ends_at}
use Rattle.fc_type_scope.specs.Scopes.{AreTypesAt, scope_in, shown_all_at}
use Rattle.fc_type_scope.specs.declared.entering.Entered.{Entered}
use Rattle.fc_type_scope.specs.declared.scope.TypeScope.{TypeScope}
use Rattle.fc_type_table.specs.Nodes.{Extends}
use Rattle.fc_type_table.specs.declared.node.Node.{Node}
use Rattle.fc_type_table.specs.declared.node.TypeId.{TypeId}
use Rattle.fc_type_scope.proofs.OneMore.{entered_grows}
use Rattle.fc_type_scope.proofs.PastBinders.{same_context, with_binders-is}
use Rattle.fc_type_scope.proofs.Proven.{ends_rules, AreEndsAt-behind, AreEndsAt-grows, AreEndsAt-past, shown_all_ends-behind, shown_all_ends-grows, shown_all_ends-past}
use Rattle.fc_type_scope.specs.declared.ends.Ends as proven
use Rattle.fc_lint_context.proofs.Behind.{with_binds-is, with_joins-is}
use Rattle.fc_lint_context.proofs.Declared.{AreRead-grows}
use Rattle.fc_lint_context.proofs.Reached.{join_rules, AreJoinsAt-behind, AreJoinsAt-grows, AreJoinsAt-past, shown_joins-behind, shown_joins-grows, shown_joins-past}
use Rattle.fc_lint_context.specs.ContextViews.{IsContextAt, context_at}
use Rattle.fc_lint_context.specs.CoercionViews.{proven_of}
use Rattle.fc_lint_context.specs.DeclaredViews.{AreRead}
use Rattle.fc_lint_context.specs.JoinViews.{AreJoinsAt, join_points, points_of, shown_joins_at}
use Rattle.fc_lint_context.specs.LocalViews.{bind_types, numbers_of}
use Rattle.fc_lint_context.specs.declared.context.Context as code
use Rattle.fc_lint_context.specs.declared.joins.JoinPoint as joined

-- ---- a table that grows

pub IsContextAt-grows : (old new : List Node) (c : code.Context) → Extends old new → IsContextAt old c → IsContextAt new c
IsContextAt-grows old new c more h = record {
  declared = AreRead-grows old new c.declared.now more h.declared;
  scope = scope_grows old new c.scope.kinds.now more h.scope;
  coercions = AreEndsAt-grows old new (scope_in c.scope) (proven_of c.coercions) more h.coercions;
  locals = AreTypesAt-grows old new (scope_in c.scope) (numbers_of c.locals) more h.locals;
  joins = AreJoinsAt-grows old new (scope_in c.scope) (points_of c.joins) more h.joins;
}

pub context_at-grows : (old new : List Node) (c : code.Context) → Extends old new → IsContextAt old c → context_at new c ≡ context_at old c
unfolding context_at
context_at-grows old new c more h =
    cc (shown_all_ends-grows old new (scope_in c.scope) (proven_of c.coercions) more h.coercions, shown_all-grows old new (scope_in c.scope) (numbers_of c.locals) more h.locals, shown_joins-grows old new (scope_in c.scope) (points_of c.joins) more h.joins)

-- ---- its parts

pub context_kinds : (ns : List Node) (c : code.Context) → (context_at ns c).kinds ≡ scope_in c.scope
unfolding context_at
context_kinds ns c = refl

pub context_coercions : (ns : List Node) (c : code.Context) → (context_at ns c).coercions ≡ shown_all_ends_at ns (scope_in c.scope) (proven_of c.coercions)
unfolding context_at
context_coercions ns c = refl

pub context_values : (ns : List Node) (c : code.Context) → (context_at ns c).values ≡ shown_all_at ns (scope_in c.scope) (numbers_of c.locals)
unfolding context_at
context_values ns c = refl

pub context_joins : (ns : List Node) (c : code.Context) → (context_at ns c).joins ≡ shown_joins_at ns (scope_in c.scope) (points_of c.joins)
unfolding context_at
context_joins ns c = refl

pub scope_is : (s : TypeScope) → scope_in s ≡ kinds_of s.kinds.now
unfolding scope_in
scope_is s = refl

-- ---- behind what is bound

module _ (ns : List Node) (ks : List Kind) (es : List proven.Ends) (ids : List TypeId) (js : List joined.JoinPoint) where
  abbrev pub shown_parts : Context
  shown_parts = record { kinds = ks; coercions = shown_all_ends_at ns ks es; values = shown_all_at ns ks ids; joins = shown_joins_at ns ks js }

  pub parts_behind_binds : (more : List TypeId) (bs : NBinds) → shown_all_at ns ks more ≡ bind_types bs
      → record { kinds = ks; coercions = shown_all_ends_at ns ks es; values = shown_all_at ns ks (reverse more ++ ids); joins = shown_joins_at ns ks js } ≡ with_binds bs shown_parts
  parts_behind_binds more bs e =
      let f : List NTy → Context = λ vs. record { kinds = ks; coercions = shown_all_ends_at ns ks es; values = vs; joins = shown_joins_at ns ks js } in
      ap f (shown_all-behind ns ks more ids ∙ ap (λ ts. reverse ts ++ shown_all_at ns ks ids) e) ∙ sym (with_binds-is bs shown_parts)

  pub parts_behind_joins : (more : List joined.JoinPoint) (t : NTy) (bs : NJoins) → shown_joins_at ns ks more ≡ join_points t bs
      → record { kinds = ks; coercions = shown_all_ends_at ns ks es; values = shown_all_at ns ks ids; joins = shown_joins_at ns ks (reverse more ++ js) } ≡ with_joins t bs shown_parts
  parts_behind_joins more t bs e =
      let f : List JoinPoint → Context = λ ps. record { kinds = ks; coercions = shown_all_ends_at ns ks es; values = shown_all_at ns ks ids; joins = ps } in
      ap f (shown_joins-behind ns ks more js ∙ ap (λ ps. reverse ps ++ shown_joins_at ns ks js) e) ∙ sym (with_joins-is t bs shown_parts)

  pub parts_behind_binders : (coerced : List proven.Ends) (more : List TypeId) (bs : List NBinder) → AreEndsAt ns ks es → AreTypesAt ns ks ids → AreJoinsAt ns ks js
      → shown_all_ends_at ns (kinds_past bs ks) coerced ≡ binder_coercions bs → shown_all_at ns (kinds_past bs ks) more ≡ binder_values bs
      → record {
        kinds = kinds_past bs ks;
        coercions = shown_all_ends_at ns (kinds_past bs ks) (reverse coerced ++ es);
        values = shown_all_at ns (kinds_past bs ks) (reverse more ++ ids);
        joins = shown_joins_at ns (kinds_past bs ks) js;
      } ≡ with_binders bs shown_parts
  unfolding kinds_past context_past
  parts_behind_binders coerced more bs coercions locals joins p e =
      let inner : List Kind = reverse (binder_kinds bs) in
      let count : length inner ≡ type_count bs = length-reverse (binder_kinds bs) ∙ length-binder_kinds bs in
      let proved : shown_all_ends_at ns (inner ++ ks) (reverse coerced ++ es) ≡ reverse (binder_coercions bs) ++ map (raised_ends (type_count bs)) (shown_all_ends_at ns ks es) =
      shown_all_ends-behind ns (inner ++ ks) coerced es ∙ ap (λ ds. reverse ds ++ shown_all_ends_at ns (inner ++ ks) es) p
      ∙ ap (λ ds. reverse (binder_coercions bs) ++ ds) (shown_all_ends-past ns inner ks es coercions ∙ ap (λ m. map (raised_ends m) (shown_all_ends_at ns ks es)) count) in
      let values : shown_all_at ns (inner ++ ks) (reverse more ++ ids) ≡ reverse (binder_values bs) ++ map (raised_type (type_count bs)) (shown_all_at ns ks ids) =
      shown_all-behind ns (inner ++ ks) more ids ∙ ap (λ ts. reverse ts ++ shown_all_at ns (inner ++ ks) ids) e
      ∙ ap (λ ts. reverse (binder_values bs) ++ ts) (shown_all-past ns inner ks ids locals ∙ ap (λ m. map (raised_type m) (shown_all_at ns ks ids)) count) in
      let reached : shown_joins_at ns (inner ++ ks) js ≡ map (raised_join (type_count bs)) (shown_joins_at ns ks js) =
      shown_joins-past ns inner ks js joins ∙ ap (λ m. map (raised_join m) (shown_joins_at ns ks js)) count in
      same_context _ _ refl proved values reached ∙ sym (with_binders-is bs shown_parts)

  pub coercions_behind_binders : (coerced : List proven.Ends) (bs : List NBinder) → AreEndsAt ns ks es → AreEndsAt ns (kinds_past bs ks) coerced → AreEndsAt ns (kinds_past bs ks) (reverse coerced ++ es)
  unfolding kinds_past
  coercions_behind_binders coerced bs coercions own = AreEndsAt-behind ns (reverse (binder_kinds bs) ++ ks) coerced es own (AreEndsAt-past ns (reverse (binder_kinds bs)) ks es coercions)

  pub locals_behind_binders : (more : List TypeId) (bs : List NBinder) → AreTypesAt ns ks ids → AreTypesAt ns (kinds_past bs ks) more → AreTypesAt ns (kinds_past bs ks) (reverse more ++ ids)
  unfolding kinds_past
  locals_behind_binders more bs locals own = AreTypesAt-behind ns (reverse (binder_kinds bs) ++ ks) more ids own (AreTypesAt-past ns (reverse (binder_kinds bs)) ks ids locals)

  pub joins_behind_binders : (bs : List NBinder) → AreJoinsAt ns ks js → AreJoinsAt ns (kinds_past bs ks) js
  unfolding kinds_past
  joins_behind_binders bs joins = AreJoinsAt-past ns (reverse (binder_kinds bs)) ks js joins

-- the kinds behind binders that were entered
pub entered_kinds : (s t : TypeScope) (bs : List NBinder) (own : List Kind) → kinds_of t.kinds.now ≡ reverse own ++ kinds_of s.kinds.now → own ≡ binder_kinds bs → scope_in t ≡ kinds_past bs (scope_in s)
unfolding scope_in kinds_past
entered_kinds s t bs own e is = e ∙ ap (λ ks. reverse ks ++ kinds_of s.kinds.now) is

-- a context by its parts
all_parts : List Node → List Kind → List proven.Ends → List TypeId → List joined.JoinPoint → Context
all_parts ns ks es ids js = record { kinds = ks; coercions = shown_all_ends_at ns ks es; values = shown_all_at ns ks ids; joins = shown_joins_at ns ks js }

same_parts : (ns : List Node) (c : code.Context) (ks : List Kind) (es : List proven.Ends) (ids : List TypeId) (js : List joined.JoinPoint)
    → scope_in c.scope ≡ ks → proven_of c.coercions ≡ es → numbers_of c.locals ≡ ids → points_of c.joins ≡ js → context_at ns c ≡ all_parts ns ks es ids js
unfolding context_at all_parts
same_parts ns c ks es ids js k p l j =
    ap (λ x. all_parts ns x (proven_of c.coercions) (numbers_of c.locals) (points_of c.joins)) k ∙ ap (λ x. all_parts ns ks x (numbers_of c.locals) (points_of c.joins)) p
    ∙ ap (λ x. all_parts ns ks es x (points_of c.joins)) l ∙ ap (λ x. all_parts ns ks es ids x) j

-- nothing is in scope
pub closed_view : (ns : List Node) (c : code.Context) → scope_in c.scope ≡ [] → proven_of c.coercions ≡ [] → numbers_of c.locals ≡ [] → points_of c.joins ≡ [] → context_at ns c ≡ no_context
unfolding all_parts shown_all_at shown_joins_at shown_all_ends_at
closed_view ns c e p f g = same_parts ns c [] [] [] [] e p f g

module _ (ns : List Node) (c d : code.Context) (bs : List NBinder) (e : Entered) (h : IsEntered ns (scope_in c.scope) bs e) (g : IsContextAt ns c) (kinds : scope_in d.scope ≡ kinds_past bs (scope_in c.scope)) where
  pub context_behind_binders : proven_of d.coercions ≡ reverse e.coercions ++ proven_of c.coercions → numbers_of d.locals ≡ reverse e.values ++ numbers_of c.locals → points_of d.joins ≡ points_of c.joins
      → context_at ns d ≡ with_binders bs (context_at ns c)
  unfolding context_at all_parts
  context_behind_binders coercions locals joins =
      same_parts ns d (kinds_past bs (scope_in c.scope)) (reverse e.coercions ++ proven_of c.coercions) (reverse e.values ++ numbers_of c.locals) (points_of c.joins) kinds coercions locals joins
      ∙ parts_behind_binders ns (scope_in c.scope) (proven_of c.coercions) (numbers_of c.locals) (points_of c.joins) e.coercions e.values bs g.coercions g.locals g.joins h.coercions_view h.view

  pub valid_behind_binders : d.declared ≡ c.declared → numbered_of d.scope.kinds.now ≡ reverse e.kinds ++ numbered_of c.scope.kinds.now → proven_of d.coercions ≡ reverse e.coercions ++ proven_of c.coercions
      → numbers_of d.locals ≡ reverse e.values ++ numbers_of c.locals → points_of d.joins ≡ points_of c.joins → IsContextAt ns d
  valid_behind_binders same numbered coercions locals joins = record {
    declared = subst (λ x. AreRead ns x.now) (sym same) g.declared;
    scope = subst (AreNumbered ns) (sym numbered) (AreNumbered-behind ns e.kinds (numbered_of c.scope.kinds.now) h.numbered g.scope);
    coercions =
        subst (λ es. AreEndsAt ns (scope_in d.scope) es) (sym coercions) (subst (λ ks. AreEndsAt ns ks (reverse e.coercions ++ proven_of c.coercions)) (sym kinds)
        (coercions_behind_binders ns (scope_in c.scope) (proven_of c.coercions) (numbers_of c.locals) (points_of c.joins) e.coercions bs g.coercions h.coercions_valid));
    locals =
        subst (λ ids. AreTypesAt ns (scope_in d.scope) ids) (sym locals) (subst (λ ks. AreTypesAt ns ks (reverse e.values ++ numbers_of c.locals)) (sym kinds)
        (locals_behind_binders ns (scope_in c.scope) (proven_of c.coercions) (numbers_of c.locals) (points_of c.joins) e.values bs g.locals h.valid));
    joins =
        subst (λ js. AreJoinsAt ns (scope_in d.scope) js) (sym joins) (subst (λ ks. AreJoinsAt ns ks (points_of c.joins)) (sym kinds)
        (joins_behind_binders ns (scope_in c.scope) (proven_of c.coercions) (numbers_of c.locals) (points_of c.joins) bs g.joins));
  }

module _ (ns : List Node) (c d : code.Context) (k : Kind) (g : IsContextAt ns c) (kinds : scope_in d.scope ≡ k ∷ scope_in c.scope) where
  one_past : kinds_past (NBType k ∷ []) (scope_in c.scope) ≡ k ∷ scope_in c.scope
  one_past = kinds_past-one (NBType k) (scope_in c.scope)

  none_coerced : shown_all_ends_at ns (kinds_past (NBType k ∷ []) (scope_in c.scope)) [] ≡ binder_coercions (NBType k ∷ [])
  unfolding shown_all_ends_at binder_coercions
  none_coerced = refl

  none_valued : shown_all_at ns (kinds_past (NBType k ∷ []) (scope_in c.scope)) [] ≡ binder_values (NBType k ∷ [])
  unfolding shown_all_at binder_values
  none_valued = refl

  pub context_behind_type : proven_of d.coercions ≡ proven_of c.coercions → numbers_of d.locals ≡ numbers_of c.locals → points_of d.joins ≡ points_of c.joins → context_at ns d ≡ with_type k (context_at ns c)
  unfolding context_at all_parts
  context_behind_type coercions locals joins =
      same_parts ns d (kinds_past (NBType k ∷ []) (scope_in c.scope)) (proven_of c.coercions) (numbers_of c.locals) (points_of c.joins) (kinds ∙ sym one_past) coercions locals joins
      ∙ parts_behind_binders ns (scope_in c.scope) (proven_of c.coercions) (numbers_of c.locals) (points_of c.joins) [] [] (NBType k ∷ []) g.coercions g.locals g.joins none_coerced none_valued

  pub valid_behind_type : d.declared ≡ c.declared → IsScopeAt ns d.scope.kinds.now → proven_of d.coercions ≡ proven_of c.coercions → numbers_of d.locals ≡ numbers_of c.locals → points_of d.joins ≡ points_of c.joins → IsContextAt ns d
  valid_behind_type same numbered coercions locals joins = record {
    declared = subst (λ x. AreRead ns x.now) (sym same) g.declared;
    scope = numbered;
    coercions =
        subst (λ es. AreEndsAt ns (scope_in d.scope) es) (sym coercions) (subst (λ ks. AreEndsAt ns ks (proven_of c.coercions)) (sym kinds) (AreEndsAt-past ns (k ∷ []) (scope_in c.scope) (proven_of c.coercions) g.coercions));
    locals =
        subst (λ ids. AreTypesAt ns (scope_in d.scope) ids) (sym locals) (subst (λ ks. AreTypesAt ns ks (numbers_of c.locals)) (sym kinds) (AreTypesAt-past ns (k ∷ []) (scope_in c.scope) (numbers_of c.locals) g.locals));
    joins =
        subst (λ js. AreJoinsAt ns (scope_in d.scope) js) (sym joins) (subst (λ ks. AreJoinsAt ns ks (points_of c.joins)) (sym kinds) (AreJoinsAt-past ns (k ∷ []) (scope_in c.scope) (points_of c.joins) g.joins));
  }

-- what a caller needs whose table grows
pub ruleset context_rules = (number_rules, ends_rules, join_rules, AreRead-grows, IsContextAt-grows, context_at-grows, entered_grows, context_kinds, context_coercions)
