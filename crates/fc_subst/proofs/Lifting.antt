-- What is lifted past binders: the near variables stand for themselves, the far ones for what stood for them, past the binders; and what is lifted past
-- some binders, below one more, is lifted past one more.
use Rattle.std.proofs.Common.{◌≡◌, ◌≤◌, ◌<◌, ◌+◌, ◌-◌, ℕ, zero, suc, refl, sym, ap, ◌∙◌, arith, ◌⊎◌, inl, inr, nat_lt, if◌then◌else◌}
use Rattle.std.proofs.Math.Path.{fun_ext}
use Rattle.std.proofs.lemmas.Bool.Decides.{nat_tests}
use Rattle.fc_syntax.specs.Tree.{Kind}
use Rattle.fc_syntax.specs.declared.ty.Role.{Role}
use Rattle.fc_model.specs.Nameless.{NTy, NTVar, NCo, NGVar, NExpr, NLocal, NBType, NBCo}
use Rattle.fc_model.specs.Replacing.{Substitution, below_binder, below_joins, below_values, coercions_below, expressions, past_a_coercion, past_a_join, past_a_type, past_a_value}
use Rattle.fc_model.specs.Replacing.{renamed, renamed_coercion, replaced, replaced_coercion, themselves, values_below, whole_coercions}
use Rattle.fc_model.specs.Substituting.{renamed_type, renaming_below, shifted_type, substituted_type, types_below}
use Rattle.fc_model.proofs.RenamedItself.{itself}
use Rattle.fc_model.proofs.Substitutions.{renamed_again, renamed_is_substituted, variables_for_themselves}
use Rattle.fc_subst.proofs.Composed.{again, coercion_again}
use Rattle.fc_subst.proofs.Delayed.{as_replacement, renamed_proof_itself, renamings}
use Rattle.fc_subst.specs.Replacements.{lifted, past_all, past_coercions, past_types, renaming_of}
use Rattle.fc_subst.specs.declared.shift.Shift.{Shift}

-- TESTS

pub if_low : {X : Type 0} (i m : ℕ) (a b : X) → i < m → (if nat_lt i m then a else b) ≡ a
if_low i m a b low = grind (arith, nat_tests)

pub if_high : {X : Type 0} (i m : ℕ) (a b : X) → m ≤ i → (if nat_lt i m then a else b) ≡ b
if_high i m a b high = grind (arith, nat_tests)

near_or_far : (i m : ℕ) → (i < m) ⊎ (m ≤ i)
near_or_far i zero = inr (omega arith)
near_or_far zero (suc m) = inl (omega arith)
near_or_far (suc i) (suc m) = here (near_or_far i m)
  where
    here : (i < m) ⊎ (m ≤ i) → (suc i < suc m) ⊎ (suc m ≤ suc i)
    here (inl low) = inl (omega (arith, low))
    here (inr high) = inr (omega (arith, high))

same_fields : (r s : Substitution) → ((i : ℕ) → r.types i ≡ s.types i) → ((i : ℕ) → r.coercions i ≡ s.coercions i) → ((i : ℕ) → r.values i ≡ s.values i)
    → ((i : ℕ) → r.joins i ≡ s.joins i) → r ≡ s
same_fields r s h k l m = λ j. record { types = λ i. h i j; coercions = λ i. k i j; values = λ i. l i j; joins = λ i. m i j }

-- ONE SHIFT AFTER ANOTHER

same_renaming : (q r : ℕ → ℕ) (t : NTy) → ((i : ℕ) → q i ≡ r i) → renamed_type q t ≡ renamed_type r t
same_renaming q r t h = ap (λ f. renamed_type f t) (fun_ext h)

type_once_more : (m : ℕ) (t : NTy) → renamed_type (λ i. i + (m + 1)) t ≡ shifted_type (renamed_type (λ i. i + m) t)
type_once_more m t = same_renaming (λ i. i + (m + 1)) (λ i. suc (i + m)) t (λ i. omega arith) ∙ sym (renamed_again suc (λ i. i + m) t)

module _ (p : Shift) where
  coercion_type_more : (g : NCo) → renamed_coercion (past_types (record p { types = p.types + 1 })) (past_coercions p) g ≡ whole_coercions.past_type (renamed_coercion (past_types p) (past_coercions p) g)
  coercion_type_more g =
      sym (coercion_again renamings (past_types p) (λ i. NTVar (suc i)) (past_types (record p { types = p.types + 1 })) (past_coercions p) (λ i. i) (past_coercions p)
      (λ i. ap NTVar (let e : suc (i + p.types) ≡ i + (p.types + 1) = omega arith in e)) (λ i. refl) g)

  coercion_coercion_more : (g : NCo)
      → renamed_coercion (past_types p) (past_coercions (record p { coercions = p.coercions + 1 })) g ≡ whole_coercions.past_coercion (renamed_coercion (past_types p) (past_coercions p) g)
  coercion_coercion_more g =
      sym (coercion_again renamings (past_types p) (λ i. NTVar i) (past_types p) (past_coercions p) (λ i. suc i) (past_coercions (record p { coercions = p.coercions + 1 }))
      (λ i. refl) (λ i. ap NGVar (let e : suc (i + p.coercions) ≡ i + (p.coercions + 1) = omega arith in e)) g)

  value_type_more : (e : NExpr) → renamed (renaming_of (record p { types = p.types + 1 })) e ≡ renamed past_a_type (renamed (renaming_of p) e)
  value_type_more e = sym (again renamings (renaming_of p) past_a_type (renaming_of (record p { types = p.types + 1 })) (record {
    types = λ i. ap NTVar (let h : suc (i + p.types) ≡ i + (p.types + 1) = omega arith in h);
    coercions = λ i. refl;
    values = λ i. refl;
    joins = λ i. refl;
  }) e)

  value_coercion_more : (e : NExpr) → renamed (renaming_of (record p { coercions = p.coercions + 1 })) e ≡ renamed past_a_coercion (renamed (renaming_of p) e)
  value_coercion_more e = sym (again renamings (renaming_of p) past_a_coercion (renaming_of (record p { coercions = p.coercions + 1 })) (record {
    types = λ i. refl;
    coercions = λ i. ap NGVar (let h : suc (i + p.coercions) ≡ i + (p.coercions + 1) = omega arith in h);
    values = λ i. refl;
    joins = λ i. refl;
  }) e)

  value_value_more : (e : NExpr) → renamed (renaming_of (record p { values = p.values + 1 })) e ≡ renamed past_a_value (renamed (renaming_of p) e)
  value_value_more e = sym (again renamings (renaming_of p) past_a_value (renaming_of (record p { values = p.values + 1 })) (record {
    types = λ i. refl;
    coercions = λ i. refl;
    values = λ i. ap NLocal (let h : suc (i + p.values) ≡ i + (p.values + 1) = omega arith in h);
    joins = λ i. refl;
  }) e)

  value_join_more : (e : NExpr) → renamed (renaming_of (record p { joins = p.joins + 1 })) e ≡ renamed past_a_join (renamed (renaming_of p) e)
  value_join_more e = sym (again renamings (renaming_of p) past_a_join (renaming_of (record p { joins = p.joins + 1 })) (record {
    types = λ i. refl;
    coercions = λ i. refl;
    values = λ i. refl;
    joins = λ i. let h : suc (i + p.joins) ≡ i + (p.joins + 1) = omega arith in h;
  }) e)

-- VARIABLES

module _ (p : Shift) (r : Substitution) (i : ℕ) where
  pub near_type : i < p.types → (lifted p r).types i ≡ NTVar i
  unfolding lifted
  near_type low = if_low i p.types (NTVar i) (renamed_type (λ j. j + p.types) (r.types (i - p.types))) low

  pub far_type : p.types ≤ i → (lifted p r).types i ≡ renamed_type (λ j. j + p.types) (r.types (i - p.types))
  unfolding lifted
  far_type high = if_high i p.types (NTVar i) (renamed_type (λ j. j + p.types) (r.types (i - p.types))) high

  pub near_coercion : i < p.coercions → (lifted p r).coercions i ≡ NGVar i
  unfolding lifted
  near_coercion low = if_low i p.coercions (NGVar i) (renamed_coercion (past_types p) (past_coercions p) (r.coercions (i - p.coercions))) low

  pub far_coercion : p.coercions ≤ i → (lifted p r).coercions i ≡ renamed_coercion (past_types p) (past_coercions p) (r.coercions (i - p.coercions))
  unfolding lifted
  far_coercion high = if_high i p.coercions (NGVar i) (renamed_coercion (past_types p) (past_coercions p) (r.coercions (i - p.coercions))) high

  pub near_value : i < p.values → (lifted p r).values i ≡ NLocal i
  unfolding lifted
  near_value low = if_low i p.values (NLocal i) (renamed (renaming_of p) (r.values (i - p.values))) low

  pub far_value : p.values ≤ i → (lifted p r).values i ≡ renamed (renaming_of p) (r.values (i - p.values))
  unfolding lifted
  far_value high = if_high i p.values (NLocal i) (renamed (renaming_of p) (r.values (i - p.values))) high

  pub near_join : i < p.joins → (lifted p r).joins i ≡ i
  unfolding lifted
  near_join low = if_low i p.joins i (r.joins (i - p.joins) + p.joins) low

  pub far_join : p.joins ≤ i → (lifted p r).joins i ≡ r.joins (i - p.joins) + p.joins
  unfolding lifted
  far_join high = if_high i p.joins i (r.joins (i - p.joins) + p.joins) high

-- ONE BINDER MORE

module _ (p : Shift) (r : Substitution) where
  types_more : (i : ℕ) → (lifted (record p { types = p.types + 1 }) r).types i ≡ types_below (lifted p r).types i
  types_more zero = near_type (record p { types = p.types + 1 }) r 0 (omega arith)
  types_more (suc i) = here (near_or_far i p.types)
    where
      here : (i < p.types) ⊎ (p.types ≤ i) → (lifted (record p { types = p.types + 1 }) r).types (suc i) ≡ shifted_type ((lifted p r).types i)
      here (inl low) = near_type (record p { types = p.types + 1 }) r (suc i) (omega (arith, low)) ∙ sym (ap shifted_type (near_type p r i low))
      here (inr high) =
          far_type (record p { types = p.types + 1 }) r (suc i) (omega (arith, high))
          ∙ ap (λ n. renamed_type (λ j. j + (p.types + 1)) (r.types n)) (let e : suc i - (p.types + 1) ≡ i - p.types = omega arith in e)
          ∙ type_once_more p.types (r.types (i - p.types)) ∙ sym (ap shifted_type (far_type p r i high))

  coercions_past_type : (i : ℕ) → (lifted (record p { types = p.types + 1 }) r).coercions i ≡ whole_coercions.past_type ((lifted p r).coercions i)
  coercions_past_type i = here (near_or_far i p.coercions)
    where
      here : (i < p.coercions) ⊎ (p.coercions ≤ i) → (lifted (record p { types = p.types + 1 }) r).coercions i ≡ whole_coercions.past_type ((lifted p r).coercions i)
      here (inl low) = near_coercion (record p { types = p.types + 1 }) r i low ∙ sym (ap whole_coercions.past_type (near_coercion p r i low))
      here (inr high) =
          far_coercion (record p { types = p.types + 1 }) r i high ∙ coercion_type_more p (r.coercions (i - p.coercions)) ∙ sym (ap whole_coercions.past_type (far_coercion p r i high))

  coercions_more : (i : ℕ) → (lifted (record p { coercions = p.coercions + 1 }) r).coercions i ≡ coercions_below whole_coercions (lifted p r).coercions i
  coercions_more zero = near_coercion (record p { coercions = p.coercions + 1 }) r 0 (omega arith)
  coercions_more (suc i) = here (near_or_far i p.coercions)
    where
      here : (i < p.coercions) ⊎ (p.coercions ≤ i) → (lifted (record p { coercions = p.coercions + 1 }) r).coercions (suc i) ≡ whole_coercions.past_coercion ((lifted p r).coercions i)
      here (inl low) = near_coercion (record p { coercions = p.coercions + 1 }) r (suc i) (omega (arith, low)) ∙ sym (ap whole_coercions.past_coercion (near_coercion p r i low))
      here (inr high) =
          far_coercion (record p { coercions = p.coercions + 1 }) r (suc i) (omega (arith, high))
          ∙ ap (λ n. renamed_coercion (past_types p) (past_coercions (record p { coercions = p.coercions + 1 })) (r.coercions n)) (let e : suc i - (p.coercions + 1) ≡ i - p.coercions = omega arith in e)
          ∙ coercion_coercion_more p (r.coercions (i - p.coercions)) ∙ sym (ap whole_coercions.past_coercion (far_coercion p r i high))

  -- what stands for values, past a binder of another space
  values_past : (q : Shift) (past : NExpr → NExpr) → p.values ≡ q.values → ((n : ℕ) → past (NLocal n) ≡ NLocal n) → ((e : NExpr) → renamed (renaming_of q) e ≡ past (renamed (renaming_of p) e))
      → (i : ℕ) → (lifted q r).values i ≡ past ((lifted p r).values i)
  values_past q past same near far i = here (near_or_far i p.values)
    where
      here : (i < p.values) ⊎ (p.values ≤ i) → (lifted q r).values i ≡ past ((lifted p r).values i)
      here (inl low) = near_value q r i (omega (arith, low, same)) ∙ sym (near i) ∙ sym (ap past (near_value p r i low))
      here (inr high) =
          far_value q r i (omega (arith, high, same)) ∙ ap (λ n. renamed (renaming_of q) (r.values (i - n))) (sym same) ∙ far (r.values (i - p.values))
          ∙ sym (ap past (far_value p r i high))

  values_more : (i : ℕ) → (lifted (record p { values = p.values + 1 }) r).values i ≡ values_below expressions whole_coercions (lifted p r).values i
  values_more zero = near_value (record p { values = p.values + 1 }) r 0 (omega arith)
  values_more (suc i) = here (near_or_far i p.values)
    where
      here : (i < p.values) ⊎ (p.values ≤ i) → (lifted (record p { values = p.values + 1 }) r).values (suc i) ≡ renamed past_a_value ((lifted p r).values i)
      here (inl low) = near_value (record p { values = p.values + 1 }) r (suc i) (omega (arith, low)) ∙ sym (ap (renamed past_a_value) (near_value p r i low))
      here (inr high) =
          far_value (record p { values = p.values + 1 }) r (suc i) (omega (arith, high))
          ∙ ap (λ n. renamed (renaming_of (record p { values = p.values + 1 })) (r.values n)) (let e : suc i - (p.values + 1) ≡ i - p.values = omega arith in e)
          ∙ value_value_more p (r.values (i - p.values)) ∙ sym (ap (renamed past_a_value) (far_value p r i high))

  joins_more : (i : ℕ) → (lifted (record p { joins = p.joins + 1 }) r).joins i ≡ renaming_below (lifted p r).joins i
  joins_more zero = near_join (record p { joins = p.joins + 1 }) r 0 (omega arith)
  joins_more (suc i) = here (near_or_far i p.joins)
    where
      here : (i < p.joins) ⊎ (p.joins ≤ i) → (lifted (record p { joins = p.joins + 1 }) r).joins (suc i) ≡ suc ((lifted p r).joins i)
      here (inl low) = near_join (record p { joins = p.joins + 1 }) r (suc i) (omega (arith, low)) ∙ sym (ap (λ n. suc n) (near_join p r i low))
      here (inr high) =
          far_join (record p { joins = p.joins + 1 }) r (suc i) (omega (arith, high))
          ∙ ap (λ n. r.joins n + (p.joins + 1)) (let e : suc i - (p.joins + 1) ≡ i - p.joins = omega arith in e)
          ∙ (let e : r.joins (i - p.joins) + (p.joins + 1) ≡ suc (r.joins (i - p.joins) + p.joins) = omega arith in e) ∙ sym (ap (λ n. suc n) (far_join p r i high))

  pub below_type_more : (k : Kind) → lifted (record p { types = p.types + 1 }) r ≡ below_binder expressions whole_coercions (NBType k) (lifted p r)
  unfolding lifted
  below_type_more k = same_fields (lifted (record p { types = p.types + 1 }) r) (below_binder expressions whole_coercions (NBType k) (lifted p r))
      types_more coercions_past_type (values_past (record p { types = p.types + 1 }) (renamed past_a_type) refl (λ n. refl) (value_type_more p)) (λ i. refl)

  pub below_coercion_more : (o : Role) (t u : NTy) → lifted (record p { coercions = p.coercions + 1 }) r ≡ below_binder expressions whole_coercions (NBCo o t u) (lifted p r)
  unfolding lifted
  below_coercion_more o t u = same_fields (lifted (record p { coercions = p.coercions + 1 }) r) (below_binder expressions whole_coercions (NBCo o t u) (lifted p r))
      (λ i. refl) coercions_more (values_past (record p { coercions = p.coercions + 1 }) (renamed past_a_coercion) refl (λ n. refl) (value_coercion_more p)) (λ i. refl)

  below_value_more : lifted (record p { values = p.values + 1 }) r ≡ below_values expressions whole_coercions 1 (lifted p r)
  unfolding lifted
  below_value_more = same_fields (lifted (record p { values = p.values + 1 }) r) (below_values expressions whole_coercions 1 (lifted p r))
      (λ i. refl) (λ i. refl) values_more (λ i. refl)

  below_join_more : lifted (record p { joins = p.joins + 1 }) r ≡ below_joins expressions whole_coercions 1 (lifted p r)
  unfolding lifted
  below_join_more = same_fields (lifted (record p { joins = p.joins + 1 }) r) (below_joins expressions whole_coercions 1 (lifted p r))
      (λ i. refl) (λ i. refl) (values_past (record p { joins = p.joins + 1 }) (renamed past_a_join) refl (λ n. refl) (value_join_more p)) joins_more

-- MANY BINDERS MORE

pub below_values_more : (m : ℕ) (p : Shift) (r : Substitution) → lifted (record p { values = p.values + m }) r ≡ below_values expressions whole_coercions m (lifted p r)
below_values_more zero p r = ap (λ n. lifted (record p { values = n }) r) (let e : p.values + 0 ≡ p.values = omega arith in e)
below_values_more (suc m) p r =
    ap (λ n. lifted (record p { values = n }) r) (let e : p.values + suc m ≡ (p.values + 1) + m = omega arith in e)
    ∙ below_values_more m (record p { values = p.values + 1 }) r ∙ ap (below_values expressions whole_coercions m) (below_value_more p r)

pub below_joins_more : (m : ℕ) (p : Shift) (r : Substitution) → lifted (record p { joins = p.joins + m }) r ≡ below_joins expressions whole_coercions m (lifted p r)
below_joins_more zero p r = ap (λ n. lifted (record p { joins = n }) r) (let e : p.joins + 0 ≡ p.joins = omega arith in e)
below_joins_more (suc m) p r =
    ap (λ n. lifted (record p { joins = n }) r) (let e : p.joins + suc m ≡ (p.joins + 1) + m = omega arith in e)
    ∙ below_joins_more m (record p { joins = p.joins + 1 }) r ∙ ap (below_joins expressions whole_coercions m) (below_join_more p r)

-- PAST NO BINDER

abbrev none : Shift
none = record { types = 0; coercions = 0; values = 0; joins = 0 }

type_past_none : (t : NTy) → renamed_type (λ i. i + 0) t ≡ t
type_past_none t = same_renaming (λ i. i + 0) (λ i. i) t (λ i. omega arith) ∙ renamed_is_substituted (λ i. i) t ∙ variables_for_themselves t

coercion_past_none : (g : NCo) → renamed_coercion (past_types none) (past_coercions none) g ≡ g
coercion_past_none g =
    ap (λ s. renamed_coercion s (λ i. i + 0) g) (fun_ext (λ i. ap NTVar (let e : i + 0 ≡ i = omega arith in e)))
    ∙ ap (λ r. renamed_coercion (λ i. NTVar i) r g) (fun_ext (λ i. let e : i + 0 ≡ i = omega arith in e)) ∙ renamed_proof_itself g

value_past_none : (e : NExpr) → renamed (renaming_of none) e ≡ e
value_past_none e =
    ap (λ s. renamed (record { types = s; coercions = λ i. i + 0; values = λ i. i + 0; joins = λ i. i + 0 }) e) (fun_ext (λ i. ap NTVar (more_none i)))
    ∙ ap (λ f. renamed (record { types = λ i. NTVar i; coercions = f; values = f; joins = f }) e) (fun_ext more_none) ∙ itself e
  where
    more_none : (i : ℕ) → i + 0 ≡ i
    more_none i = omega arith

pub lifted_none : (r : Substitution) → lifted (record { types = 0; coercions = 0; values = 0; joins = 0 }) r ≡ r
lifted_none r = same_fields (lifted none r) r
    (λ i. far_type none r i (omega arith) ∙ type_past_none (r.types (i - 0)) ∙ ap r.types (less_none i))
    (λ i. far_coercion none r i (omega arith) ∙ coercion_past_none (r.coercions (i - 0)) ∙ ap r.coercions (less_none i))
    (λ i. far_value none r i (omega arith) ∙ value_past_none (r.values (i - 0)) ∙ ap r.values (less_none i))
    (λ i. far_join none r i (omega arith) ∙ (let e : r.joins (i - 0) + 0 ≡ r.joins (i - 0) = omega arith in e) ∙ ap r.joins (less_none i))
  where
    less_none : (i : ℕ) → i - 0 ≡ i
    less_none i = omega arith

-- past values alone
pub lifted_values : (m : ℕ) (r : Substitution) → lifted (record { types = 0; coercions = 0; values = m; joins = 0 }) r ≡ below_values expressions whole_coercions m r
lifted_values m r =
    ap (λ n. lifted (record { types = 0; coercions = 0; values = n; joins = 0 }) r) (let e : m ≡ 0 + m = omega arith in e)
    ∙ below_values_more m none r ∙ ap (below_values expressions whole_coercions m) (lifted_none r)

-- WHAT IS PAST BINDERS, AS WHAT IS PUT IN

module _ (p : Shift) where
  pub shifted_type_is_put : (t : NTy) → substituted_type (lifted (record { types = 0; coercions = 0; values = 0; joins = 0 }) (past_all p)).types t ≡ renamed_type (λ i. i + p.types) t
  shifted_type_is_put t = ap (λ r. substituted_type r.types t) (lifted_none (past_all p)) ∙ sym (renamed_is_substituted (λ i. i + p.types) t)

  pub shifted_coercion_is_put : (g : NCo)
      → replaced_coercion (lifted (record { types = 0; coercions = 0; values = 0; joins = 0 }) (past_all p)).types (lifted (record { types = 0; coercions = 0; values = 0; joins = 0 }) (past_all p)).coercions g
      ≡ renamed_coercion (past_types p) (past_coercions p) g
  shifted_coercion_is_put g =
      ap (λ r. replaced_coercion r.types r.coercions g) (lifted_none (past_all p))
      ∙ sym (coercion_again as_replacement (past_types p) (λ i. NTVar i) (past_types p) (past_coercions p) (λ i. i) (λ i. NGVar (i + p.coercions)) (λ i. refl) (λ i. refl) g)
      ∙ renamed_proof_itself (renamed_coercion (past_types p) (past_coercions p) g)

  pub shifted_value_is_put : (e : NExpr) → replaced (lifted (record { types = 0; coercions = 0; values = 0; joins = 0 }) (past_all p)) e ≡ renamed (renaming_of p) e
  shifted_value_is_put e =
      ap (λ r. replaced r e) (lifted_none (past_all p))
      ∙ sym (again as_replacement (renaming_of p) themselves (past_all p) (record { types = λ i. refl; coercions = λ i. refl; values = λ i. refl; joins = λ i. refl }) e)
      ∙ itself (renamed (renaming_of p) e)
