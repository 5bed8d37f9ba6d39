-- What is known of a variable behind binders, behind a group, behind join points and in an alternative.
use Rattle.std.proofs.Common.{◌≡◌, inl, inr, ℕ, suc, ◌+◌, ◌-◌, ◌<◌, ◌≤◌, Bool, true, false, ◌||◌, nat_eq, if◌then◌else◌, List, [], ◌∷◌, length, get_or, refl, sym, ap, ◌∙◌, arith}
use Rattle.fc_syntax.specs.declared.expr.Bind as RustBind
use Rattle.fc_syntax.specs.declared.expr.Head.{Head}
use Rattle.fc_syntax.specs.declared.ty.Name.{Name}
use Rattle.fc_syntax.specs.declared.ty.Ref.{Ref}
use Rattle.fc_model.specs.Nameless.{NTy, NLocal, NVar, NExpr, NBinder, NBValue, NBType, NBCo}
use Rattle.fc_model.specs.NamelessView.{nalts_of, nbinders_of, nbinds_of, nexpr_of, nty_of}
use Rattle.fc_model.specs.Replacing.{bind_count}
use Rattle.fc_rows.specs.Surroundings.{Known, Unknown, Surroundings, behind_binder, behind_binders, behind_binds, behind_value, listed_heads, in_alternative, known_at, known_before, known_in_alternative, known_in_group, known_of, moved_known, past_values, scrutinee_local, scrutinee_name, value_count}
use Rattle.fc_subst.specs.Replacements.{renaming_of}
use Rattle.fc_subst.specs.declared.shift.Shift.{Shift}
use Rattle.fc_known.specs.Counts.{counts}
use Rattle.fc_known.specs.Around.{behind_alternative}
use Rattle.fc_known.specs.Told.{is_it, is_named, known_there}
use Rattle.fc_known.specs.declared.around.Branch.{Branch}
use Rattle.std.proofs.lemmas.Bool.{cases_lt}
use Rattle.fc_known.proofs.Listed.{Listed, past_all, read_of_all}
use Rattle.fc_known.proofs.Moved.{all_at_once, known_moves, looked_from_outside, moved_none, none, past_each, past_group, past_one, past_values_alone, values_alone}

-- BINDERS

-- a top-level name
named_past : (n : Name) (b : NBinder) (s : Surroundings) → (behind_binder b s).names n ≡ past_one known_moves b (s.names n)
named_past n (NBValue t) s = refl
named_past n (NBType u) s = refl
named_past n (NBCo r t u) s = refl

pub named_from_outside : (own : Shift) (bs : List NBinder) (s : Surroundings) (n : Name) (k : Known) → own ≡ counts bs → k ≡ s.names n → moved_known (renaming_of own) k ≡ (behind_binders bs s).names n
named_from_outside own bs s n k is known = looked_from_outside known_moves (λ u. u.names n) (named_past n) own bs s k is known

-- a variable from outside of binders
local_step : (bs : List NBinder) (s : Surroundings) (i : ℕ) → (behind_binders bs s).locals (i + value_count bs) ≡ past_each known_moves bs (s.locals i)
local_step [] s i = ap s.locals (omega arith)
local_step (NBValue t ∷ bs) s i = ap (behind_binders bs (behind_binder (NBValue t) s)).locals (omega arith) ∙ local_step bs (behind_binder (NBValue t) s) (suc i)
local_step (NBType u ∷ bs) s i = local_step bs (behind_binder (NBType u) s) i
local_step (NBCo r t u ∷ bs) s i = local_step bs (behind_binder (NBCo r t u) s) i

outside_of : (bs : List NBinder) (s : Surroundings) (i : ℕ) → (behind_binders bs s).locals (i + value_count bs) ≡ moved_known (renaming_of (counts bs)) (s.locals i)
outside_of bs s i = local_step bs s i ∙ all_at_once known_moves bs (s.locals i)

-- one of theirs
pub one_of : (bs : List NBinder) (s : Surroundings) (i : ℕ) → i < value_count bs → (behind_binders bs s).locals i ≡ Unknown
one_of [] s i below = absurd (omega (arith, below))
one_of (NBValue t ∷ bs) s i below =
    elim (cases_lt i (value_count bs)) [
      | inl near ↦ one_of bs (behind_binder (NBValue t) s) i near
      | inr far ↦
          let here : i ≡ 0 + value_count bs = omega (arith, below, far) in
          ap (behind_binders bs (behind_binder (NBValue t) s)).locals here ∙ outside_of bs (behind_binder (NBValue t) s) 0
    ]
one_of (NBType k ∷ bs) s i below = one_of bs (behind_binder (NBType k) s) i below
one_of (NBCo r t u ∷ bs) s i below = one_of bs (behind_binder (NBCo r t u) s) i below

-- what is known outside of binders is known behind them
pub from_outside : (own : Shift) (bs : List NBinder) (s : Surroundings) (d : ℕ) (k : Known) → own ≡ counts bs → own.values ≤ d → k ≡ s.locals (d - own.values) → moved_known (renaming_of own) k ≡ (behind_binders bs s).locals d
from_outside own bs s d k is far known =
    let many : own.values ≡ value_count bs = ap (λ p. p.values) is in
    let here : (d - own.values) + value_count bs ≡ d = omega (arith, far, many) in
    ap (moved_known (renaming_of own)) known ∙ ap (λ p. moved_known (renaming_of p) (s.locals (d - own.values))) is ∙ sym (outside_of bs s (d - own.values)) ∙ ap (behind_binders bs s).locals here

-- GROUPS

module _ (r : Bool) (m : ℕ) where
  abbrev fact : NExpr → Known
  fact e = if r then known_of e else moved_known (past_values m) (known_of e)

  bindings : Listed (λ (b : RustBind.Bind ℕ Ref). fact (nexpr_of b.rhs)) (λ bs. known_in_group r m (nbinds_of bs))
  bindings = record { before = known_before; first = λ k f. refl; others = λ k f i. refl; none = λ f i. refl; more = λ b bs f i. refl }

  told_in_group : (p : Shift) (k : Known) → p ≡ (if r then none else values_alone m) → moved_known (renaming_of p) k ≡ (if r then k else moved_known (past_values m) k)
  told_in_group p k is = ap (λ q. moved_known (renaming_of q) k) is ∙ by_kind r
    where
      by_kind : (b : Bool) → moved_known (renaming_of (if b then none else values_alone m)) k ≡ (if b then k else moved_known (past_values m) k)
      by_kind true = sym (moved_none known_moves k)
      by_kind false = past_values_alone known_moves m k

  pub known_binding : (bs : List (RustBind.Bind ℕ Ref)) (f : ℕ → Known) (d : ℕ) (b : RustBind.Bind ℕ Ref) (p : Shift) → m ≡ length bs → d < m → b ≡ get_or bs (m - 1 - d) b → p ≡ (if r then none else values_alone m)
      → moved_known (renaming_of p) (known_of (nexpr_of b.rhs)) ≡ known_in_group r m (nbinds_of bs) f d
  known_binding bs f d b p many near read shift = told_in_group p (known_of (nexpr_of b.rhs)) shift ∙ sym (read_of_all bindings bs f m d b many near read)

pub group_from_outside : (r : Bool) (bs : List (RustBind.Bind ℕ Ref)) (s : Surroundings) (n d : ℕ) (k : Known) → n ≡ length bs → n ≤ d → k ≡ s.locals (d - n)
    → moved_known (renaming_of (values_alone n)) k ≡ (behind_binds r (nbinds_of bs) s).locals d
group_from_outside r bs s n d k many far known =
    let count = bind_count (nbinds_of bs) in
    let here : (d - n) + length bs ≡ d = omega (arith, far, many) in
    past_group known_moves bs n k (s.locals (d - n)) many known ∙ sym (past_all (bindings r count) bs (λ i. moved_known (past_values count) (s.locals i)) (d - n)) ∙ ap (behind_binds r (nbinds_of bs) s).locals here

-- ALTERNATIVES

scrutinee : (e : NExpr) (m : ℕ) (k : Known) (f : ℕ → Known) (d : ℕ) → scrutinee_local e m k f d ≡ (if is_it e m d then k else f d)
scrutinee (NLocal i) m k f d = refl
scrutinee e m k f d = refl

module _ (k x : Known) where
  one_way : (a b : Bool) → (b || a) ≡ true → (if a then k else (if b then k else x)) ≡ k
  one_way true b is = refl
  one_way false true is = refl
  one_way false false is = cc

  other_way : (a b : Bool) → (b || a) ≡ false → (if a then k else (if b then k else x)) ≡ x
  other_way true true is = cc
  other_way true false is = cc
  other_way false true is = cc
  other_way false false is = refl

-- an alternative is for its case binder and for the variable that is looked at
pub in_it : (e : NExpr) (t : NTy) (hs : List Head) (h : Head) (bs : List NBinder) (s : Surroundings) (d : ℕ)
    → (nat_eq d (value_count bs) || is_it e (suc (value_count bs)) d) ≡ true → (in_alternative e t hs h bs s).locals d ≡ known_in_alternative t hs h bs
in_it e t hs h bs s d is = scrutinee e (suc (value_count bs)) (known_in_alternative t hs h bs) (known_at (value_count bs) (known_in_alternative t hs h bs) (behind_binders bs (behind_value t Unknown s)).locals) d
    ∙ one_way (known_in_alternative t hs h bs) ((behind_binders bs (behind_value t Unknown s)).locals d) (is_it e (suc (value_count bs)) d) (nat_eq d (value_count bs)) is

pub not_it : (e : NExpr) (t : NTy) (hs : List Head) (h : Head) (bs : List NBinder) (s : Surroundings) (d : ℕ)
    → (nat_eq d (value_count bs) || is_it e (suc (value_count bs)) d) ≡ false → (in_alternative e t hs h bs s).locals d ≡ (behind_binders (NBValue t ∷ bs) s).locals d
not_it e t hs h bs s d is = scrutinee e (suc (value_count bs)) (known_in_alternative t hs h bs) (known_at (value_count bs) (known_in_alternative t hs h bs) (behind_binders bs (behind_value t Unknown s)).locals) d
    ∙ other_way (known_in_alternative t hs h bs) ((behind_binders bs (behind_value t Unknown s)).locals d) (is_it e (suc (value_count bs)) d) (nat_eq d (value_count bs)) is

-- a top-level name in an alternative
named_by : (e : NExpr) (k : Known) (f : Name → Known) (n : Name) → scrutinee_name e k f n ≡ (if is_named e n then k else f n)
named_by (NVar m) k f n = refl
named_by e k f n = refl

pub named_it : (e : NExpr) (t : NTy) (hs : List Head) (h : Head) (bs : List NBinder) (s : Surroundings) (n : Name) → is_named e n ≡ true → (in_alternative e t hs h bs s).names n ≡ known_in_alternative t hs h bs
named_it e t hs h bs s n is = named_by e (known_in_alternative t hs h bs) (behind_binders bs (behind_value t Unknown s)).names n ∙ rw is refl

pub not_named : (e : NExpr) (t : NTy) (hs : List Head) (h : Head) (bs : List NBinder) (s : Surroundings) (n : Name) → is_named e n ≡ false → (in_alternative e t hs h bs s).names n ≡ (behind_binders (NBValue t ∷ bs) s).names n
not_named e t hs h bs s n is = named_by e (known_in_alternative t hs h bs) (behind_binders bs (behind_value t Unknown s)).names n ∙ rw is refl

-- FROM OUTSIDE OF AN ALTERNATIVE

abbrev pub one_more : Shift → ℕ → Shift
one_more p v = record p { values = v }

pub with_case_binder : (own : Shift) (t : NTy) (bs : List NBinder) (v : ℕ) → own ≡ counts bs → v ≡ own.values + 1 → one_more own v ≡ counts (NBValue t ∷ bs)
with_case_binder own t bs v is more =
    let many : v ≡ suc (value_count bs) = more ∙ ap (λ p. p.values + 1) is ∙ omega arith in
    ap (λ p. one_more p v) is ∙ ap (one_more (counts bs)) many

-- what code tests
pub tested_at : (l : Branch) (d v : ℕ) (b : Bool) → v ≡ l.own.values + 1 → b ≡ (nat_eq d l.own.values || is_it (nexpr_of l.scrutinee.now) v d) → (nat_eq d l.own.values || is_it (nexpr_of l.scrutinee.now) (l.own.values + 1) d) ≡ b
tested_at l d v b more test = sym (test ∙ ap (λ m. nat_eq d l.own.values || is_it (nexpr_of l.scrutinee.now) m d) more)

module _ (l : Branch) (s : Surroundings) (counted : l.own ≡ counts (nbinders_of l.alternative.now.binders)) where
  abbrev own_binders : List NBinder
  own_binders = nbinders_of l.alternative.now.binders

  abbrev tested : ℕ → Bool
  tested d = nat_eq d l.own.values || is_it (nexpr_of l.scrutinee.now) (l.own.values + 1) d

  test_is : (d : ℕ) → tested d ≡ (nat_eq d (value_count own_binders) || is_it (nexpr_of l.scrutinee.now) (suc (value_count own_binders)) d)
  test_is d =
      let more : value_count own_binders + 1 ≡ suc (value_count own_binders) = omega arith in
      ap (λ p. nat_eq d p.values || is_it (nexpr_of l.scrutinee.now) (p.values + 1) d) counted ∙ ap (λ m. nat_eq d (value_count own_binders) || is_it (nexpr_of l.scrutinee.now) m d) more

  pub inside_it : (d : ℕ) → tested d ≡ true → moved_known (renaming_of none) (known_there l) ≡ (behind_alternative l s).locals d
  inside_it d is =
      sym (moved_none known_moves (known_there l))
      ∙ sym (in_it (nexpr_of l.scrutinee.now) (nty_of l.ty.now) (listed_heads (nalts_of l.alternatives.now)) l.alternative.now.head own_binders s d (sym (test_is d) ∙ is))

  outside_it : (d : ℕ) → tested d ≡ false → (behind_alternative l s).locals d ≡ (behind_binders (NBValue (nty_of l.ty.now) ∷ own_binders) s).locals d
  outside_it d is = not_it (nexpr_of l.scrutinee.now) (nty_of l.ty.now) (listed_heads (nalts_of l.alternatives.now)) l.alternative.now.head own_binders s d (sym (test_is d) ∙ is)

  pub own_unknown : (d : ℕ) → tested d ≡ false → d < l.own.values + 1 → Unknown ≡ (behind_alternative l s).locals d
  own_unknown d is near =
      let many : l.own.values ≡ value_count own_binders = ap (λ p. p.values) counted in
      sym (outside_it d is ∙ one_of (NBValue (nty_of l.ty.now) ∷ own_binders) s d (omega (arith, near, many)))

  pub alternative_from_outside : (d v : ℕ) (k : Known) → tested d ≡ false → v ≡ l.own.values + 1 → v ≤ d → k ≡ s.locals (d - v) → moved_known (renaming_of (one_more l.own v)) k ≡ (behind_alternative l s).locals d
  alternative_from_outside d v k is more far known =
      from_outside (one_more l.own v) (NBValue (nty_of l.ty.now) ∷ own_binders) s d k (with_case_binder l.own (nty_of l.ty.now) own_binders v counted more) far known ∙ sym (outside_it d is)

  pub inside_named : (n : Name) → is_named (nexpr_of l.scrutinee.now) n ≡ true → moved_known (renaming_of none) (known_there l) ≡ (behind_alternative l s).names n
  inside_named n is =
      sym (moved_none known_moves (known_there l)) ∙ sym (named_it (nexpr_of l.scrutinee.now) (nty_of l.ty.now) (listed_heads (nalts_of l.alternatives.now)) l.alternative.now.head own_binders s n is)

  pub alternative_named : (n : Name) (v : ℕ) (k : Known) → is_named (nexpr_of l.scrutinee.now) n ≡ false → v ≡ l.own.values + 1 → k ≡ s.names n → moved_known (renaming_of (one_more l.own v)) k ≡ (behind_alternative l s).names n
  alternative_named n v k is more known =
      named_from_outside (one_more l.own v) (NBValue (nty_of l.ty.now) ∷ own_binders) s n k (with_case_binder l.own (nty_of l.ty.now) own_binders v counted more) known
      ∙ sym (not_named (nexpr_of l.scrutinee.now) (nty_of l.ty.now) (listed_heads (nalts_of l.alternatives.now)) l.alternative.now.head own_binders s n is)
