-- The need as a function is the least of the roles at which a variable occurs by cases.
use Rattle.std.proofs.Common.{◌≡◌, ℕ, suc, Bool, true, false, nat_eq, if◌then◌else◌, List, [], ◌∷◌, refl, sym, subst}
use Rattle.fc_syntax.specs.declared.ty.Role.{Role}
use Rattle.fc_syntax.specs.declared.ty.Role.TheVariants.{N, R, P}
use Rattle.fc_syntax.specs.Roles.{role_below}
use Rattle.fc_model.specs.Kinding.{Modules}
use Rattle.fc_model.specs.Nameless.{NTy, NTVar, NTCon, NTInt, NTApp, NTFun, NTForall, NTCoForall, NBinder, NBValue, NBType, NBCo, NConDecl, NConOf}
use Rattle.fc_model.specs.Needs.{least, role_within, next_role, argument_roles, need_in, need_in_fields, need_in_con, need_in_cons, IsNeed}
use Rattle.fc_model.specs.Needs.{OccursAt, occurs_itself, occurs_in_head, occurs_in_argument, occurs_in_domain, occurs_in_codomain, occurs_in_forall, occurs_in_left, occurs_in_right, occurs_in_body}
use Rattle.fc_model.specs.Needs.{OccursInCon, occurs_in_field, occurs_in_later_field, occurs_in_value, occurs_in_left_end, occurs_in_right_end, occurs_behind_value, occurs_behind_type, occurs_behind_coercion}
use Rattle.fc_model.specs.Needs.{OccursInCons, occurs_in_con, occurs_in_later_con}
use Rattle.fc_model.proofs.Sameness.{false_true, nat_eq_eq, nat_eq_refl}

-- ROLES

below_itself : (r : Role) → role_below r r ≡ true
below_itself N = refl
below_itself R = refl
below_itself P = refl

below_p : (r : Role) → role_below r P ≡ true
below_p N = refl
below_p R = refl
below_p P = refl

below_below : (q r s : Role) → role_below q r ≡ true → role_below r s ≡ true → role_below q s ≡ true
below_below N r s g h = refl
below_below R N s g h = false_true g
below_below R R s g h = h
below_below R P N g h = false_true h
below_below R P R g h = false_true h
below_below R P P g h = refl
below_below P N s g h = false_true g
below_below P R s g h = false_true g
below_below P P s g h = h

least_first : (r s : Role) → role_below (least r s) r ≡ true
least_first N s = refl
least_first R N = refl
least_first R R = refl
least_first R P = refl
least_first P N = refl
least_first P R = refl
least_first P P = refl

least_second : (r s : Role) → role_below (least r s) s ≡ true
least_second N s = refl
least_second R N = refl
least_second R R = refl
least_second R P = refl
least_second P N = refl
least_second P R = refl
least_second P P = refl

-- what is below a part is reached by way of the part
by_first : (r s q : Role) → role_below r q ≡ true → role_below (least r s) q ≡ true
by_first r s q h = below_below (least r s) r q (least_first r s) h

by_second : (r s q : Role) → role_below s q ≡ true → role_below (least r s) q ≡ true
by_second r s q h = below_below (least r s) s q (least_second r s) h

-- P is above nothing but itself
nothing_above : {X : Type 0} → role_below P P ≡ false → X
nothing_above h = false_true (sym h)

-- the least of two is one of them
one_of_two : (occurs : Role → Type 0) (r s : Role) → (role_below P r ≡ false → occurs r) → (role_below P s ≡ false → occurs s) → role_below P (least r s) ≡ false → occurs (least r s)
one_of_two occurs r s first second = by (role_below r s)
  where
    by : (b : Bool) → role_below P (if b then r else s) ≡ false → occurs (if b then r else s)
    by true h = first h
    by false h = second h

module _ (ms : Modules) where
  -- EACH OCCURRENCE IS NOT BELOW THE NEED

  variable_below : (r : Role) (i : ℕ) → role_below (need_in ms r i (NTVar i)) r ≡ true
  variable_below r i = rw (nat_eq_refl i) (below_itself r)

  pub need_below : {r s : Role} {i : ℕ} {t : NTy} → OccursAt ms r i t s → role_below (need_in ms r i t) s ≡ true
  need_below (occurs_itself {r = r} {i = i}) = variable_below r i
  need_below {r = r} {s = s} {i = i} (occurs_in_head {t = t} {u = u} o) = by_first (need_in ms r i t) _ s (need_below o)
  need_below {r = r} {s = s} {i = i} (occurs_in_argument {t = t} {u = u} o) = by_second (need_in ms r i t) _ s (need_below o)
  need_below {r = r} {s = s} {i = i} (occurs_in_domain {t = t} {u = u} o) = by_first (need_in ms r i t) _ s (need_below o)
  need_below {r = r} {s = s} {i = i} (occurs_in_codomain {t = t} {u = u} o) = by_second (need_in ms r i t) _ s (need_below o)
  need_below (occurs_in_forall o) = need_below o
  need_below {r = r} {s = s} {i = i} (occurs_in_left {o = q} {t = t} {u = u} {v = v} o) = by_first (need_in ms (role_within r q) i t) _ s (need_below o)
  need_below {r = r} {s = s} {i = i} (occurs_in_right {o = q} {t = t} {u = u} {v = v} o) =
      by_second (need_in ms (role_within r q) i t) _ s (by_first (need_in ms (role_within r q) i u) (need_in ms r i v) s (need_below o))
  need_below {r = r} {s = s} {i = i} (occurs_in_body {o = q} {t = t} {u = u} {v = v} o) =
      by_second (need_in ms (role_within r q) i t) _ s (by_second (need_in ms (role_within r q) i u) (need_in ms r i v) s (need_below o))

  pub need_below_in_con : {i : ℕ} {bs : List NBinder} {ts : List NTy} {s : Role} → OccursInCon ms i bs ts s → role_below (need_in_con ms i bs ts) s ≡ true
  need_below_in_con {i = i} {s = s} (occurs_in_field {t = t} o) = by_first (need_in ms R i t) _ s (need_below o)
  need_below_in_con {i = i} {s = s} (occurs_in_later_field {t = t} o) = by_second (need_in ms R i t) _ s (need_below_in_con o)
  need_below_in_con {i = i} {s = s} (occurs_in_value {t = t} o) = by_first (need_in ms R i t) _ s (need_below o)
  need_below_in_con {i = i} {s = s} (occurs_in_left_end {r = r} {t = t} {u = u} o) =
      by_first (least (need_in ms r i t) (need_in ms r i u)) _ s (by_first (need_in ms r i t) (need_in ms r i u) s (need_below o))
  need_below_in_con {i = i} {s = s} (occurs_in_right_end {r = r} {t = t} {u = u} o) =
      by_first (least (need_in ms r i t) (need_in ms r i u)) _ s (by_second (need_in ms r i t) (need_in ms r i u) s (need_below o))
  need_below_in_con {i = i} {s = s} (occurs_behind_value {t = t} o) = by_second (need_in ms R i t) _ s (need_below_in_con o)
  need_below_in_con (occurs_behind_type o) = need_below_in_con o
  need_below_in_con {i = i} {s = s} (occurs_behind_coercion {r = r} {t = t} {u = u} o) = by_second (least (need_in ms r i t) (need_in ms r i u)) _ s (need_below_in_con o)

  pub need_below_in_cons : {i : ℕ} {cs : List NConDecl} {s : Role} → OccursInCons ms i cs s → role_below (need_in_cons ms i cs) s ≡ true
  need_below_in_cons {i = i} {s = s} (occurs_in_con {bs = bs} {ts = ts} o) = by_first (need_in_con ms i bs ts) _ s (need_below_in_con o)
  need_below_in_cons {i = i} {s = s} (occurs_in_later_con {c = NConOf n bs ts} o) = by_second (need_in_con ms i bs ts) _ s (need_below_in_cons o)

  -- THE NEED IS THE ROLE OF AN OCCURRENCE

  variable_reached : (r : Role) (i j : ℕ) (b : Bool) → nat_eq i j ≡ b → role_below P (if b then r else P) ≡ false → OccursAt ms r i (NTVar j) (if b then r else P)
  variable_reached r i j true e h = subst (λ k. OccursAt ms r i (NTVar k) r) (nat_eq_eq i j e) occurs_itself
  variable_reached r i j false e h = nothing_above h

  pub need_reached : (r : Role) (i : ℕ) (t : NTy) → role_below P (need_in ms r i t) ≡ false → OccursAt ms r i t (need_in ms r i t)
  need_reached r i (NTVar j) h = variable_reached r i j (nat_eq i j) refl h
  need_reached r i (NTCon n) h = nothing_above h
  need_reached r i NTInt h = nothing_above h
  need_reached r i (NTApp t u) h =
      let q = role_within r (next_role (argument_roles ms t)) in
      one_of_two (OccursAt ms r i (NTApp t u)) (need_in ms r i t) (need_in ms q i u) (λ x. occurs_in_head (need_reached r i t x)) (λ x. occurs_in_argument (need_reached q i u x)) h
  need_reached r i (NTFun t u) h =
      one_of_two (OccursAt ms r i (NTFun t u)) (need_in ms r i t) (need_in ms r i u) (λ x. occurs_in_domain (need_reached r i t x)) (λ x. occurs_in_codomain (need_reached r i u x)) h
  need_reached r i (NTForall k t) h = occurs_in_forall (need_reached r (suc i) t h)
  need_reached r i (NTCoForall o t u v) h =
      let q = role_within r o in
      one_of_two (OccursAt ms r i (NTCoForall o t u v)) (need_in ms q i t) (least (need_in ms q i u) (need_in ms r i v)) (λ x. occurs_in_left (need_reached q i t x))
      (one_of_two (OccursAt ms r i (NTCoForall o t u v)) (need_in ms q i u) (need_in ms r i v) (λ x. occurs_in_right (need_reached q i u x)) (λ x. occurs_in_body (need_reached r i v x))) h

  need_reached_in_fields : (i : ℕ) (ts : List NTy) → role_below P (need_in_fields ms i ts) ≡ false → OccursInCon ms i [] ts (need_in_fields ms i ts)
  need_reached_in_fields i [] h = nothing_above h
  need_reached_in_fields i (t ∷ ts) h =
      one_of_two (OccursInCon ms i [] (t ∷ ts)) (need_in ms R i t) (need_in_fields ms i ts) (λ x. occurs_in_field (need_reached R i t x)) (λ x. occurs_in_later_field (need_reached_in_fields i ts x)) h

  pub need_reached_in_con : (i : ℕ) (bs : List NBinder) (ts : List NTy) → role_below P (need_in_con ms i bs ts) ≡ false → OccursInCon ms i bs ts (need_in_con ms i bs ts)
  need_reached_in_con i [] ts h = need_reached_in_fields i ts h
  need_reached_in_con i (NBValue t ∷ bs) ts h =
      one_of_two (OccursInCon ms i (NBValue t ∷ bs) ts) (need_in ms R i t) (need_in_con ms i bs ts) (λ x. occurs_in_value (need_reached R i t x)) (λ x. occurs_behind_value (need_reached_in_con i bs ts x)) h
  need_reached_in_con i (NBType k ∷ bs) ts h = occurs_behind_type (need_reached_in_con (suc i) bs ts h)
  need_reached_in_con i (NBCo r t u ∷ bs) ts h =
      one_of_two (OccursInCon ms i (NBCo r t u ∷ bs) ts) (least (need_in ms r i t) (need_in ms r i u)) (need_in_con ms i bs ts)
      (one_of_two (OccursInCon ms i (NBCo r t u ∷ bs) ts) (need_in ms r i t) (need_in ms r i u) (λ x. occurs_in_left_end (need_reached r i t x)) (λ x. occurs_in_right_end (need_reached r i u x)))
      (λ x. occurs_behind_coercion (need_reached_in_con i bs ts x)) h

  pub need_reached_in_cons : (i : ℕ) (cs : List NConDecl) → role_below P (need_in_cons ms i cs) ≡ false → OccursInCons ms i cs (need_in_cons ms i cs)
  need_reached_in_cons i [] h = nothing_above h
  need_reached_in_cons i (NConOf n bs ts ∷ cs) h =
      one_of_two (OccursInCons ms i (NConOf n bs ts ∷ cs)) (need_in_con ms i bs ts) (need_in_cons ms i cs) (λ x. occurs_in_con (need_reached_in_con i bs ts x)) (λ x. occurs_in_later_con (need_reached_in_cons i cs x)) h

  -- NEEDS

  -- the need of a variable in a type, and in constructors, is the least of the roles at which it occurs there
  pub need_is : (r : Role) (i : ℕ) (t : NTy) → IsNeed (OccursAt ms r i t) (need_in ms r i t)
  need_is r i t = record { below = λ s o. need_below o; reached = need_reached r i t }

  pub need_is_in_cons : (i : ℕ) (cs : List NConDecl) → IsNeed (OccursInCons ms i cs) (need_in_cons ms i cs)
  need_is_in_cons i cs = record { below = λ s o. need_below_in_cons o; reached = need_reached_in_cons i cs }
