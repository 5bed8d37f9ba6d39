-- What a place tells of a term holds of its instances.
use Rattle.std.specs.Ordering.{int_eq}
use Rattle.std.proofs.Common.{◌≡◌, ℕ, suc, ◌+◌, ℤ, List, [], length, true, Some, refl, sym, ap, ap₂, ◌∙◌, subst, subst₂, arith}
use Rattle.std.proofs.Math.Path.{fun_ext}
use Rattle.std.proofs.lemmas.Bool.Decides.{Decides-int_eq}
use Rattle.fc_syntax.specs.declared.ty.Name.{Name}
use Rattle.fc_model.specs.Stepping.{Program, Key, LitKey, ConKey, LamKey, matches, next, wrap, IsHead, Reaches}
use Rattle.fc_model.specs.Terms.{Sort, Head, Default, OfLit, OfCon, Term, Lit, Var, Lam, Rec, Con, Terms, Nil, Cons, binders, count, ren, ren_terms, sub, sub_terms, push, pushes, ups}
use Rattle.fc_model.proofs.Sameness.{same_name_eq}
use Rattle.fc_meaning.proofs.Optional.{false_true}
use Rattle.fc_meaning.proofs.Unnamed.{sub-ren, sub-ren_terms}
use Rattle.fc_counted.specs.Closings.{Closing, EntersAlternative, ClosesSide, HeadShape, literal_shape, constructor_shape, lambda_shape, own_fields, unrolled}
use Rattle.fc_counted.specs.Places.{Side}
use Rattle.fc_counted.proofs.Congruence.{count-wrap}
use Rattle.fc_counted.proofs.Runs.{reaches_head}
use Rattle.fc_counted.proofs.TermSubstitutions.{put_all, count-sub}
use Rattle.fc_term_rows.specs.Facts.{Fact, FactCon, FactNumber, FactNoneOf, moved_fact, field_variables, MemberAt, first_member, later_member, Known, Knows, knows_global, knows_constructor_binder}
use Rattle.fc_term_rows.specs.Facts.{knows_constructor_scrutinee, knows_literal_binder, knows_literal_scrutinee, knows_default_binder, knows_default_scrutinee, knows_let_constructor, knows_let_head}
use Rattle.fc_term_rows.specs.Facts.{knows_member_constructor, knows_member_head, Stands, stands_let, stands_past_lambda, stands_past_let, stands_past_group, stands_past_alternative}
use Rattle.fc_term_rows.specs.Facts.{knows_past_lambda, knows_past_let, knows_past_group, knows_past_alternative}
use Rattle.fc_term_rows.specs.FactsMet.{NoneTakes, Meets, GlobalsMeet}
use Rattle.fc_term_rows.proofs.Instances.{pushes_past, fields_pushed}

none_is : (P : Program) (t u : Term) (hs : List Head) → t ≡ u → NoneTakes P u hs → NoneTakes P t hs
none_is P t u hs e w = subst (λ x. NoneTakes P x hs) (sym e) w

meets_moved : (P : Program) (p q : Closing) (r : ℕ → ℕ) → (λ n. p (r n)) ≡ q → (t : Term) (f : Fact) → Meets P q t f → Meets P p (ren r t) (moved_fact r f)
meets_moved P p q r e t (FactCon d ss ts) w =
    (w.0, subst₂ (λ x xs. Reaches P x w.0 (Con d ss xs)) (sym (sub-ren p r t ∙ ap (λ g. sub g t) e)) (sym (sub-ren_terms p r ts ∙ ap (λ g. sub_terms g ts) e)) w.1)
meets_moved P p q r e t (FactNumber z) w = (w.0, subst (λ x. Reaches P x w.0 (Lit z)) (sym (sub-ren p r t ∙ ap (λ g. sub g t) e)) w.1)
meets_moved P p q r e t (FactNoneOf hs) w = none_is P (sub p (ren r t)) (sub q t) hs (sub-ren p r t ∙ ap (λ g. sub g t) e) w

-- HEADS

shape_con : (c : Name) (x : Term) (ss : List Sort) (ts : Terms) → HeadShape (ConKey c) x ss ts → x ≡ Con c ss ts
shape_con c x ss ts constructor_shape = refl

shape_lit : (z : ℤ) (x : Term) (ss : List Sort) (ts : Terms) → HeadShape (LitKey z) x ss ts → x ≡ Lit z
shape_lit z x ss ts literal_shape = refl

-- a head for which an alternative was taken
con_taken : (k : Key) (x : Term) (ss : List Sort) (ts : Terms) (d : Name) (rs : List Sort) → HeadShape k x ss ts → matches k (OfCon d rs) ≡ true → rs ≡ ss → x ≡ Con d rs ts
unfolding matches
con_taken (ConKey c) x ss ts d rs s e w = shape_con c x ss ts s ∙ ap₂ (λ z l. Con z l ts) (same_name_eq c d e) (sym w)
con_taken (LitKey z) x ss ts d rs s e w = absurd (false_true e)
con_taken LamKey x ss ts d rs s e w = absurd (false_true e)

pub int_eq_eq : (a b : ℤ) → int_eq a b ≡ true → a ≡ b
int_eq_eq a b h = grind (arith, Decides-int_eq a b)

lit_taken : (k : Key) (x : Term) (ss : List Sort) (ts : Terms) (z : ℤ) → HeadShape k x ss ts → matches k (OfLit z) ≡ true → x ≡ Lit z
unfolding matches
lit_taken (LitKey y) x ss ts z s e = shape_lit y x ss ts s ∙ ap Lit (int_eq_eq y z e)
lit_taken (ConKey c) x ss ts z s e = absurd (false_true e)
lit_taken LamKey x ss ts z s e = absurd (false_true e)

pub head_none : (P : Program) (t h : Term) (l : ℕ) → Reaches P t l h → IsHead h → NoneTakes P t []
head_none P t (Lit z) l r w = record { steps = l; head = Lit z; key = LitKey z; ss = []; ts = Nil; there = r; shape = literal_shape; misses = tt }
head_none P t (Lam s b) l r w = record { steps = l; head = Lam s b; key = LamKey; ss = []; ts = Nil; there = r; shape = lambda_shape; misses = tt }
head_none P t (Con c ss ts) l r w = record { steps = l; head = Con c ss ts; key = ConKey c; ss = ss; ts = ts; there = r; shape = constructor_shape; misses = tt }
head_none P t _ l r w = absurd w

pub head_sub : (p : Closing) (t : Term) → IsHead t → IsHead (sub p t)
unfolding sub
head_sub p (Lit z) w = tt
head_sub p (Lam s b) w = tt
head_sub p (Con c ss ts) w = tt
head_sub p _ w = absurd w

-- ALTERNATIVES

module _ (P : Program) (E : Closing → Type 0) (t : Term) (hs : List Head) (h : Head) (p : Closing) (e : EntersAlternative P E t hs h p) where
  -- where the substitution takes a variable
  at_case : (m n : ℕ) → m ≡ binders h + n → p m ≡ push e.x e.outer n
  at_case m n w =
      let k : m ≡ count (own_fields h e.xs) + n = omega (arith, w, e.counts) in
      ap (λ f. f m) e.whole ∙ pushes_past (own_fields h e.xs) (push e.x e.outer) m n k

  pub past_case : (λ n. p (binders h + suc n)) ≡ e.outer
  unfolding push
  past_case = fun_ext (λ n. at_case (binders h + suc n) (suc n) refl)

  from_scrutinee : Reaches P (sub p (ren (λ n. binders h + suc n) t)) e.steps e.x
  from_scrutinee = subst (λ x. Reaches P x e.steps e.x) (sym (sub-ren p (λ n. binders h + suc n) t ∙ ap (λ g. sub g t) past_case)) e.from

  from_binder : Reaches P (p (binders h)) 0 e.x
  unfolding push
  from_binder =
      let k : binders h ≡ binders h + 0 = omega arith in
      (at_case (binders h) 0 k, subst IsHead (sym (at_case (binders h) 0 k)) (reaches_head P e.steps (sub e.outer t) e.x e.from))

-- a constructor's fields are what stands for the binders of its alternative
con_entered : (P : Program) (E : Closing → Type 0) (t : Term) (hs : List Head) (d : Name) (ss : List Sort) (p : Closing) → (e : EntersAlternative P E t hs (OfCon d ss) p)
    → e.x ≡ Con d ss (sub_terms p (field_variables ss))
unfolding own_fields binders
con_entered P E t hs d ss p e =
    con_taken e.key e.x e.ss e.xs d ss e.shape e.takes e.same_sorts
    ∙ ap (Con d ss) (sym (ap (λ f. sub_terms f (field_variables ss)) e.whole ∙ fields_pushed ss e.xs (push e.x e.outer) e.counts))

-- GROUPS

-- past the binders of a group
pub past_group : (ts : Terms) (p q : Closing) → p ≡ pushes (unrolled q ts) q → (λ n. p (count ts + n)) ≡ q
past_group ts p q e =
    fun_ext (λ n.
    let k = count-sub (ups (count ts) q) ts in
    let l = count-wrap (sub_terms (ups (count ts) q) ts) (sub_terms (ups (count ts) q) ts) in
    let m : count ts + n ≡ count (unrolled q ts) + n = omega (arith, k, l) in
    ap (λ f. f (count ts + n)) e ∙ pushes_past (unrolled q ts) q (count ts + n) n m)

-- what stands for a member is the group around its right side
member_put : (g us : Terms) (s f : Closing) (n : ℕ) (u : Term) → MemberAt us n u → pushes (wrap g (sub_terms s us)) f n ≡ Rec g (sub s u)
unfolding sub wrap pushes push count
member_put g Nil s f n u w = elim w [ ]
member_put g (Cons t ts) s f n u (first_member _ e) =
    let k = count-sub s ts in
    let l = count-wrap g (sub_terms s ts) in
    let m : n ≡ count (wrap g (sub_terms s ts)) + 0 = omega (arith, e, k, l) in
    pushes_past (wrap g (sub_terms s ts)) (push (Rec g (sub s t)) f) n 0 m
member_put g (Cons t ts) s f n u (later_member w) = member_put g ts s (push (Rec g (sub s t)) f) n u w

-- and steps to that right side
member_steps : (P : Program) (ts : Terms) (p q : Closing) → p ≡ pushes (unrolled q ts) q → (n : ℕ) (u : Term) → MemberAt ts n u → next P (p n) ≡ Some (sub p u)
unfolding next
member_steps P ts p q e n u w =
    let g = sub_terms (ups (count ts) q) ts in
    let c : count (wrap g g) ≡ count ts = count-wrap g g ∙ count-sub (ups (count ts) q) ts in
    let there : p n ≡ Rec g (sub (ups (count ts) q) u) = ap (λ f. f n) e ∙ member_put g ts (ups (count ts) q) q n u w in
    let whole : sub (pushes (wrap g g) Var) (sub (ups (count ts) q) u) ≡ sub p u =
    ap (λ m. sub (pushes (wrap g g) Var) (sub (ups m q) u)) (sym c) ∙ put_all (wrap g g) q u ∙ ap (λ f. sub f u) (sym e) in
    ap (next P) there ∙ ap Some whole

-- past the binder of a case alone
bare_past : (λ n. 0 + suc n) ≡ suc
bare_past = fun_ext (λ n. omega arith)

-- WHAT IS KNOWN

pub knows_meets : (P : Program) (G : Known) → GlobalsMeet P G → {c : Side} {t : Term} {f : Fact} → Knows G c t f → (p : Closing) → ClosesSide P c p → Meets P p t f
unfolding sub push binders
knows_meets P G all (knows_global {x = x} {f = f} w) p s = all x f w p
knows_meets P G all (knows_constructor_binder {t = t} {hs = hs} {d = d} {ss = ss} {c = c}) p s =
    (0, subst (Reaches P (p (length ss)) 0) (con_entered P (ClosesSide P c) t hs d ss p s) (from_binder P (ClosesSide P c) t hs (OfCon d ss) p s))
knows_meets P G all (knows_constructor_scrutinee {t = t} {hs = hs} {d = d} {ss = ss} {c = c}) p s =
    (s.steps, subst (Reaches P (sub p (ren (λ n. length ss + suc n) t)) s.steps) (con_entered P (ClosesSide P c) t hs d ss p s) (from_scrutinee P (ClosesSide P c) t hs (OfCon d ss) p s))
knows_meets P G all (knows_literal_binder {t = t} {hs = hs} {z = z} {c = c}) p s =
    (0, subst (Reaches P (p 0) 0) (lit_taken s.key s.x s.ss s.xs z s.shape s.takes) (from_binder P (ClosesSide P c) t hs (OfLit z) p s))
knows_meets P G all (knows_literal_scrutinee {t = t} {hs = hs} {z = z} {c = c}) p s =
    let there = subst (λ r. Reaches P (sub p (ren r t)) s.steps s.x) bare_past (from_scrutinee P (ClosesSide P c) t hs (OfLit z) p s) in
    (s.steps, subst (Reaches P (sub p (ren suc t)) s.steps) (lit_taken s.key s.x s.ss s.xs z s.shape s.takes) there)
knows_meets P G all (knows_default_binder {t = t} {hs = hs} {c = c}) p s =
    record { steps = 0; head = s.x; key = s.key; ss = s.ss; ts = s.xs; there = from_binder P (ClosesSide P c) t hs Default p s; shape = s.shape; misses = s.takes }
knows_meets P G all (knows_default_scrutinee {t = t} {hs = hs} {c = c}) p s =
    let there = subst (λ r. Reaches P (sub p (ren r t)) s.steps s.x) bare_past (from_scrutinee P (ClosesSide P c) t hs Default p s) in
    record { steps = s.steps; head = s.x; key = s.key; ss = s.ss; ts = s.xs; there = there; shape = s.shape; misses = s.takes }
knows_meets P G all (knows_let_constructor {d = d} {ss = ss} {ts = ts}) p s =
    let here : p 0 ≡ Con d ss (sub_terms s.0 ts) = ap (λ f. f 0) s.1 in
    let back : sub_terms p (ren_terms suc ts) ≡ sub_terms s.0 ts = sub-ren_terms p suc ts ∙ ap (λ f. sub_terms (λ n. f (suc n)) ts) s.1 in
    (0, (here ∙ ap (Con d ss) (sym back), subst IsHead (sym here) tt))
knows_meets P G all (knows_let_head {t = t} w) p s =
    let here : p 0 ≡ sub s.0 t = ap (λ f. f 0) s.1 in
    let there = head_sub s.0 t w in
    head_none P (p 0) (sub s.0 t) 0 (here, subst IsHead (sym here) there) there
knows_meets P G all (knows_member_constructor {ts = ts} {us = us} {n = n} {d = d} {ss = ss} w) p s =
    (1, (sub p (Con d ss us), member_steps P ts p s.0 s.1 n (Con d ss us) w, (refl, tt)))
knows_meets P G all (knows_member_head {ts = ts} {n = n} {u = u} w v) p s =
    let there = head_sub p u v in
    head_none P (p n) (sub p u) 1 (sub p u, member_steps P ts p s.0 s.1 n u w, (refl, there)) there
knows_meets P G all (knows_past_lambda {t = t} {f = f} w) p s = meets_moved P p s.0 suc (ap (λ g n. g (suc n)) s.2) t f (knows_meets P G all w s.0 s.3)
knows_meets P G all (knows_past_let {t = t} {f = f} w) p s = meets_moved P p s.0 suc (ap (λ g n. g (suc n)) s.1) t f (knows_meets P G all w s.0 s.2)
knows_meets P G all (knows_past_group {ts = ts} {t = t} {f = f} w) p s = meets_moved P p s.0 (λ n. count ts + n) (past_group ts p s.0 s.1) t f (knows_meets P G all w s.0 s.2)
knows_meets P G all (knows_past_alternative {a = a} {hs = hs} {h = h} {c = c} {t = t} {f = f} w) p s =
    meets_moved P p s.outer (λ n. binders h + suc n) (past_case P (ClosesSide P c) a hs h p s) t f (knows_meets P G all w s.outer s.rest)

-- WHAT STANDS FOR ANOTHER

both_past : (p q : Closing) (r : ℕ → ℕ) → (λ n. p (r n)) ≡ q → (t u : Term) → sub q t ≡ sub q u → sub p (ren r t) ≡ sub p (ren r u)
both_past p q r e t u h = sub-ren p r t ∙ ap (λ g. sub g t) e ∙ h ∙ ap (λ g. sub g u) (sym e) ∙ sym (sub-ren p r u)

pub stands_same : (P : Program) {c : Side} {t u : Term} → Stands c t u → (p : Closing) → ClosesSide P c p → sub p t ≡ sub p u
unfolding sub push
stands_same P (stands_let {a = a}) p s = ap (λ f. f 0) s.1 ∙ sym (sub-ren p suc a ∙ ap (λ g. sub (λ n. g (suc n)) a) s.1)
stands_same P (stands_past_lambda {t = t} {u = u} w) p s = both_past p s.0 suc (ap (λ g n. g (suc n)) s.2) t u (stands_same P w s.0 s.3)
stands_same P (stands_past_let {t = t} {u = u} w) p s = both_past p s.0 suc (ap (λ g n. g (suc n)) s.1) t u (stands_same P w s.0 s.2)
stands_same P (stands_past_group {ts = ts} {t = t} {u = u} w) p s = both_past p s.0 (λ n. count ts + n) (past_group ts p s.0 s.1) t u (stands_same P w s.0 s.2)
stands_same P (stands_past_alternative {a = a} {hs = hs} {h = h} {c = c} {t = t} {u = u} w) p s =
    both_past p s.outer (λ n. binders h + suc n) (past_case P (ClosesSide P c) a hs h p s) t u (stands_same P w s.outer s.rest)
