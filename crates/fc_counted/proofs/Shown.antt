-- What is under at all counts shows as much.
use Rattle.std.proofs.Common.{◌≡◌, ℕ, zero, suc, ◌+◌, ◌-◌, List, [], ◌∷◌, ℤ, refl, sym, ap, ◌∙◌, subst, arith}
use Rattle.fc_syntax.specs.declared.ty.Name.{Name}
use Rattle.fc_model.specs.Observing.{Observation, Anything, Number, Function, Built, Observations, NoneMore, OneMore, Sees, SeeAll}
use Rattle.fc_model.specs.Stepping.{Program, Reaches}
use Rattle.fc_model.specs.Terms.{Sort, Lifted, Unlifted, Term, Lit, Var, Lam, Con, Terms, Nil, Cons, sort_at, HasSorts, IsSorted, AreSorted}
use Rattle.fc_meaning.specs.Laws.{SortedProgram}
use Rattle.fc_meaning.proofs.Determined.{one_head}
use Rattle.fc_meaning.proofs.Optional.{none_some}
use Rattle.fc_counted.specs.CountedRelation.{Counted, FieldsAgree, Agree, literals_agree, constructors_agree, lambdas_agree, Under}
use Rattle.fc_counted.proofs.Counting
use Rattle.fc_counted.proofs.Formers
use Rattle.fc_counted.proofs.Runs.{reaches_sorted}

agree_lit : (R : Counted) (m : ℕ) (z : ℤ) (g : Term) → Agree R m (Lit z) g → g ≡ Lit z
agree_lit R m z g (literals_agree y) = refl

agree_lam : (R : Counted) (m : ℕ) (s : Sort) (b g : Term) → Agree R m (Lam s b) g → (d : Term) × (g ≡ Lam s d)
agree_lam R m s b g (lambdas_agree r b' d f) = (d, refl)

agree_con : (R : Counted) (m : ℕ) (c : Name) (ss : List Sort) (ts : Terms) (g : Term) → Agree R m (Con c ss ts) g → (us : Terms) × (g ≡ Con c ss us) × FieldsAgree R m ss ts us
agree_con R m c ss ts g (constructors_agree d rs ts' us f) = (us, refl, f)

fields_of : Term → Terms
fields_of (Con c ss ts) = ts
fields_of _ = Nil

same_fields : (c d : Name) (ss rs : List Sort) (ts us : Terms) → Con c ss ts ≡ Con d rs us → ts ≡ us
unfolding fields_of
same_fields c d ss rs ts us e = ap fields_of e

module _ (P Q : Program) where
  AllUnder : Terms → Terms → Type 0
  AllUnder Nil Nil = Unit {0}
  AllUnder (Cons t ts) (Cons u us) = ((m : ℕ) → Under P Q m t u) × AllUnder ts us
  AllUnder _ _ = ⊥

  all_under : (ss : List Sort) (ts us : Terms) → HasSorts [] ss ts → ((m : ℕ) → FieldsAgree (Under P Q) (suc m) ss ts us) → AllUnder ts us
  unfolding AllUnder sort_at
  all_under [] Nil Nil hs f = tt
  all_under (Lifted ∷ ss) (Cons t ts) (Cons u us) hs f = (λ m. (f m).0 m (omega arith), all_under ss ts us hs.1 (λ m. (f m).1))
  all_under (Unlifted ∷ ss) (Cons (Lit z) ts) (Cons u us) hs f = (λ m. subst (Under P Q m (Lit z)) (f m).0 (Formers.lit_under P Q m z), all_under ss ts us hs.1 (λ m. (f m).1))
  all_under (Unlifted ∷ ss) (Cons (Var n) ts) (Cons u us) hs f = absurd (none_some hs.0)
  all_under (Unlifted ∷ ss) (Cons _ ts) (Cons u us) hs f = absurd hs.0
  all_under [] Nil (Cons u us) hs f = absurd (f zero)
  all_under [] (Cons t ts) us hs f = absurd hs
  all_under (s ∷ ss) Nil us hs f = absurd hs
  all_under (Lifted ∷ ss) (Cons t ts) Nil hs f = absurd (f zero)
  all_under (Unlifted ∷ ss) (Cons _ ts) Nil hs f = absurd (f zero)

  -- the head on the right, and what its fields are under
  record Match (u : Term) (c : Name) (ss : List Sort) (ts : Terms) : Type 0 where
    steps : ℕ
    fields : Terms
    there : Reaches Q u steps (Con c ss fields)
    agree : (m : ℕ) → FieldsAgree (Under P Q) (suc m) ss ts fields

  matched_head : (t u : Term) → ((m : ℕ) → Under P Q m t u) → (k : ℕ) (c : Name) (ss : List Sort) (ts : Terms) → Reaches P t k (Con c ss ts) → Match u c ss ts
  matched_head t u w k c ss ts r =
      let a = Counting.under_out P Q (suc k) t u (w (suc k)) k (omega arith) (Con c ss ts) r in
      let x = agree_con (Under P Q) (suc k - k) c ss ts a.1 a.3 in
      record {
        steps = a.0;
        fields = x.0;
        there = subst (Reaches Q u a.0) x.1 a.2;
        agree = λ m.
            let b = Counting.under_out P Q (suc m + k) t u (w (suc m + k)) k (omega arith) (Con c ss ts) r in
            let y = agree_con (Under P Q) (suc m + k - k) c ss ts b.1 b.3 in
            let one = one_head Q a.0 b.0 u a.1 b.1 a.2 b.2 in
            let same = same_fields c c ss ss y.0 x.0 (sym y.1 ∙ sym one.1 ∙ x.1) in
            let n : suc m + k - k ≡ suc m = omega arith in
            subst (λ l. FieldsAgree (Under P Q) l ss ts x.0) n (subst (λ us. FieldsAgree (Under P Q) (suc m + k - k) ss ts us) same y.2);
      }

  module _ (sp : SortedProgram P) where
    mutual
      unfolding AllUnder

      pub sees_more : (o : Observation) (t u : Term) → IsSorted [] t → ((m : ℕ) → Under P Q m t u) → Sees P t o → Sees Q u o
      sees_more Anything t u st w s = tt
      sees_more (Number z) t u st w s =
          let a = Counting.under_out P Q (suc s.0) t u (w (suc s.0)) s.0 (omega arith) (Lit z) s.1 in
          (a.0, subst (Reaches Q u a.0) (agree_lit (Under P Q) (suc s.0 - s.0) z a.1 a.3) a.2)
      sees_more Function t u st w s =
          let a = Counting.under_out P Q (suc s.0) t u (w (suc s.0)) s.0 (omega arith) (Lam s.1 s.2) s.3 in
          let x = agree_lam (Under P Q) (suc s.0 - s.0) s.1 s.2 a.1 a.3 in
          (a.0, s.1, x.0, subst (Reaches Q u a.0) x.1 a.2)
      sees_more (Built c os) t u st w s =
          let x = matched_head t u w s.0 c s.1 s.2 s.3 in
          let sh = reaches_sorted P sp s.0 t (Con c s.1 s.2) st s.3 in
          (x.steps, s.1, x.fields, x.there, see_all os s.2 x.fields sh.0 (all_under s.1 s.2 x.fields sh.1 x.agree) s.4)

      see_all : (os : Observations) (ts us : Terms) → AreSorted [] ts → AllUnder ts us → SeeAll P ts os → SeeAll Q us os
      see_all NoneMore Nil Nil st w s = tt
      see_all (OneMore o os) (Cons t ts) (Cons u us) st w s = (sees_more o t u st.0 w.0 s.0, see_all os ts us st.1 w.1 s.1)
      see_all NoneMore Nil (Cons u us) st w s = absurd w
      see_all NoneMore (Cons t ts) us st w s = absurd s
      see_all (OneMore o os) Nil us st w s = absurd s
      see_all (OneMore o os) (Cons t ts) Nil st w s = absurd w
