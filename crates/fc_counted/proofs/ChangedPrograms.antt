-- A term is under itself; a change the other way round is one; programs whose definitions differ in related parts.
use Rattle.std.proofs.Common.{◌≡◌, ℕ, zero, suc, ◌≤◌, List, [], ◌∷◌, Option, Some, None, refl, sym, ap, ◌∙◌, subst, subst₂, arith}
use Rattle.fc_model.specs.Stepping.{Program}
use Rattle.fc_model.specs.Terms.{Sort, Lifted, Unlifted, Head, Term, Lit, Var, Global, Fail, App, Lam, Let, Rec, Case, Con, Prim, Terms, Nil, Cons, Alts, NoAlt, Alt, sub, enters, lifteds, head_sorts}
use Rattle.fc_model.specs.Terms.{sort_at, IsAtom, HasSorts, IsSorted, AreSorted, AltsAreSorted}
use Rattle.fc_meaning.specs.Laws.{SortedProgram}
use Rattle.fc_meaning.proofs.Optional.{some_is, none_some}
use Rattle.fc_meaning.proofs.Unnamed.{sub-var}
use Rattle.fc_counted.specs.Changes.{PartRelation, Change, change_here, same_literal, same_variable, same_global, same_fail, change_in_application, change_in_lambda, change_in_let, change_in_group}
use Rattle.fc_counted.specs.Changes.{change_in_case, change_in_constructor, same_primitive, ChangeAt, lifted_change, unlifted_same, ChangeTerms, no_terms, more_terms, ChangeFields, no_fields}
use Rattle.fc_counted.specs.Changes.{more_fields, ChangeAlts, no_alternatives, more_alternatives}
use Rattle.fc_counted.specs.Closings.{AreClosing, OpenUnder, PartsUnder}
use Rattle.fc_counted.specs.CountedRelation.{Fit, Under}
use Rattle.fc_counted.specs.CountingLaws.{ProgramUnder, DefinitionChange, ProgramChange, SeesAtLeast, SeesSame, Converse}
use Rattle.fc_counted.specs.Places.{Place, Outside, InBody, PastLet, PastGroup, InAlt, BelowLambda, BelowLet, BelowGroup, InAlternative, side_on_left, side_on_right, sorts_in, heads_of, exchange}
use Rattle.fc_counted.proofs.Congruence.{change_lifteds}
use Rattle.fc_counted.proofs.Congruence
use Rattle.fc_counted.proofs.Shown

-- NO CHANGE

pub at_same : (R : PartRelation) (c : Place) (s : Sort) (a : Term) → Change R c a a → ChangeAt R c s a a
at_same R c Lifted a w = lifted_change w
at_same R c Unlifted a w = unlifted_same

mutual
  unfolding sorts_in

  pub change_same : (R : PartRelation) (c : Place) (t : Term) → IsSorted (sorts_in c) t → Change R c t t
  change_same R c (Lit z) w = same_literal
  change_same R c (Var n) w = same_variable
  change_same R c (Global x) w = same_global
  change_same R c Fail w = same_fail
  change_same R c (App s f a) w = change_in_application (change_same R c f w.0) (at_same R c s a (change_same R c a w.1))
  change_same R c (Lam s b) w = change_in_lambda (change_same R (InBody s c) b w)
  change_same R c (Let s e b) w = change_in_let (at_same R c s e (change_same R c e w.0)) (change_same R (PastLet s e e c) b w.2)
  change_same R c (Rec ts b) w = change_in_group (change_terms_same R (PastGroup (lifteds ts) ts ts c) ts w.0) (change_same R (PastGroup (lifteds ts) ts ts c) b w.1)
  change_same R c (Case s e alts) w = change_in_case (change_same R c e w.0) (change_alts_same R s e (heads_of alts) c alts w.1)
  change_same R c (Con k ss ts) w = change_in_constructor (change_fields_same R c ss ts w.0 w.1)
  change_same R c (Prim o a b) w = same_primitive

  pub change_terms_same : (R : PartRelation) (c : Place) (ts : Terms) → AreSorted (sorts_in c) ts → ChangeTerms R c ts ts
  change_terms_same R c Nil w = no_terms
  change_terms_same R c (Cons t ts) w = more_terms (change_same R c t w.0) (change_terms_same R c ts w.1)

  pub change_fields_same : (R : PartRelation) (c : Place) (ss : List Sort) (ts : Terms) → AreSorted (sorts_in c) ts → HasSorts (sorts_in c) ss ts → ChangeFields R c ss ts ts
  change_fields_same R c [] Nil w h = no_fields
  change_fields_same R c (s ∷ ss) (Cons t ts) w h = more_fields (at_same R c s t (change_same R c t w.0)) (change_fields_same R c ss ts w.1 h.1)
  change_fields_same R c [] (Cons t ts) w h = absurd h
  change_fields_same R c (s ∷ ss) Nil w h = absurd h

  pub change_alts_same : (R : PartRelation) (s : Sort) (e : Term) (hs : List Head) (c : Place) (alts : Alts) → AltsAreSorted (s ∷ sorts_in c) alts → ChangeAlts R s e e hs c alts alts
  change_alts_same R s e hs c NoAlt w = no_alternatives
  change_alts_same R s e hs c (Alt h b alts) w = more_alternatives (change_same R (InAlt s e e hs h c) b w.0) (change_alts_same R s e hs c alts w.1)

-- the changed definition of a name
pub changed : (R : PartRelation) (a b : Option Term) → DefinitionChange R a b → (t : Term) → a ≡ Some t → (u : Term) × (b ≡ Some u) × Change R Outside t u
changed R None b w t e = absurd (none_some e)
changed R (Some x) None w t e = absurd w
changed R (Some x) (Some u) w t e = (u, refl, subst (λ y. Change R Outside y u) (some_is e) w)

-- THE OTHER DIRECTION

-- both sides of a place exchanged twice
exchange_twice : (c : Place) → exchange (exchange c) ≡ c
unfolding exchange
exchange_twice Outside = refl
exchange_twice (InBody s c) = ap (InBody s) (exchange_twice c)
exchange_twice (PastLet s a b c) = ap (PastLet s a b) (exchange_twice c)
exchange_twice (PastGroup ss ts us c) = ap (PastGroup ss ts us) (exchange_twice c)
exchange_twice (InAlt s t u hs h c) = ap (InAlt s t u hs h) (exchange_twice c)

-- the sides of an exchanged place, and its sorts
pub left_exchanged : (c : Place) → side_on_left (exchange c) ≡ side_on_right c
unfolding exchange
left_exchanged Outside = refl
left_exchanged (InBody s c) = ap (BelowLambda s) (left_exchanged c)
left_exchanged (PastLet s a b c) = ap (BelowLet s b) (left_exchanged c)
left_exchanged (PastGroup ss ts us c) = ap (BelowGroup us) (left_exchanged c)
left_exchanged (InAlt s t u hs h c) = ap (InAlternative s u hs h) (left_exchanged c)

pub right_exchanged : (c : Place) → side_on_right (exchange c) ≡ side_on_left c
right_exchanged c = sym (left_exchanged (exchange c)) ∙ ap side_on_left (exchange_twice c)

pub sorts_exchanged : (c : Place) → sorts_in (exchange c) ≡ sorts_in c
unfolding exchange sorts_in
sorts_exchanged Outside = refl
sorts_exchanged (InBody s c) = ap (λ g. s ∷ g) (sorts_exchanged c)
sorts_exchanged (PastLet s a b c) = ap (λ g. s ∷ g) (sorts_exchanged c)
sorts_exchanged (PastGroup ss ts us c) = ap (enters ss) (sorts_exchanged c)
sorts_exchanged (InAlt s t u hs h c) = ap (λ g. enters (head_sorts h) (s ∷ g)) (sorts_exchanged c)

heads_same : {R : PartRelation} {s : Sort} {t u : Term} {hs : List Head} {c : Place} {alts blts : Alts} → ChangeAlts R s t u hs c alts blts → heads_of alts ≡ heads_of blts
unfolding heads_of
heads_same no_alternatives = refl
heads_same (more_alternatives {h = h} w v) = ap (λ l. h ∷ l) (heads_same v)

mutual
  unfolding exchange

  pub change_flip : {R : PartRelation} {c : Place} {t u : Term} → Change R c t u → Change (Converse R) (exchange c) u t
  change_flip {R = R} {c = c} {t = t} {u = u} (change_here r) = change_here (subst (λ d. R d t u) (sym (exchange_twice c)) r)
  change_flip same_literal = same_literal
  change_flip same_variable = same_variable
  change_flip same_global = same_global
  change_flip same_fail = same_fail
  change_flip (change_in_application w v) = change_in_application (change_flip w) (change_flip_at v)
  change_flip (change_in_lambda w) = change_in_lambda (change_flip w)
  change_flip (change_in_let v w) = change_in_let (change_flip_at v) (change_flip w)
  change_flip {R = R} {c = c} (change_in_group {ts = ts} {us = us} {b = b} {d = d} v w) =
      let e = change_lifteds v in
      change_in_group (subst (λ ss. ChangeTerms (Converse R) (PastGroup ss us ts (exchange c)) us ts) e (change_flip_terms v))
      (subst (λ ss. Change (Converse R) (PastGroup ss us ts (exchange c)) d b) e (change_flip w))
  change_flip {R = R} {c = c} (change_in_case {s = s} {t = t} {u = u} {alts = alts} {blts = blts} w v) =
      change_in_case (change_flip w) (subst (λ hs. ChangeAlts (Converse R) s u t hs (exchange c) blts alts) (heads_same v) (change_flip_alts v))
  change_flip (change_in_constructor v) = change_in_constructor (change_flip_fields v)
  change_flip same_primitive = same_primitive

  change_flip_at : {R : PartRelation} {c : Place} {s : Sort} {a b : Term} → ChangeAt R c s a b → ChangeAt (Converse R) (exchange c) s b a
  change_flip_at (lifted_change w) = lifted_change (change_flip w)
  change_flip_at unlifted_same = unlifted_same

  change_flip_terms : {R : PartRelation} {c : Place} {ts us : Terms} → ChangeTerms R c ts us → ChangeTerms (Converse R) (exchange c) us ts
  change_flip_terms no_terms = no_terms
  change_flip_terms (more_terms w v) = more_terms (change_flip w) (change_flip_terms v)

  change_flip_fields : {R : PartRelation} {c : Place} {ss : List Sort} {ts us : Terms} → ChangeFields R c ss ts us → ChangeFields (Converse R) (exchange c) ss us ts
  change_flip_fields no_fields = no_fields
  change_flip_fields (more_fields w v) = more_fields (change_flip_at w) (change_flip_fields v)

  change_flip_alts : {R : PartRelation} {s : Sort} {t u : Term} {hs : List Head} {c : Place} {alts blts : Alts} → ChangeAlts R s t u hs c alts blts
      → ChangeAlts (Converse R) s u t hs (exchange c) blts alts
  change_flip_alts no_alternatives = no_alternatives
  change_flip_alts (more_alternatives w v) = more_alternatives (change_flip w) (change_flip_alts v)

definition_flip : (R : PartRelation) (a b : Option Term) → DefinitionChange R a b → DefinitionChange (Converse R) b a
unfolding exchange
definition_flip R None None w = tt
definition_flip R (Some t) (Some u) w = change_flip w
definition_flip R None (Some u) w = w
definition_flip R (Some t) None w = w

-- PROGRAMS

NoParts : PartRelation
NoParts g t u = ⊥

module _ (P Q : Program) (sp : SortedProgram P) (sq : SortedProgram Q) where
  nothing : (k : ℕ) → AreClosing P Q k Outside Var Var
  unfolding sorts_in sort_at
  nothing k = record { closes = λ n s e. absurd (none_some e); on_left = tt; on_right = tt }

  -- a term is under itself, in programs that are under one another
  pub same_open : (k : ℕ) → ProgramUnder P Q k → (c : Place) (t : Term) → IsSorted (sorts_in c) t → OpenUnder P Q k c t t
  unfolding NoParts
  same_open k w c t st = Congruence.change_open P Q sp sq NoParts k w (λ d t u r. absurd r) (change_same NoParts c t st) st st

  pub same_fit : (k : ℕ) → ProgramUnder P Q k → (c : Place) (s : Sort) (a : Term) → IsSorted (sorts_in c) a → IsAtom (sorts_in c) s a → (i : ℕ) → i ≤ k → (p q : ℕ → Term) → AreClosing P Q i c p q
      → Fit (Under P Q) i s (sub p a) (sub q a)
  unfolding NoParts
  same_fit k w c s a sa ia i le p q e = Congruence.at_fit P Q sp sq NoParts k w (λ d t u r. absurd r) (at_same NoParts c s a (change_same NoParts c a sa)) sa sa ia i le p q e

  pub same_closed : (k : ℕ) → ProgramUnder P Q k → (t : Term) → IsSorted [] t → Under P Q k t t
  unfolding sorts_in
  same_closed k w t st = subst₂ (Under P Q k) (sub-var t) (sub-var t) (same_open k w Outside t st k (omega arith) Var Var (nothing _))

  -- parts that are under one another wherever the programs are make the programs so
  module _ (R : PartRelation) (rows : (k : ℕ) → ProgramUnder P Q k → PartsUnder P Q R k) (ch : ProgramChange R P Q) where
    pub program_under : (k : ℕ) → ProgramUnder P Q k
    unfolding sorts_in
    program_under zero x t e = let w = changed R (P x) (Q x) (ch x) t e in (w.0, w.1, λ i lt. absurd (omega arith))
    program_under (suc k) x t e =
        let w = changed R (P x) (Q x) (ch x) t e in
        let o = Congruence.change_open P Q sp sq R k (program_under k) (rows k (program_under k)) w.2 (sp x t e) (sq x w.0 w.1) in
        (w.0, w.1, λ i lt. subst₂ (Under P Q i) (sub-var t) (sub-var w.0) (o i (omega arith) Var Var (nothing _)))

    -- what a closed sorted term shows through P it shows through Q
    pub program_sees : (t : Term) → IsSorted [] t → SeesAtLeast P Q t
    program_sees t st o s = Shown.sees_more P Q sp o t t st (λ m. same_closed m (program_under m) t st) s

-- parts that are under one another in both directions change nothing that is shown
pub both_see_same : (P Q : Program) → SortedProgram P → SortedProgram Q → (R : PartRelation) → ((k : ℕ) → ProgramUnder P Q k → PartsUnder P Q R k)
    → ((k : ℕ) → ProgramUnder Q P k → PartsUnder Q P (Converse R) k) → ProgramChange R P Q → (t : Term) → IsSorted [] t → SeesSame P Q t
both_see_same P Q sp sq R rows back ch t st o =
    (program_sees P Q sp sq R rows ch t st o, program_sees Q P sq sp (Converse R) back (λ x. definition_flip R (P x) (Q x) (ch x)) t st o)
