-- The counted relation is kept by every former, on closed terms and the instances of open ones.
use Rattle.std.proofs.Common.{◌≡◌, ℕ, zero, suc, ◌-◌, ◌<◌, ◌≤◌, List, [], ◌∷◌, cond, Some, None, ℤ, refl, sym, ap, ◌∙◌, subst, arith}
use Rattle.fc_syntax.specs.declared.ty.Name.{Name}
use Rattle.fc_model.specs.Stepping.{Program, same_sort, same_sorts, Key, LitKey, ConKey, LamKey, Found, Missing, Bare, Fielded, enter, AppTo, CaseOf, plug}
use Rattle.fc_model.specs.Stepping.{fire, next, IsHead, Reaches}
use Rattle.fc_model.specs.Terms.{Sort, Lifted, Unlifted, Term, Lit, Var, App, Lam, Case, Con, Terms, Nil, Cons, Alts, sub, push, pushes, sort_at, IsAtom}
use Rattle.fc_model.specs.Terms.{HasSorts, IsSorted, AreSorted}
use Rattle.fc_meaning.specs.Laws.{SortedProgram}
use Rattle.fc_meaning.proofs.Optional.{cond_some, some_is, none_some}
use Rattle.fc_meaning.proofs.SortedSteps.{same_sort_is, same_sorts_is}
use Rattle.fc_meaning.proofs.SortsKept.{Puts}
use Rattle.fc_counted.specs.Closings.{Closes, FieldsFit, HeadShape, literal_shape, constructor_shape, lambda_shape}
use Rattle.fc_counted.specs.CountedRelation.{Counted, Fit, FieldsAgree, Agree, literals_agree, constructors_agree, lambdas_agree, Under}
use Rattle.fc_counted.specs.Places.{heads_of}
use Rattle.fc_counted.proofs.ChosenAlike.{AltsFor, choose_for}
use Rattle.fc_counted.proofs.Counting

fit_left : (R : Counted) (k : ℕ) (s : Sort) (x y : Term) → Fit R k s x y → IsSorted [] x × IsAtom [] s x
fit_left R k Lifted x y f = (f.0, tt)
fit_left R k Unlifted x y f = subst (λ z. IsSorted [] z × IsAtom [] Unlifted z) (sym f.2) (f.1, tt)

fit_right : (R : Counted) (k : ℕ) (s : Sort) (x y : Term) → Fit R k s x y → IsSorted [] y × IsAtom [] s y
fit_right R k Lifted x y f = (f.1, tt)
fit_right R k Unlifted x y f = subst (λ z. IsSorted [] z × IsAtom [] Unlifted z) (sym f.3) (f.1, tt)

pub puts_left : (R : Counted) (k : ℕ) (g : List Sort) (p q : ℕ → Term) → Closes R k g p q → Puts p g []
puts_left R k g p q c n s e = fit_left R k s (p n) (q n) (c n s e)

pub puts_right : (R : Counted) (k : ℕ) (g : List Sort) (p q : ℕ → Term) → Closes R k g p q → Puts q g []
puts_right R k g p q c n s e = fit_right R k s (p n) (q n) (c n s e)

-- what two cases find at heads h and x with these fields
abbrev pub FoundFor : Counted → ℕ → Term → Term → List Sort → Terms → Terms → Found → Found → Type 0
FoundFor R m h x ss ts us Missing Missing = Unit {0}
FoundFor R m h x ss ts us (Bare b) (Bare d) = (i : ℕ) → i < m → R i (sub (push h Var) b) (sub (push x Var) d)
FoundFor R m h x ss ts us (Fielded rs b) (Fielded qs d) = (rs ≡ qs) × (rs ≡ ss → (i : ℕ) → i < m → R i (sub (pushes ts (push h Var)) b) (sub (pushes us (push x Var)) d))
FoundFor R m h x ss ts us _ _ = ⊥

-- fields of sorted heads fit at lower counts
fields_fit : (R : Counted) (m i : ℕ) → i < m → (ss : List Sort) (ts us : Terms) → AreSorted [] ts → HasSorts [] ss ts → AreSorted [] us → FieldsAgree R m ss ts us → FieldsFit R i ss ts us
unfolding sort_at
fields_fit R m i lt [] Nil Nil st hs su f = tt
fields_fit R m i lt (Lifted ∷ ss) (Cons t ts) (Cons u us) st hs su f = ((st.0, su.0, λ l le. f.0 l (omega arith)), fields_fit R m i lt ss ts us st.1 hs.1 su.1 f.1)
fields_fit R m i lt (Unlifted ∷ ss) (Cons (Lit z) ts) (Cons u us) st hs su f = ((z, st.0, refl, sym f.0), fields_fit R m i lt ss ts us st.1 hs.1 su.1 f.1)
fields_fit R m i lt (Unlifted ∷ ss) (Cons (Var n) ts) (Cons u us) st hs su f = absurd (none_at n hs.0)
  where
    none_at : (n : ℕ) → sort_at [] n ≡ Some Unlifted → ⊥
    none_at n e = none_some e
fields_fit R m i lt (Unlifted ∷ ss) (Cons _ ts) (Cons u us) st hs su f = absurd hs.0
fields_fit R m i lt _ _ _ st hs su f = absurd f

module _ (P Q : Program) where
  abbrev Related : Counted
  Related = Under P Q

  -- CLOSED TERMS

  fires_app : (t u : Term) (s : Sort) (a b : Term) (k : ℕ) → Fit Related k s a b → (m : ℕ) → m ≤ k → Counting.Fires P Q t u (AppTo s a) (AppTo s b) m
  unfolding fire
  fires_app t u s a b k f m le n l _ _ v rh rx sh sx (literals_agree z) e = absurd (none_some e)
  fires_app t u s a b k f m le n l _ _ v rh rx sh sx (constructors_agree c ss ts us w) e = absurd (none_some e)
  fires_app t u s a b k f m le n l _ _ v rh rx sh sx (lambdas_agree r d d' w) e =
      let c = cond_some (same_sort s r) (sub (push a Var) d) v e in
      let same = same_sort_is s r c.0 in (
        sub (push b Var) d',
        ap (λ x. cond x (Some (sub (push b Var) d')) None) c.0,
        λ i lt. subst (λ x. Related i x (sub (push b Var) d')) c.1 (w i lt a b (subst (λ o. Fit Related i o a b) same (Counting.fit_down P Q Related k i (omega arith) s a b f))),
      )

  pub app_under : SortedProgram P → SortedProgram Q → (k : ℕ) (s : Sort) (t u a b : Term) → IsSorted [] t → IsSorted [] u → Related k t u → Fit Related k s a b → Related k (App s t a) (App s u b)
  unfolding plug
  app_under sp sq k s t u a b st su w f = Counting.frame_under P Q sp sq (AppTo s a) (AppTo s b) k t u st su w (fires_app t u s a b k f)

  enter_under : (m : ℕ) (h x v : Term) (ss : List Sort) (ts us : Terms) (f g : Found) → FoundFor Related m h x ss ts us f g → enter h ss ts f ≡ Some v
      → (w : Term) × (enter x ss us g ≡ Some w) × ((i : ℕ) → i < m → Related i v w)
  unfolding enter
  enter_under m h x v ss ts us Missing Missing f e = absurd (none_some e)
  enter_under m h x v ss ts us (Bare b) (Bare d) f e = (sub (push x Var) d, refl, λ i lt. subst (λ y. Related i y (sub (push x Var) d)) (some_is e) (f i lt))
  enter_under m h x v ss ts us (Fielded rs b) (Fielded qs d) f e =
      let c = cond_some (same_sorts rs ss) (sub (pushes ts (push h Var)) b) v e in
      let w = sub (pushes us (push x Var)) d in
      let same = same_sorts_is rs ss c.0 in
      (w, ap (λ y. cond y (Some w) None) (ap (λ z. same_sorts z ss) (sym f.0) ∙ c.0), λ i lt. subst (λ y. Related i y w) c.1 (f.1 same i lt))
  enter_under m h x v ss ts us _ _ f e = absurd f

  -- heads that the scrutinees come to, of one shape, with what fits for their binders
  pub record Heads (t u : Term) (o : Sort) (m : ℕ) (key : Key) (h x : Term) (ss : List Sort) (ts us : Terms) : Type 0 where
    pub n : ℕ
    pub l : ℕ
    pub left : Reaches P t n h
    pub right : Reaches Q u l x
    pub left_shape : HeadShape key h ss ts
    pub right_shape : HeadShape key x ss us
    pub fits : (i : ℕ) → i < m → Fit Related i o h x
    pub all_fit : (i : ℕ) → i < m → FieldsFit Related i ss ts us

  abbrev pub AltsUnder : Term → Term → Sort → ℕ → Alts → Alts → Type 0
  AltsUnder t u o m alts blts = (key : Key) (h x : Term) (ss : List Sort) (ts us : Terms) → Heads t u o m key h x ss ts us → AltsFor (FoundFor Related m h x ss ts us) key (heads_of alts) alts blts

  fires_case : (t u : Term) (o : Sort) (alts blts : Alts) (m : ℕ) → AltsUnder t u o m alts blts → Counting.Fires P Q t u (CaseOf o alts) (CaseOf o blts) m
  unfolding fire
  fires_case t u Lifted alts blts m w n l _ _ v rh rx sh sx (literals_agree z) e =
      let hd : Heads t u Lifted m (LitKey z) (Lit z) (Lit z) [] Nil Nil = record {
        n = n;
        l = l;
        left = rh;
        right = rx;
        left_shape = literal_shape;
        right_shape = literal_shape;
        fits = λ i lt. (sh, sx, λ j le. Counting.agree-under P Q m j (omega arith) (Lit z) (Lit z) (literals_agree z));
        all_fit = λ i lt. tt;
      } in
      enter_under m (Lit z) (Lit z) v [] Nil Nil _ _ (choose_for (FoundFor Related m (Lit z) (Lit z) [] Nil Nil) tt (LitKey z) alts blts (w _ _ _ _ _ _ hd)) e
  fires_case t u Unlifted alts blts m w n l _ _ v rh rx sh sx (literals_agree z) e =
      let hd : Heads t u Unlifted m (LitKey z) (Lit z) (Lit z) [] Nil Nil = record {
        n = n;
        l = l;
        left = rh;
        right = rx;
        left_shape = literal_shape;
        right_shape = literal_shape;
        fits = λ i lt. (z, sh, refl, refl);
        all_fit = λ i lt. tt;
      } in
      enter_under m (Lit z) (Lit z) v [] Nil Nil _ _ (choose_for (FoundFor Related m (Lit z) (Lit z) [] Nil Nil) tt (LitKey z) alts blts (w _ _ _ _ _ _ hd)) e
  fires_case t u Lifted alts blts m w n l _ _ v rh rx sh sx (constructors_agree c ss ts us f) e =
      let hd : Heads t u Lifted m (ConKey c) (Con c ss ts) (Con c ss us) ss ts us = record {
        n = n;
        l = l;
        left = rh;
        right = rx;
        left_shape = constructor_shape;
        right_shape = constructor_shape;
        fits = λ i lt. (sh, sx, λ j le. Counting.agree-under P Q m j (omega arith) (Con c ss ts) (Con c ss us) (constructors_agree c ss ts us f));
        all_fit = λ i lt. fields_fit Related m i lt ss ts us sh.0 sh.1 sx.0 f;
      } in
      enter_under m (Con c ss ts) (Con c ss us) v ss ts us _ _ (choose_for (FoundFor Related m (Con c ss ts) (Con c ss us) ss ts us) tt (ConKey c) alts blts (w _ _ _ _ _ _ hd)) e
  fires_case t u Unlifted alts blts m w n l _ _ v rh rx sh sx (constructors_agree c ss ts us f) e = absurd (none_some e)
  fires_case t u Lifted alts blts m w n l _ _ v rh rx sh sx (lambdas_agree r b d f) e =
      let hd : Heads t u Lifted m LamKey (Lam r b) (Lam r d) [] Nil Nil = record {
        n = n;
        l = l;
        left = rh;
        right = rx;
        left_shape = lambda_shape;
        right_shape = lambda_shape;
        fits = λ i lt. (sh, sx, λ j le. Counting.agree-under P Q m j (omega arith) (Lam r b) (Lam r d) (lambdas_agree r b d f));
        all_fit = λ i lt. tt;
      } in
      enter_under m (Lam r b) (Lam r d) v [] Nil Nil _ _ (choose_for (FoundFor Related m (Lam r b) (Lam r d) [] Nil Nil) tt LamKey alts blts (w _ _ _ _ _ _ hd)) e
  fires_case t u Unlifted alts blts m w n l _ _ v rh rx sh sx (lambdas_agree r b d f) e = absurd (none_some e)

  pub case_under : SortedProgram P → SortedProgram Q → (k : ℕ) (o : Sort) (t u : Term) (alts blts : Alts) → IsSorted [] t → IsSorted [] u → Related k t u
      → ((m : ℕ) → m ≤ k → AltsUnder t u o m alts blts) → Related k (Case o t alts) (Case o u blts)
  unfolding plug
  case_under sp sq k o t u alts blts st su w f = Counting.frame_under P Q sp sq (CaseOf o alts) (CaseOf o blts) k t u st su w (λ m le. fires_case t u o alts blts m (f m le))

  -- heads: under at every count for which they agree
  pub con_under : (k : ℕ) (c : Name) (ss : List Sort) (ts us : Terms) → FieldsAgree Related k ss ts us → Related k (Con c ss ts) (Con c ss us)
  con_under k c ss ts us f = Counting.agree-under P Q k k (omega arith) _ _ (constructors_agree c ss ts us f)

  pub lit_under : (k : ℕ) (z : ℤ) → Related k (Lit z) (Lit z)
  lit_under k z = Counting.agree-under P Q k k (omega arith) _ _ (literals_agree z)

  pub lam_under : (k : ℕ) (s : Sort) (b d : Term) → ((i : ℕ) → i < k → (x y : Term) → Fit Related i s x y → Related i (sub (push x Var) b) (sub (push y Var) d)) → Related k (Lam s b) (Lam s d)
  lam_under k s b d f = Counting.agree-under P Q k k (omega arith) _ _ (lambdas_agree s b d f)

  -- a term that does not come to a head
  pub stuck_under : (k : ℕ) (t u : Term) → next P t ≡ None → (IsHead t → ⊥) → Related k t u
  stuck_under k t u e h = Counting.under_in P Q k t u go
    where
      go : (j : ℕ) → j < k → (x : Term) → Reaches P t j x → (i : ℕ) × (g : Term) × Reaches Q u i g × Agree Related (k - j) x g
      go zero lt x r = absurd (h r.1)
      go (suc j) lt x r = absurd (none_some (sym e ∙ r.1))

  pub same_step : (k : ℕ) (t t' u u' : Term) → next P t ≡ Some t' → next Q u ≡ Some u' → ((i : ℕ) → i < k → Related i t' u') → Related k t u
  same_step k t t' u u' e d w = Counting.step_left P Q k t t' u e (λ i lt. Counting.step_right P Q i t' u u' d (w i lt))
