-- The counted relation: its unfolding, lower counts, heads, steps on either side, frames.
use Rattle.std.proofs.Common.{◌≡◌, ℕ, zero, suc, ◌+◌, ◌-◌, ◌<◌, ◌≤◌, List, [], ◌∷◌, Some, refl, sym, ap, ◌∙◌, subst, arith}
use Rattle.fc_model.specs.Stepping.{Program, Frame, plug, fire, next, IsHead, Reaches}
use Rattle.fc_model.specs.Terms.{Sort, Lifted, Unlifted, Term, Terms, Nil, Cons, IsSorted}
use Rattle.fc_meaning.specs.Laws.{SortedProgram}
use Rattle.fc_meaning.proofs.Determined.{head_stays, one_head, one_next, next-head}
use Rattle.fc_meaning.proofs.Optional.{some_is, none_some}
use Rattle.fc_counted.specs.CountedRelation.{Counted, Fit, FieldsAgree, Agree, literals_agree, constructors_agree, lambdas_agree, Above, UnderTower, Under}
use Rattle.fc_counted.proofs.Runs.{reaches_sorted, split, join}

-- RELATIONS THAT SAY THE SAME BELOW A COUNT

abbrev Same : ℕ → Counted → Counted → Type 0
Same m R S = (i : ℕ) → i < m → (t u : Term) → (R i t u → S i t u) × (S i t u → R i t u)

fit_map : (m i : ℕ) → i < m → (R S : Counted) → Same m R S → (s : Sort) (x y : Term) → Fit S i s x y → Fit R i s x y
fit_map m i lt R S h Lifted x y f = (f.0, f.1, λ l le. (h l (omega arith) x y).1 (f.2 l le))
fit_map m i lt R S h Unlifted x y f = f

fields_map : (m : ℕ) (R S : Counted) → Same m R S → (ss : List Sort) (ts us : Terms) → FieldsAgree R m ss ts us → FieldsAgree S m ss ts us
fields_map m R S h [] Nil Nil f = tt
fields_map m R S h (Lifted ∷ ss) (Cons t ts) (Cons u us) f = (λ i lt. (h i lt t u).0 (f.0 i lt), fields_map m R S h ss ts us f.1)
fields_map m R S h (Unlifted ∷ ss) (Cons t ts) (Cons u us) f = (f.0, fields_map m R S h ss ts us f.1)
fields_map m R S h _ _ _ f = absurd f

agree_map : (m : ℕ) (R S : Counted) → Same m R S → (g h : Term) → Agree R m g h → Agree S m g h
agree_map m R S w _ _ (literals_agree z) = literals_agree z
agree_map m R S w _ _ (constructors_agree c ss ts us f) = constructors_agree c ss ts us (fields_map m R S w ss ts us f)
agree_map m R S w _ _ (lambdas_agree s b d f) = lambdas_agree s b d (λ i lt x y fit. (w i lt _ _).0 (f i lt x y (fit_map m i lt R S w s x y fit)))

less : (m k : ℕ) (R S : Counted) → m ≤ k → Same k R S → Same m R S
less m k R S le h i lt t u = h i (omega arith) t u

module _ (P Q : Program) where
  above_map : (k : ℕ) (R S : Counted) → Same k R S → (t u : Term) → Above P Q k R t u → Above P Q k S t u
  above_map k R S w t u a j lt h r =
      let b = a j lt h r in
      (b.0, b.1, b.2, agree_map (k - j) R S (less (k - j) k R S (omega arith) w) h b.1 b.3)

  flip : (m : ℕ) (R S : Counted) → Same m R S → Same m S R
  flip m R S w i lt t u = ((w i lt t u).1, (w i lt t u).0)

  tower_same : (n m l : ℕ) → l < n → l < m → (t u : Term) → (UnderTower P Q n l t u → UnderTower P Q m l t u) × (UnderTower P Q m l t u → UnderTower P Q n l t u)
  unfolding UnderTower
  tower_same zero m l ln lm t u = absurd (omega arith)
  tower_same (suc n) zero l ln lm t u = absurd (omega arith)
  tower_same (suc n) (suc m) l ln lm t u =
      let w : Same l (UnderTower P Q n) (UnderTower P Q m) = λ i lt x y. tower_same n m i (omega arith) (omega arith) x y in
      (above_map l (UnderTower P Q n) (UnderTower P Q m) w t u, above_map l (UnderTower P Q m) (UnderTower P Q n) (flip l (UnderTower P Q n) (UnderTower P Q m) w) t u)

  tower-under : (k : ℕ) → Same k (UnderTower P Q k) (Under P Q)
  unfolding Under
  tower-under k i lt t u = tower_same k (suc i) i lt (omega arith) t u

  -- THE UNFOLDING

  pub under_in : (k : ℕ) (t u : Term) → Above P Q k (Under P Q) t u → Under P Q k t u
  unfolding Under UnderTower
  under_in k t u a = above_map k (Under P Q) (UnderTower P Q k) (flip k (UnderTower P Q k) (Under P Q) (tower-under k)) t u a

  pub under_out : (k : ℕ) (t u : Term) → Under P Q k t u → Above P Q k (Under P Q) t u
  unfolding Under UnderTower
  under_out k t u a = above_map k (UnderTower P Q k) (Under P Q) (tower-under k) t u a

  -- LOWER COUNTS

  pub fit_down : (R : Counted) (k l : ℕ) → l ≤ k → (s : Sort) (x y : Term) → Fit R k s x y → Fit R l s x y
  fit_down R k l le Lifted x y f = (f.0, f.1, λ i w. f.2 i (omega arith))
  fit_down R k l le Unlifted x y f = f

  pub fields_down : (R : Counted) (k l : ℕ) → l ≤ k → (ss : List Sort) (ts us : Terms) → FieldsAgree R k ss ts us → FieldsAgree R l ss ts us
  fields_down R k l le [] Nil Nil f = tt
  fields_down R k l le (Lifted ∷ ss) (Cons t ts) (Cons u us) f = (λ i lt. f.0 i (omega arith), fields_down R k l le ss ts us f.1)
  fields_down R k l le (Unlifted ∷ ss) (Cons t ts) (Cons u us) f = (f.0, fields_down R k l le ss ts us f.1)
  fields_down R k l le _ _ _ f = absurd f

  pub agree_down : (R : Counted) (k l : ℕ) → l ≤ k → (g h : Term) → Agree R k g h → Agree R l g h
  agree_down R k l le _ _ (literals_agree z) = literals_agree z
  agree_down R k l le _ _ (constructors_agree c ss ts us f) = constructors_agree c ss ts us (fields_down R k l le ss ts us f)
  agree_down R k l le _ _ (lambdas_agree s b d f) = lambdas_agree s b d (λ i lt. f i (omega arith))

  pub under_down : (k l : ℕ) → l ≤ k → (t u : Term) → Under P Q k t u → Under P Q l t u
  under_down k l le t u w = under_in l t u (λ j lt h r.
      let a = under_out k t u w j (omega arith) h r in
      (a.0, a.1, a.2, agree_down (Under P Q) (k - j) (l - j) (omega arith) h a.1 a.3))

  pub under_zero : (t u : Term) → Under P Q zero t u
  under_zero t u = under_in zero t u (λ j lt h r. absurd (omega arith))

  -- HEADS THAT AGREE

  agree_right : (R : Counted) (m : ℕ) (g h : Term) → Agree R m g h → IsHead h
  agree_right R m _ _ (literals_agree z) = tt
  agree_right R m _ _ (constructors_agree c ss ts us f) = tt
  agree_right R m _ _ (lambdas_agree s b d f) = tt

  agree_left : (R : Counted) (m : ℕ) (g h : Term) → Agree R m g h → IsHead g
  agree_left R m _ _ (literals_agree z) = tt
  agree_left R m _ _ (constructors_agree c ss ts us f) = tt
  agree_left R m _ _ (lambdas_agree s b d f) = tt

  pub agree-under : (m l : ℕ) → l ≤ m → (g h : Term) → Agree (Under P Q) m g h → Under P Q l g h
  agree-under m l le g h a = under_in l g h (λ j lt x r.
      let e = head_stays P j g x (agree_left (Under P Q) m g h a) r in
      (zero, h, (refl, agree_right (Under P Q) m g h a), subst (λ y. Agree (Under P Q) (l - j) y h) e.1 (agree_down (Under P Q) m (l - j) (omega arith) g h a)))

  -- STEPS

  -- a step on the left takes a count, one on the right does not
  pub step_left : (k : ℕ) (t t' u : Term) → next P t ≡ Some t' → ((i : ℕ) → i < k → Under P Q i t' u) → Under P Q k t u
  step_left k t t' u e w = under_in k t u go
    where
      go : Above P Q k (Under P Q) t u
      go zero lt h r = absurd (none_some (sym (next-head P t r.1) ∙ e))
      go (suc j) lt h r =
          let q = subst (λ x. Reaches P x j h) (one_next P t r.0 t' r.1 e) r.2 in
          let a = under_out (k - 1) t' u (w (k - 1) (omega arith)) j (omega arith) h q in
          let n : k - 1 - j ≡ k - suc j = omega arith in
          (a.0, a.1, a.2, subst (λ m. Agree (Under P Q) m h a.1) n a.3)

  pub step_right : (k : ℕ) (t u u' : Term) → next Q u ≡ Some u' → Under P Q k t u' → Under P Q k t u
  step_right k t u u' e w = under_in k t u (λ j lt h r.
      let a = under_out k t u' w j lt h r in
      (suc a.0, a.1, (u', e, a.2), a.3))

  -- what is under before a step is under behind it
  pub after_left : (k : ℕ) (t t' u : Term) → next P t ≡ Some t' → Under P Q (suc k) t u → Under P Q k t' u
  after_left k t t' u e w = under_in k t' u (λ j lt h r.
      let a = under_out (suc k) t u w (suc j) (omega arith) h (t', e, r) in
      let n : suc k - suc j ≡ k - j = omega arith in
      (a.0, a.1, a.2, subst (λ m. Agree (Under P Q) m h a.1) n a.3))

  pub after_right : (k : ℕ) (t u u' : Term) → next Q u ≡ Some u' → Under P Q k t u → Under P Q k t u'
  after_right k t u u' e w = under_in k t u' (λ j lt h r.
      let a = under_out k t u w j lt h r in
      go j h a.0 a.1 a.2 a.3)
    where
      go : (j : ℕ) (h : Term) (i : ℕ) (g : Term) → Reaches Q u i g → Agree (Under P Q) (k - j) h g → (i' : ℕ) × (g' : Term) × Reaches Q u' i' g' × Agree (Under P Q) (k - j) h g'
      go j h zero g r a = absurd (none_some (sym (next-head Q u r.1) ∙ e))
      go j h (suc i) g r a = (i, g, subst (λ x. Reaches Q x i g) (one_next Q u r.0 u' r.1 e) r.2, a)

  -- FRAMES

  -- heads that t and u come to, and that agree below m, make the frames step to terms that are under below m
  abbrev pub Fires : Term → Term → Frame → Frame → ℕ → Type 0
  Fires t u f g m =
      (n l : ℕ) (h x v : Term) → Reaches P t n h → Reaches Q u l x → IsSorted [] h → IsSorted [] x → Agree (Under P Q) m h x → fire f h ≡ Some
      v → (w : Term) × (fire g x ≡ Some w) × ((i : ℕ) → i < m → Under P Q i v w)

  -- frames around terms that are under one another
  pub frame_under : SortedProgram P → SortedProgram Q → (f g : Frame) (k : ℕ) (t u : Term) → IsSorted [] t → IsSorted [] u → Under P Q k t u → ((m : ℕ) → m ≤ k → Fires t u f g m)
      → Under P Q k (plug f t) (plug g u)
  frame_under sp sq f g k t u st su w fs = under_in k (plug f t) (plug g u) go
    where
      go : Above P Q k (Under P Q) (plug f t) (plug g u)
      go j lt h r =
          let d = split P f j t h r in
          let c = d.counts in
          let a = under_out k t u w d.inner (omega arith) d.head d.inside in
          let m = k - d.inner in
          let x = fs m (omega arith) d.inner a.0 d.head a.1 d.after d.inside a.2 (reaches_sorted P sp d.inner t d.head st d.inside) (reaches_sorted Q sq a.0 u a.1 su a.2) a.3 d.fires in
          let l = k - suc d.inner in
          let b = under_out l d.after x.0 (x.2 l (omega arith)) d.rest (omega arith) h d.goes in
          let n : l - d.rest ≡ k - j = omega arith in
          (suc (a.0 + b.0), b.1, join Q g a.0 b.0 u a.1 x.0 b.1 a.2 x.1 b.2, subst (λ q. Agree (Under P Q) q h b.1) n b.3)

  -- a run on the left, or on the right, of a related pair
  pub after_run_left : (j k : ℕ) (t h u : Term) → Reaches P t j h → Under P Q (j + k) t u → Under P Q k h u
  after_run_left zero k t h u r w = let n : zero + k ≡ k = omega arith in subst (λ x. Under P Q k x u) r.0 (subst (λ m. Under P Q m t u) n w)
  after_run_left (suc j) k t h u r w =
      let n : suc j + k ≡ suc (j + k) = omega arith in
      after_run_left j k r.0 h u r.2 (after_left (j + k) t r.0 u r.1 (subst (λ m. Under P Q m t u) n w))

  pub after_run_right : (j k : ℕ) (t u h : Term) → Reaches Q u j h → Under P Q k t u → Under P Q k t h
  after_run_right zero k t u h r w = subst (Under P Q k t) r.0 w
  after_run_right (suc j) k t u h r w = after_run_right j k t r.0 h r.2 (after_right k t u r.0 r.1 w)

  -- a frame whose inner term comes to a head, on the right
  pub frame_right : (f : Frame) (l k : ℕ) (t u g v : Term) → Reaches Q u l g → fire f g ≡ Some v → Under P Q k t v → Under P Q k t (plug f u)
  frame_right f l k t u g v r e w = under_in k t (plug f u) (λ j lt h q.
      let a = under_out k t v w j lt h q in
      (suc (l + a.0), a.1, join Q f l a.0 u g v a.1 r e a.2, a.3))

  -- the same on the left takes a count
  pub frame_left : (f : Frame) (l k : ℕ) (t u g v : Term) → Reaches P t l g → fire f g ≡ Some v → ((i : ℕ) → suc (l + i) ≤ k → Under P Q i v u) → Under P Q k (plug f t) u
  frame_left f l k t u g v r e w = under_in k (plug f t) u (λ j lt h q.
      let d = split P f j t h q in
      let one = one_head P l d.inner t g d.head r d.inside in
      let same : v ≡ d.after = some_is (sym e ∙ ap (fire f) one.1 ∙ d.fires) in
      let c = d.counts in
      let s = one.0 in
      let m = k - suc l in
      let a = under_out m v u (w m (omega arith)) d.rest (omega arith) h (subst (λ x. Reaches P x d.rest h) (sym same) d.goes) in
      let n : m - d.rest ≡ k - j = omega arith in
      (a.0, a.1, a.2, subst (λ x. Agree (Under P Q) x h a.1) n a.3))
