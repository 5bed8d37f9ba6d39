-- Terms that differ in parts that are under one another are so themselves, as in Howe's method: one former at a time.
use Rattle.std.proofs.Common.{◌≡◌, ℕ, zero, suc, ◌<◌, ◌≤◌, List, [], ◌∷◌, length, Option, Some, None, option_map, ℤ, refl, sym, ap, ap₂, ◌∙◌, subst, subst₂, arith}
use Rattle.fc_syntax.specs.Primitives.{primitive_value}
use Rattle.fc_syntax.specs.declared.expr.PrimOp.{PrimOp}
use Rattle.fc_syntax.specs.declared.ty.Name.{Name}
use Rattle.fc_model.specs.Stepping.{Program, Key, found, wrap, on_literals, next}
use Rattle.fc_model.specs.Terms.{Sort, Lifted, Unlifted, Head, Default, OfLit, OfCon, Term, Lit, Var, Global, Fail, Let, Rec, Prim, Terms, Nil, Cons, Alts, NoAlt, Alt, count, binders, up, ups}
use Rattle.fc_model.specs.Terms.{sub, sub_terms, sub_alts, push, pushes, enters, lifteds, head_sorts, IsAtom, HasSorts, InRange, IsSorted, AreSorted, AltsAreSorted}
use Rattle.fc_meaning.specs.Laws.{SortedProgram}
use Rattle.fc_meaning.proofs.SortedSteps.{sorted_wrap}
use Rattle.fc_meaning.proofs.SortsKept.{Puts, sorted_sub}
use Rattle.fc_counted.specs.Changes.{PartRelation, Change, change_here, same_literal, same_variable, same_global, same_fail, change_in_application, change_in_lambda, change_in_let, change_in_group}
use Rattle.fc_counted.specs.Changes.{change_in_case, change_in_constructor, same_primitive, ChangeAt, lifted_change, unlifted_same, ChangeTerms, no_terms, more_terms, ChangeFields, no_fields}
use Rattle.fc_counted.specs.Changes.{more_fields, ChangeAlts, no_alternatives, more_alternatives}
use Rattle.fc_counted.specs.Closings.{Closing, Closes, FieldsFit, AreClosing, own_fields, TakesHead, SameSorts, OpenUnder, AllOpenUnder, PartsUnder}
use Rattle.fc_counted.specs.CountedRelation.{Counted, Fit, AgreesAt, FieldsAgree, Under}
use Rattle.fc_counted.specs.CountingLaws.{ProgramUnder}
use Rattle.fc_counted.specs.Places.{Place, PastGroup, InAlt, sorts_in, heads_of}
use Rattle.fc_counted.proofs.ChosenAlike.{AltsFor}
use Rattle.fc_counted.proofs.Closing.{closes_push, closes_pushes, closes_down, closing_down, closing_body, closing_let, closing_group}
use Rattle.fc_counted.proofs.Counting
use Rattle.fc_counted.proofs.Formers.{puts_left, puts_right, FoundFor}
use Rattle.fc_counted.proofs.Formers
use Rattle.fc_counted.proofs.TermSubstitutions.{put_one, put_all, put_fields, count-sub}

pub count-fits : (R : Counted) (k : ℕ) (ss : List Sort) (ts us : Terms) → FieldsFit R k ss ts us → (length ss ≡ count ts) × (length ss ≡ count us)
unfolding count
count-fits R k [] Nil Nil f = (refl, refl)
count-fits R k (s ∷ ss) (Cons t ts) (Cons u us) f = let w = count-fits R k ss ts us f.1 in (ap suc w.0, ap suc w.1)
count-fits R k _ _ _ f = absurd f

pub count-wrap : (g ts : Terms) → count (wrap g ts) ≡ count ts
unfolding count wrap
count-wrap g Nil = refl
count-wrap g (Cons t ts) = ap suc (count-wrap g ts)

pub change_lifteds : {R : PartRelation} {c : Place} {ts us : Terms} → ChangeTerms R c ts us → lifteds ts ≡ lifteds us
unfolding lifteds
change_lifteds no_terms = refl
change_lifteds (more_terms w v) = ap (λ l. Lifted ∷ l) (change_lifteds v)

module _ (P Q : Program) where
  abbrev Related : Counted
  Related = Under P Q

  -- BODIES

  body_one : (i : ℕ) (x y : Term) (p q : Closing) (b d : Term) → Related i (sub (push x p) b) (sub (push y q) d) → Related i (sub (push x Var) (sub (up p) b)) (sub (push y Var) (sub (up q) d))
  body_one i x y p q b d w = subst₂ (Related i) (sym (put_one x p b)) (sym (put_one y q d)) w

  body_fields : (i : ℕ) (ts us : Terms) (x y : Term) (p q : Closing) (n : ℕ) (b d : Term) → n ≡ count ts → n ≡ count us → Related i (sub (pushes ts (push x p)) b) (sub (pushes us (push y q)) d)
      → Related i (sub (pushes ts (push x Var)) (sub (ups n (up p)) b)) (sub (pushes us (push y Var)) (sub (ups n (up q)) d))
  body_fields i ts us x y p q n b d e f w =
      subst₂ (Related i)
      (sym (ap (λ m. sub (pushes ts (push x Var)) (sub (ups m (up p)) b)) e ∙ put_fields ts x p b))
      (sym (ap (λ m. sub (pushes us (push y Var)) (sub (ups m (up q)) d)) f ∙ put_fields us y q d))
      w

  global_under : (k : ℕ) (x : Name) → ProgramUnder P Q k → Related k (Global x) (Global x)
  unfolding next
  global_under k x w = go (P x) refl
    where
      go : (o : Option Term) → P x ≡ o → Related k (Global x) (Global x)
      go None e = Formers.stuck_under P Q k (Global x) (Global x) e (λ h. h)
      go (Some t) e = let v = w x t e in Formers.same_step P Q k (Global x) t (Global x) v.0 e v.1 v.2

  prim_under : (k : ℕ) (o : PrimOp) (a b : ℤ) → Related k (Prim o (Lit a) (Lit b)) (Prim o (Lit a) (Lit b))
  unfolding next on_literals
  prim_under k o a b = go (primitive_value o a b) refl
    where
      go : (v : Option ℤ) → primitive_value o a b ≡ v → Related k (Prim o (Lit a) (Lit b)) (Prim o (Lit a) (Lit b))
      go None e = Formers.stuck_under P Q k _ _ (ap (option_map Lit) e) (λ h. h)
      go (Some z) e = Formers.same_step P Q k _ (Lit z) _ (Lit z) (ap (option_map Lit) e) (ap (option_map Lit) e) (λ i lt. Formers.lit_under P Q i z)

  -- an atom's instances are equal literals
  pub atoms : (i : ℕ) (g : List Sort) (p q : Closing) → Closes Related i g p q → (a : Term) → IsSorted g a → IsAtom g Unlifted a → (z : ℤ) × InRange z × (sub p a ≡ Lit z) × (sub q a ≡ Lit z)
  unfolding sub
  atoms i g p q c (Lit z) s w = (z, s, refl, refl)
  atoms i g p q c (Var n) s w = c n Unlifted w
  atoms i g p q c _ s w = absurd w

  let_under : (k : ℕ) (s : Sort) (a b c d : Term) → ((i : ℕ) → i < k → Related i (sub (push a Var) c) (sub (push b Var) d)) → Related k (Let s a c) (Let s b d)
  unfolding next
  let_under k s a b c d w = Formers.same_step P Q k _ _ _ _ refl refl w

  rec_under : (k : ℕ) (ts us : Terms) (b d : Term) → ((i : ℕ) → i < k → Related i (sub (pushes (wrap ts ts) Var) b) (sub (pushes (wrap us us) Var) d)) → Related k (Rec ts b) (Rec us d)
  unfolding next
  rec_under k ts us b d w = Formers.same_step P Q k _ _ _ _ refl refl w

  fail_under : (k : ℕ) → Related k Fail Fail
  unfolding next
  fail_under k = Formers.stuck_under P Q k Fail Fail refl (λ h. h)

  pub fit_under : (i : ℕ) (x y : Term) (s : Sort) → Fit Related i s x y → Related i x y
  fit_under i x y Lifted f = f.2 i (omega arith)
  fit_under i x y Unlifted f = subst₂ (Related i) (sym f.2) (sym f.3) (Formers.lit_under P Q i f.0)

  fit_field : (s : Sort) (i : ℕ) (x y : Term) → Fit Related i s x y → AgreesAt Related i s x y
  fit_field Lifted i x y f = λ l lt. f.2 l (omega arith)
  fit_field Unlifted i x y f = f.2 ∙ sym f.3

  -- GROUPS

  -- the unrolled group closes, by induction on the count

  module _ (k : ℕ) (c : Place) (ts us : Terms) (p q : Closing) where
    abbrev left_group : Terms
    left_group = sub_terms (ups (count ts) p) ts

    abbrev right_group : Terms
    right_group = sub_terms (ups (count us) q) us

    body_group : (i : ℕ) (b d : Term) → Related i (sub (pushes (wrap left_group left_group) p) b) (sub (pushes (wrap right_group right_group) q) d)
        → Related i (sub (pushes (wrap left_group left_group) Var) (sub (ups (count ts) p) b)) (sub (pushes (wrap right_group right_group) Var) (sub (ups (count us) q) d))
    body_group i b d w =
        let e = sym (count-sub (ups (count ts) p) ts) ∙ sym (count-wrap left_group left_group) in
        let f = sym (count-sub (ups (count us) q) us) ∙ sym (count-wrap right_group right_group) in
        subst₂ (Related i)
        (sym (ap (λ m. sub (pushes (wrap left_group left_group) Var) (sub (ups m p) b)) e ∙ put_all (wrap left_group left_group) p b))
        (sym (ap (λ m. sub (pushes (wrap right_group right_group) Var) (sub (ups m q) d)) f ∙ put_all (wrap right_group right_group) q d))
        w

    GroupCloses : ℕ → Type 0
    GroupCloses i = AreClosing P Q i (PastGroup (lifteds ts) ts us c) (pushes (wrap left_group left_group) p) (pushes (wrap right_group right_group) q)

    -- one member
    member : (l : ℕ) → l ≤ k → (t u : Term) → OpenUnder P Q k (PastGroup (lifteds ts) ts us c) t u → ((i : ℕ) → i < l → GroupCloses i)
        → Related l (Rec left_group (sub (ups (count ts) p) t)) (Rec right_group (sub (ups (count us) q) u))
    unfolding GroupCloses
    member l le t u o c = rec_under l left_group right_group _ _ (λ i lt. body_group i t u (o i (omega arith) _ _ (c i lt)))

    members : (n : ℕ) → n ≤ k → (vs ws : Terms) → AllOpenUnder P Q k (PastGroup (lifteds ts) ts us c) vs ws → AreSorted [] (wrap left_group (sub_terms (ups (count ts) p) vs))
        → AreSorted [] (wrap right_group (sub_terms (ups (count us) q) ws))
        → ((i : ℕ) → i < n → GroupCloses i) → FieldsFit Related n (lifteds vs) (wrap left_group (sub_terms (ups (count ts) p) vs)) (wrap right_group (sub_terms (ups (count us) q) ws))
    unfolding lifteds wrap sub
    members n le Nil Nil o sv sw c = tt
    members n le (Cons v vs) (Cons w ws) o sv sw c =
        ((sv.0, sw.0, λ l lt. member l (omega arith) v w o.0 (λ i h. c i (omega arith))), members n le vs ws o.1 sv.1 sw.1 c)
    members n le _ _ o sv sw c = absurd o

    group_closes : AllOpenUnder P Q k (PastGroup (lifteds ts) ts us c) ts us → AreSorted [] (wrap left_group left_group) → AreSorted [] (wrap right_group right_group) → AreClosing P Q k c p q
        → (n l : ℕ) → l ≤ n → n ≤ k → GroupCloses l
    unfolding GroupCloses
    group_closes o st su e zero l ln nk =
        closing_group P Q l ts us c p q (members l (omega arith) ts us o st su (λ i lt. absurd (omega arith))) (closing_down P Q k l (omega arith) c p q e)
    group_closes o st su e (suc n) l ln nk =
        closing_group P Q l ts us c p q (members l (omega arith) ts us o st su (λ i lt. group_closes o st su e n i (omega arith) (omega arith))) (closing_down P Q k l (omega arith) c p q e)

  open_terms_down : (k l : ℕ) → l ≤ k → (c : Place) (ts us : Terms) → AllOpenUnder P Q k c ts us → AllOpenUnder P Q l c ts us
  open_terms_down k l le c Nil Nil o = tt
  open_terms_down k l le c (Cons t ts) (Cons u us) o = (λ i w. o.0 i (omega arith), open_terms_down k l le c ts us o.1)
  open_terms_down k l le c _ _ o = absurd o

  -- what a closing substitution puts in is closed and sorted
  pub puts_on_left : (i : ℕ) (c : Place) (p q : Closing) → AreClosing P Q i c p q → Puts p (sorts_in c) []
  puts_on_left i c p q e = puts_left Related i (sorts_in c) p q e.closes

  pub puts_on_right : (i : ℕ) (c : Place) (p q : Closing) → AreClosing P Q i c p q → Puts q (sorts_in c) []
  puts_on_right i c p q e = puts_right Related i (sorts_in c) p q e.closes

  rec_open : (k : ℕ) (c : Place) (ts us : Terms) (b d : Term) → IsSorted (sorts_in c) (Rec ts b) → IsSorted (sorts_in c) (Rec us d) → AllOpenUnder P Q k (PastGroup (lifteds ts) ts us c) ts us
      → OpenUnder P Q k (PastGroup (lifteds ts) ts us c) b d
      → OpenUnder P Q k c (Rec ts b) (Rec us d)
  unfolding sub GroupCloses
  rec_open k c ts us b d st su o w i le p q e =
      let sp = sorted_sub p (sorts_in c) [] (puts_on_left i c p q e) (Rec ts b) st in
      let sq = sorted_sub q (sorts_in c) [] (puts_on_right i c p q e) (Rec us d) su in
      let x = sub_terms (ups (count ts) p) ts in
      let y = sub_terms (ups (count us) q) us in
      rec_under i x y _ _ (λ j lt. body_group i c ts us p q j b d
      (w j (omega arith) _ _
      (group_closes i c ts us p q (open_terms_down k i le (PastGroup (lifteds ts) ts us c) ts us o) (sorted_wrap [] x x sp.0 sp.0) (sorted_wrap [] y y sq.0 sq.0) e j j (omega arith) (omega arith))))

  -- THE CONGRUENCE

  heads-sub : (p : Closing) (alts : Alts) → heads_of (sub_alts p alts) ≡ heads_of alts
  unfolding heads_of sub
  heads-sub p NoAlt = refl
  heads-sub p (Alt h b alts) = ap (λ l. h ∷ l) (heads-sub p alts)

  closing_alternative : (i j m : ℕ) → j < m → m ≤ i → (s : Sort) (t u : Term) (hs : List Head) (h : Head) (c : Place) (p q : Closing) (key : Key) (x y : Term) (ss : List Sort) (ts us : Terms)
      → Formers.Heads P Q (sub p t) (sub q u) s m key x y ss ts us → TakesHead key hs h → SameSorts h ss
      → binders h ≡ count (own_fields h ts) → binders h ≡ count (own_fields h us) → FieldsFit Related j (head_sorts h) (own_fields h ts) (own_fields h us) → AreClosing P Q i c p q
      → AreClosing P Q j (InAlt s t u hs h c) (pushes (own_fields h ts) (push x p)) (pushes (own_fields h us) (push y q))
  unfolding sorts_in
  closing_alternative i j m lt le s t u hs h c p q key x y ss ts us hd w v n l f e = record {
    closes =
        closes_pushes Related j (head_sorts h) (own_fields h ts) (own_fields h us) (s ∷ sorts_in c) (push x p) (push y q) f
        (closes_push Related j s x y (sorts_in c) p q (hd.fits j lt) (closes_down P Q i j (omega arith) (sorts_in c) p q e.closes));
    on_left = record {
      outer = p;
      x = x;
      key = key;
      ss = ss;
      xs = ts;
      steps = hd.n;
      whole = refl;
      shape = hd.left_shape;
      takes = w;
      same_sorts = v;
      counts = n;
      from = hd.left;
      rest = e.on_left;
    };
    on_right = record {
      outer = q;
      x = y;
      key = key;
      ss = ss;
      xs = us;
      steps = hd.l;
      whole = refl;
      shape = hd.right_shape;
      takes = w;
      same_sorts = v;
      counts = l;
      from = hd.right;
      rest = e.on_right;
    };
  }

  module _ (sp : SortedProgram P) (sq : SortedProgram Q) (R : PartRelation) (k : ℕ) (programs : ProgramUnder P Q k) (rows : PartsUnder P Q R k) where
    programs_down : (i : ℕ) → i ≤ k → ProgramUnder P Q i
    programs_down i le x t e = let w = programs x t e in (w.0, w.1, λ l lt. w.2 l (omega arith))

    open_fit : (c : Place) (t u : Term) → OpenUnder P Q k c t u → IsSorted (sorts_in c) t → IsSorted (sorts_in c) u → (i : ℕ) → i ≤ k → (p q : Closing) → AreClosing P Q i c p q
        → Fit Related i Lifted (sub p t) (sub q u)
    open_fit c t u o st su i le p q e =
        (sorted_sub p (sorts_in c) [] (puts_on_left i c p q e) t st, sorted_sub q (sorts_in c) [] (puts_on_right i c p q e) u su, λ l lt. o l (omega arith) p q (closing_down P Q i l lt c p q e))

    alt_open : (i : ℕ) → i ≤ k → (s : Sort) (t u : Term) (hs : List Head) (c : Place) (p q : Closing) → AreClosing P Q i c p q → (m : ℕ) → m ≤ i
        → (key : Key) (x y : Term) (ss : List Sort) (ts us : Terms) → Formers.Heads P Q (sub p t) (sub q u) s m key x y ss ts us
        → (h : Head) (b d : Term) → OpenUnder P Q k (InAlt s t u hs h c) b d → TakesHead key hs h
        → FoundFor Related m x y ss ts us (found h (sub (ups (binders h) (up p)) b)) (found h (sub (ups (binders h) (up q)) d))
    unfolding found binders head_sorts ups own_fields pushes count
    alt_open i le s t u hs c p q e m lm key x y ss ts us hd Default b d w tk =
        λ j lt. body_one j x y p q b d (w j (omega arith) _ _ (closing_alternative i j m lt lm s t u hs Default c p q key x y ss ts us hd tk tt refl refl tt e))
    alt_open i le s t u hs c p q e m lm key x y ss ts us hd (OfLit z) b d w tk =
        λ j lt. body_one j x y p q b d (w j (omega arith) _ _ (closing_alternative i j m lt lm s t u hs (OfLit z) c p q key x y ss ts us hd tk tt refl refl tt e))
    alt_open i le s t u hs c p q e m lm key x y ss ts us hd (OfCon n rs) b d w tk = (
      refl,
      λ same j lt.
          let fs = subst (λ z. FieldsFit Related j z ts us) (sym same) (hd.all_fit j lt) in
          let cs = count-fits Related j rs ts us fs in
          let closing = closing_alternative i j m lt lm s t u hs (OfCon n rs) c p q key x y ss ts us hd tk same cs.0 cs.1 fs e in
          body_fields j ts us x y p q (length rs) b d cs.0 cs.1 (w j (omega arith) _ _ closing),
    )

    mutual
      unfolding sub sorts_in

      pub change_open : {c : Place} {t u : Term} → Change R c t u → IsSorted (sorts_in c) t → IsSorted (sorts_in c) u → OpenUnder P Q k c t u
      change_open {c = c} {t = t} {u = u} (change_here r) st su i le p q e = rows c t u r st su i le p q e
      change_open same_literal st su i le p q e = Formers.lit_under P Q i _
      change_open {c = c} (same_variable {n = n}) st su i le p q e = fit_under i (p n) (q n) st.0 (e.closes n st.0 st.1)
      change_open same_global st su i le p q e = global_under i _ (programs_down i le)
      change_open same_fail st su i le p q e = fail_under i
      change_open {c = c} (change_in_application {s = s} {t = t} {u = u} {a = a} {b = b} w v) st su i le p q e =
          Formers.app_under P Q sp sq i s (sub p t) (sub q u) (sub p a) (sub q b) (sorted_sub p (sorts_in c) [] (puts_on_left i c p q e) t st.0)
          (sorted_sub q (sorts_in c) [] (puts_on_right i c p q e) u su.0) (change_open w st.0 su.0 i le p q e) (at_fit v st.1 su.1 st.2 i le p q e)
      change_open {c = c} (change_in_lambda {s = s} {b = b} {d = d} w) st su i le p q e =
          Formers.lam_under P Q i s (sub (up p) b) (sub (up q) d)
          (λ j lt x y f. body_one j x y p q b d (change_open w st su j (omega arith) (push x p) (push y q) (closing_body P Q j s c p q x y f (closing_down P Q i j (omega arith) c p q e))))
      change_open {c = c} (change_in_let {s = s} {a = a} {b = b} {e = h} {d = d} v w) st su i le p q e =
          let_under i s (sub p a) (sub q b) (sub (up p) h) (sub (up q) d) (λ j lt.
          let fit = Counting.fit_down P Q Related i j (omega arith) s _ _ (at_fit v st.0 su.0 st.1 i le p q e) in
          let closing = closing_let P Q j s a b c p q fit (closing_down P Q i j (omega arith) c p q e) in
          body_one j (sub p a) (sub q b) p q h d (change_open w st.2 su.2 j (omega arith) _ _ closing))
      change_open {c = c} (change_in_group {ts = ts} {us = us} {b = b} {d = d} v w) st su i le p q e =
          let su' = subst (λ ls. AreSorted (enters ls (sorts_in c)) us × IsSorted (enters ls (sorts_in c)) d) (sym (change_lifteds v)) su in
          rec_open k c ts us b d st su (terms_open v st.0 su'.0) (change_open w st.1 su'.1) i le p q e
      change_open {c = c} (change_in_case {s = s} {t = t} {u = u} {alts = alts} {blts = blts} w v) st su i le p q e =
          Formers.case_under P Q sp sq i s (sub p t) (sub q u) (sub_alts p alts) (sub_alts q blts) (sorted_sub p (sorts_in c) [] (puts_on_left i c p q e) t st.0)
          (sorted_sub q (sorts_in c) [] (puts_on_right i c p q e) u su.0) (change_open w st.0 su.0 i le p q e)
          (λ m lm key x y ss ts us hd. subst (λ hs.
          AltsFor (FoundFor Related m x y ss ts us) key hs (sub_alts p alts) (sub_alts q blts)) (sym (heads-sub p alts)) (alts_open v st.1 su.1 i le p q e m lm key x y ss ts us hd))
      change_open {c = c} (change_in_constructor {k = n} {ss = ss} {ts = ts} {us = us} v) st su i le p q e =
          Formers.con_under P Q i n ss (sub_terms p ts) (sub_terms q us) (fields_open v st.0 su.0 st.1 i le p q e)
      change_open {c = c} (same_primitive {o = o} {a = a} {b = b}) st su i le p q e =
          let x = atoms i (sorts_in c) p q e.closes a st.0 st.1 in let y = atoms i (sorts_in c) p q e.closes b st.2 st.3 in
          subst₂ (Related i) (ap₂ (Prim o) (sym x.2) (sym y.2)) (ap₂ (Prim o) (sym x.3) (sym y.3)) (prim_under i o x.0 y.0)

      pub at_fit : {c : Place} {s : Sort} {a b : Term} → ChangeAt R c s a b → IsSorted (sorts_in c) a → IsSorted (sorts_in c) b → IsAtom (sorts_in c) s a → (i : ℕ) → i ≤ k → (p q : Closing)
          → AreClosing P Q i c p q → Fit Related i s (sub p a) (sub q b)
      at_fit {c = c} {a = a} {b = b} (lifted_change w) st su ia i le p q e = open_fit c a b (change_open w st su) st su i le p q e
      at_fit {c = c} {a = a} unlifted_same st su ia i le p q e = atoms i (sorts_in c) p q e.closes a st ia

      terms_open : {c : Place} {ts us : Terms} → ChangeTerms R c ts us → AreSorted (sorts_in c) ts → AreSorted (sorts_in c) us → AllOpenUnder P Q k c ts us
      terms_open no_terms st su = tt
      terms_open (more_terms w v) st su = (change_open w st.0 su.0, terms_open v st.1 su.1)

      fields_open : {c : Place} {ss : List Sort} {ts us : Terms} → ChangeFields R c ss ts us → AreSorted (sorts_in c) ts → AreSorted (sorts_in c) us → HasSorts (sorts_in c) ss ts → (i : ℕ)
          → i ≤ k → (p q : Closing) → AreClosing P Q i c p q → FieldsAgree Related i ss (sub_terms p ts) (sub_terms q us)
      fields_open no_fields st su hs i le p q e = tt
      fields_open (more_fields {s = s} w v) st su hs i le p q e = (fit_field s i _ _ (at_fit w st.0 su.0 hs.0 i le p q e), fields_open v st.1 su.1 hs.1 i le p q e)

      alts_open : {s : Sort} {t u : Term} {hs : List Head} {c : Place} {alts blts : Alts} → ChangeAlts R s t u hs c alts blts → AltsAreSorted (s ∷ sorts_in c) alts
          → AltsAreSorted (s ∷ sorts_in c) blts → (i : ℕ) → i ≤ k → (p q : Closing) → AreClosing P Q i c p q → (m : ℕ) → m ≤ i
          → (key : Key) (x y : Term) (ss : List Sort) (ts us : Terms) → Formers.Heads P Q (sub p t) (sub q u) s m key x y ss ts us
          → AltsFor (FoundFor Related m x y ss ts us) key hs (sub_alts p alts) (sub_alts q blts)
      alts_open no_alternatives st su i le p q e m lm key x y ss ts us hd = tt
      alts_open {s = s} {t = t} {u = u} {hs = hs} {c = c} (more_alternatives {h = h} {b = b} {d = d} w v) st su i le p q e m lm key x y ss ts us hd =
          (refl, alt_open i le s t u hs c p q e m lm key x y ss ts us hd h b d (change_open w st.0 su.0), alts_open v st.1 su.1 i le p q e m lm key x y ss ts us hd)
