-- Both sides of each rewrite of terms are under one another.
use Rattle.std.proofs.Common.{◌≡◌, ℕ, suc, ◌+◌, ◌≤◌, List, [], ◌∷◌, Some, sym, ap, ◌∙◌, subst, arith}
use Rattle.fc_syntax.specs.declared.ty.Name.{Name}
use Rattle.fc_model.specs.Stepping.{Program, CaseOf, plug, next, IsHead, Reaches}
use Rattle.fc_model.specs.Terms.{Sort, Lifted, Unlifted, Default, Term, Var, Global, Let, Rec, Case, Prim, Terms, Nil, Cons, Alts, NoAlt, Alt, count, ren, sub, sub_terms, sub_alts, push, pushes, upr}
use Rattle.fc_model.specs.Terms.{enters, IsAtom, HasSorts, IsSorted, AreSorted}
use Rattle.fc_meaning.specs.Laws.{SortedProgram}
use Rattle.fc_meaning.proofs.Determined.{head_stays}
use Rattle.fc_meaning.proofs.SortedSteps.{next_sorted}
use Rattle.fc_meaning.proofs.SortsKept.{Puts, sorted_sub}
use Rattle.fc_counted.specs.Closings.{Closing, Closes, FieldsFit, ClosesSide, unrolled, PartsUnder}
use Rattle.fc_counted.specs.CountedRelation.{Counted, Fit, Under}
use Rattle.fc_counted.specs.CountingLaws.{ProgramUnder, ProgramChange, SeesSame, Converse}
use Rattle.fc_counted.specs.Places.{Place, side_on_left, side_on_right, sorts_in, exchange}
use Rattle.fc_counted.proofs.ChangedPrograms.{left_exchanged, right_exchanged, sorts_exchanged, both_see_same}
use Rattle.fc_counted.proofs.Closing.{closes_push, closes_pushes, closes_down}
use Rattle.fc_counted.proofs.Congruence
use Rattle.fc_counted.proofs.Counting
use Rattle.fc_counted.proofs.Formers.{puts_left, puts_right}
use Rattle.fc_counted.proofs.Runs.{reaches_sorted}
use Rattle.fc_term_rows.specs.Facts.{Known}
use Rattle.fc_term_rows.specs.FactsMet.{GlobalsMeet, DefinesAll}
use Rattle.fc_term_rows.specs.Heads.{SameHeads}
use Rattle.fc_term_rows.specs.TermRows.{TermRow, row_reduces, row_same, row_known, row_atom, row_dead_alternative, row_let_of_let, row_let_of_group, row_fold, row_unfold, row_standing, row_push}
use Rattle.fc_term_rows.specs.TermRows.{pushed}
use Rattle.fc_term_rows.proofs.Atoms.{same_atom, same_fold}
use Rattle.fc_term_rows.proofs.Closed.{closed_stays}
use Rattle.fc_term_rows.proofs.DeadAlternatives.{same_dead, without_sub}
use Rattle.fc_term_rows.proofs.Instances.{same_closes, sub-alt, sorts_count}
use Rattle.fc_term_rows.proofs.InstancesStep.{next_let, next_group, push_upr, group_upr}
use Rattle.fc_term_rows.proofs.Knowing.{knows_meets, stands_same}
use Rattle.fc_term_rows.proofs.KnownScrutinees.{Taking, known_takes, chosen_sorted}
use Rattle.fc_term_rows.proofs.Pushing.{same_pushed}
use Rattle.fc_term_rows.proofs.Reducing.{reduces_same}
use Rattle.fc_term_rows.proofs.Reducing as reducing
use Rattle.fc_term_rows.proofs.SameHeads.{under_follows}
use Rattle.fc_term_rows.proofs.SameHeads as same

module _ (P Q : Program) (sp : SortedProgram P) (sq : SortedProgram Q) where
  abbrev Related : Counted
  Related = Under P Q

  after_left : (i : ℕ) (t v u : Term) → next P t ≡ Some v → Related i v u → Related i t u
  after_left i t v u e w = Counting.step_left P Q i t v u e (λ j lt. Counting.under_down P Q i j (omega arith) v u w)

  -- heads in place of what comes to them
  fit_left_head : (i j l : ℕ) → l + j ≤ i → (s : Sort) (x y h : Term) → Fit Related i s x y → Reaches P x l h → Fit Related j s h y
  fit_left_head i j l le Lifted x y h f r = (reaches_sorted P sp l x h f.0 r, f.1, λ m lm. Counting.after_run_left P Q l m x h y r (f.2 (l + m) (omega arith)))
  fit_left_head i j l le Unlifted x y h f r =
      let e = head_stays P l x h (subst IsHead (sym f.2) tt) r in (f.0, f.1, sym e.1 ∙ f.2, f.3)

  fit_right_head : (i l : ℕ) (s : Sort) (x y h : Term) → Fit Related i s x y → Reaches Q y l h → Fit Related i s x h
  fit_right_head i l Lifted x y h f r = (f.0, reaches_sorted Q sq l y h f.1 r, λ m lm. Counting.after_run_right P Q l m x y h r (f.2 m lm))
  fit_right_head i l Unlifted x y h f r =
      let e = head_stays Q l y h (subst IsHead (sym f.3) tt) r in (f.0, f.1, f.2, sym e.1 ∙ f.3)

  module _ (k : ℕ) (programs : ProgramUnder P Q k) where
    below : (i : ℕ) → i ≤ k → ProgramUnder P Q i
    below i le x t e = let w = programs x t e in (w.0, w.1, λ l lt. w.2 l (omega arith))

    -- one term under both substitutions
    instances : (i : ℕ) → i ≤ k → (g : List Sort) (t : Term) → IsSorted g t → (p q : Closing) → Closes Related i g p q → Related i (sub p t) (sub q t)
    instances i le g t st p q c = same_closes P Q sp sq i (below i le) g t st p q c

    fit_of : (i : ℕ) → i ≤ k → (g : List Sort) (s : Sort) (t : Term) → IsSorted g t → IsAtom g s t → (p q : Closing) → Closes Related i g p q → Fit Related i s (sub p t) (sub q t)
    fit_of i le g Lifted t st ia p q c =
        (sorted_sub p g [] (puts_left Related i g p q c) t st, sorted_sub q g [] (puts_right Related i g p q c) t st, λ l ll. instances l (omega arith) g t st p q (closes_down P Q i l ll g p q c))
    fit_of i le g Unlifted t st ia p q c = Congruence.atoms P Q i g p q c t st ia

    fits_of : (i : ℕ) → i ≤ k → (g ss : List Sort) (ts : Terms) → AreSorted g ts → HasSorts g ss ts → (p q : Closing) → Closes Related i g p q
        → FieldsFit Related i ss (sub_terms p ts) (sub_terms q ts)
    unfolding sub
    fits_of i le g [] Nil st hs p q c = tt
    fits_of i le g (s ∷ ss) (Cons t ts) st hs p q c = (fit_of i le g s t st.0 hs.0 p q c, fits_of i le g ss ts st.1 hs.1 p q c)
    fits_of i le g [] (Cons t ts) st hs p q c = absurd hs
    fits_of i le g (s ∷ ss) Nil st hs p q c = absurd hs

    -- bodies of alternatives, with these for the binder of the case
    bodies : (i j : ℕ) → j ≤ i → i ≤ k → (g ss : List Sort) (s : Sort) (ts : Terms) (b : Term) → AreSorted g ts → HasSorts g ss ts → IsSorted (enters ss (s ∷ g)) b → (p q : Closing)
        → Closes Related i g p q → (x y : Term) → Fit Related j s x y
        → Related j (sub (pushes (sub_terms p ts) (push x p)) b) (sub (pushes (sub_terms q ts) (push y q)) b)
    bodies i j ji le g ss s ts b st hs sb p q c x y f =
        let d = closes_down P Q i j ji g p q c in
        instances j (omega arith) (enters ss (s ∷ g)) b sb (pushes (sub_terms p ts) (push x p)) (pushes (sub_terms q ts) (push y q))
        (closes_pushes Related j ss (sub_terms p ts) (sub_terms q ts) (s ∷ g) (push x p) (push y q) (fits_of j (omega arith) g ss ts st hs p q d) (closes_push Related j s x y g p q f d))

    known_forth : (i : ℕ) → i ≤ k → (g ss : List Sort) (s : Sort) (t : Term) (alts : Alts) (ts : Terms) (b : Term) → IsSorted g t → IsAtom g s t → AreSorted g ts → HasSorts g ss ts
        → IsSorted (enters ss (s ∷ g)) b → (p q : Closing) → Closes Related i g p q → Taking P s t alts ss ts b p
        → Related i (sub p (Case s t alts)) (sub q (sub (pushes ts (push t Var)) b))
    unfolding sub plug
    known_forth i le g ss s t alts ts b st ia sts hs sb p q c w =
        let f = fit_of i le g s t st ia p q c in
        subst (Related i (Case s (sub p t) (sub_alts p alts))) (sym (sub-alt q ts t b))
        (Counting.frame_left P Q (CaseOf s (sub_alts p alts)) w.steps i (sub p t) (sub (pushes (sub_terms q ts) (push (sub q t) q)) b) w.head (sub (pushes (sub_terms p ts) (push w.head p)) b)
        w.there w.fires (λ j lt.
        bodies i j (omega arith) le g ss s ts b sts hs sb p q c w.head (sub q t) (fit_left_head i j w.steps (omega arith) s (sub p t) (sub q t) w.head f w.there)))

    known_back : (i : ℕ) → i ≤ k → (g ss : List Sort) (s : Sort) (t : Term) (alts : Alts) (ts : Terms) (b : Term) → IsSorted g t → IsAtom g s t → AreSorted g ts → HasSorts g ss ts
        → IsSorted (enters ss (s ∷ g)) b → (p q : Closing) → Closes Related i g p q → Taking Q s t alts ss ts b q
        → Related i (sub p (sub (pushes ts (push t Var)) b)) (sub q (Case s t alts))
    unfolding sub plug
    known_back i le g ss s t alts ts b st ia sts hs sb p q c w =
        let f = fit_of i le g s t st ia p q c in
        subst (λ x. Related i x (Case s (sub q t) (sub_alts q alts))) (sym (sub-alt p ts t b))
        (Counting.frame_right P Q (CaseOf s (sub_alts q alts)) w.steps i (sub (pushes (sub_terms p ts) (push (sub p t) p)) b) (sub q t) w.head (sub (pushes (sub_terms q ts) (push w.head q)) b)
        w.there w.fires
        (bodies i i (omega arith) le g ss s ts b sts hs sb p q c (sub p t) w.head (fit_right_head i w.steps s (sub p t) (sub q t) w.head f w.there)))

    -- a let whose right side is a let or a group, which steps to y
    let_forth : (i : ℕ) → i ≤ k → (g : List Sort) (a b u y : Term) → IsSorted g a → IsSorted (Lifted ∷ g) b → (p q : Closing) → Closes Related i g p q → next Q (sub q a) ≡ Some y
        → SameHeads Q (sub (push y q) b) (sub q u) → Related i (sub p (Let Lifted a b)) (sub q u)
    let_forth i le g a b u y sa sb p q c e h =
        let f = fit_of i le g Lifted a sa tt p q c in
        let fy : Fit Related i Lifted (sub p a) y = (f.0, next_sorted Q sq (sub q a) y f.1 e, λ m lm. Counting.after_right P Q m (sub p a) (sub q a) y e (f.2 m lm)) in
        after_left i (sub p (Let Lifted a b)) (sub (push (sub p a) p) b) (sub q u) (next_let P Lifted a b p)
        (under_follows P Q i (sub (push (sub p a) p) b) (sub (push y q) b) (sub q u) h.0
        (instances i le (Lifted ∷ g) b sb (push (sub p a) p) (push y q) (closes_push Related i Lifted (sub p a) y g p q fy c)))

    let_back : (i : ℕ) → i ≤ k → (g : List Sort) (a b u y m : Term) → IsSorted g a → IsSorted (Lifted ∷ g) b → (p q : Closing) → Closes Related i g p q → next P (sub p a) ≡ Some y
        → next P (sub p u) ≡ Some m → next P m ≡ Some (sub (push y p) b) → Related i (sub p u) (sub q (Let Lifted a b))
    let_back i le g a b u y m sa sb p q c e d d' =
        let f = fit_of i le g Lifted a sa tt p q c in
        Counting.step_left P Q i (sub p u) m (sub q (Let Lifted a b)) d (λ j lt.
        Counting.step_left P Q j m (sub (push y p) b) (sub q (Let Lifted a b)) d' (λ l ll.
        let fy : Fit Related l Lifted y (sub q a) = (next_sorted P sp (sub p a) y f.0 e, f.1, λ n ln. Counting.after_left P Q n (sub p a) y (sub q a) e (f.2 (suc n) (omega arith))) in
        Counting.step_right P Q l (sub (push y p) b) (sub q (Let Lifted a b)) (sub (push (sub q a) q) b) (next_let Q Lifted a b q)
        (instances l (omega arith) (Lifted ∷ g) b sb (push y p) (push (sub q a) q) (closes_push Related l Lifted y (sub q a) g p q fy (closes_down P Q i l (omega arith) g p q c)))))

    -- THE REWRITES

    module _ (G : Known) (D : Name → Term → Type 0) (pm : GlobalsMeet P G) (qm : GlobalsMeet Q G) (pd : DefinesAll P D) (qd : DefinesAll Q D) where
      puts_there : (i : ℕ) (g : List Sort) (p q : Closing) → Closes Related i g p q → Puts q g []
      puts_there i g p q c = puts_right Related i g p q c

      -- both sides are under one another by what they come to in the second program
      forth_same : (i : ℕ) → i ≤ k → (g : List Sort) (t u : Term) → IsSorted g t → (p q : Closing) → Closes Related i g p q → SameHeads Q (sub q t) (sub q u) → Related i (sub p t) (sub q u)
      forth_same i le g t u st p q c h = under_follows P Q i (sub p t) (sub q t) (sub q u) h.0 (instances i le g t st p q c)

      back_same : (i : ℕ) → i ≤ k → (g : List Sort) (t u : Term) → IsSorted g u → (p q : Closing) → Closes Related i g p q → SameHeads Q (sub q t) (sub q u) → Related i (sub p u) (sub q t)
      back_same i le g t u su p q c h = under_follows P Q i (sub p u) (sub q u) (sub q t) h.1 (instances i le g u su p q c)

      unfolded : (q : Closing) (x : Name) (d : Term) → D x d → SameHeads Q (sub q (Global x)) (sub q d)
      unfolding sub next
      unfolded q x d w = same.same_next Q (Global x) (sub q d) (qd x d w ∙ ap Some (sym (closed_stays q d (sq x d (qd x d w)))))

      pub row_forth : (c : Place) {t u : Term} → TermRow G D c t u → IsSorted (sorts_in c) t → IsSorted (sorts_in c) u → (i : ℕ) → i ≤ k → (p q : Closing) → Closes Related i (sorts_in c) p q
          → ClosesSide P (side_on_left c) p → ClosesSide Q (side_on_right c) q → Related i (sub p t) (sub q u)
      unfolding sub
      row_forth c {t = t} {u = u} (row_reduces r) st su i le p q w l r' = forth_same i le (sorts_in c) t u st p q w (reduces_same Q sq (sorts_in c) r st q (puts_there i (sorts_in c) p q w))
      row_forth c {t = t} {u = u} (row_same h) st su i le p q w l r = forth_same i le (sorts_in c) t u st p q w (h Q sq q (puts_there i (sorts_in c) p q w))
      row_forth c (row_known {s = s} {t = t} {b = b} {alts = alts} {ss = ss} {ts = ts} kl kr ch ia sts hs) st su i le p q w l r =
          known_forth i le (sorts_in c) ss s t alts ts b st.0 ia sts hs (chosen_sorted (sorts_in c) ch st.1) p q w
          (known_takes P p t ch (sorts_count (sorts_in c) ss ts hs) (knows_meets P G pm kl p l))
      row_forth c (row_atom {t = t} {b = b} ia) st su i le p q w l r =
          forth_same i le (sorts_in c) (Case Unlifted t (Alt Default b NoAlt)) (sub (push t Var) b) st p q w (same_atom Q (sorts_in c) q (puts_there i (sorts_in c) p q w) t b ia st.0)
      row_forth c (row_dead_alternative {s = s} {t = t} {h = h} {hs = hs} {alts = alts} {blts = blts} kl kr a n o) st su i le p q w l r =
          forth_same i le (sorts_in c) (Case s t alts) (Case s t blts) st p q w (same_dead Q s (sub q t) h hs (sub_alts q alts) (sub_alts q blts) (knows_meets Q G qm kr q r) a n (without_sub q o))
      row_forth c (row_let_of_let {r = o} {e = e} {d = d} {b = b}) st su i le p q w l r =
          let x = sub q e in
          let y = sub (push x q) d in
          let inner = Let Lifted d (ren (upr suc) b) in
          let last = same.same_trans Q (sub q (Let o e inner)) (sub (push x q) inner) (sub (push y q) b) (same.same_next Q _ _ (next_let Q o e inner q))
          (reducing.after Q sq (sub (push x q) inner) (sub (push y (push x q)) (ren (upr suc) b)) (sub (push y q) b) (next_let Q Lifted d (ren (upr suc) b) (push x q))
          (same.same_is Q _ _ (push_upr y x q b))) in
          let_forth i le (sorts_in c) (Let o e d) b (Let o e inner) y st.0 st.2 p q w (next_let Q o e d q) (same.same_sym Q (sub q (Let o e inner)) (sub (push y q) b) last)
      row_forth c (row_let_of_group {ts = ts} {d = d} {b = b}) st su i le p q w l r =
          let x = pushes (unrolled q ts) q in
          let y = sub x d in
          let inner = Let Lifted d (ren (upr (λ n. count ts + n)) b) in
          let last = same.same_trans Q (sub q (Rec ts inner)) (sub x inner) (sub (push y q) b) (same.same_next Q _ _ (next_group Q ts inner q))
          (reducing.after Q sq (sub x inner) (sub (push y x) (ren (upr (λ n. count ts + n)) b)) (sub (push y q) b) (next_let Q Lifted d (ren (upr (λ n.
          count ts + n)) b) x) (same.same_is Q _ _ (group_upr y ts q b))) in
          let_forth i le (sorts_in c) (Rec ts d) b (Rec ts inner) y st.0 st.2 p q w (next_group Q ts d q) (same.same_sym Q (sub q (Rec ts inner)) (sub (push y q) b) last)
      row_forth c (row_fold {o = o} {a = a} {b = b} {r = z} h ir) st su i le p q w l r =
          forth_same i le (sorts_in c) (Prim o a b) z st p q w (same_fold Q (sorts_in c) q (puts_there i (sorts_in c) p q w) o a b z h st.1 st.3 ir)
      row_forth c (row_unfold {x = x} {d = d} e) st su i le p q w l r = forth_same i le (sorts_in c) (Global x) d st p q w (unfolded q x d e)
      row_forth c {t = x} {u = y} (row_standing t u l r h) st su i le p q w sl sr = forth_same i le (sorts_in c) x y st p q w (h Q sq q (puts_there i (sorts_in c) p q w) (stands_same Q r q sr))
      row_forth c (row_push f s e alts se) st su i le p q w sl sr =
          forth_same i le (sorts_in c) (plug f (Case s e alts)) (Case s e (pushed f alts)) st p q w
          (same_pushed Q sq f s e alts q (sorted_sub q (sorts_in c) [] (puts_there i (sorts_in c) p q w) e se))

      pub row_back : (c : Place) {t u : Term} → TermRow G D c t u → IsSorted (sorts_in c) t → IsSorted (sorts_in c) u → (i : ℕ) → i ≤ k → (p q : Closing) → Closes Related i (sorts_in c) p q
          → ClosesSide P (side_on_right c) p → ClosesSide Q (side_on_left c) q → Related i (sub p u) (sub q t)
      unfolding sub
      row_back c {t = t} {u = u} (row_reduces r) st su i le p q w l r' = back_same i le (sorts_in c) t u su p q w (reduces_same Q sq (sorts_in c) r st q (puts_there i (sorts_in c) p q w))
      row_back c {t = t} {u = u} (row_same h) st su i le p q w l r = back_same i le (sorts_in c) t u su p q w (h Q sq q (puts_there i (sorts_in c) p q w))
      row_back c (row_known {s = s} {t = t} {b = b} {alts = alts} {ss = ss} {ts = ts} kl kr ch ia sts hs) st su i le p q w l r =
          known_back i le (sorts_in c) ss s t alts ts b st.0 ia sts hs (chosen_sorted (sorts_in c) ch st.1) p q w (known_takes Q q t ch (sorts_count (sorts_in c) ss ts hs) (knows_meets Q G qm kl q r))
      row_back c (row_atom {t = t} {b = b} ia) st su i le p q w l r =
          back_same i le (sorts_in c) (Case Unlifted t (Alt Default b NoAlt)) (sub (push t Var) b) su p q w (same_atom Q (sorts_in c) q (puts_there i (sorts_in c) p q w) t b ia st.0)
      row_back c (row_dead_alternative {s = s} {t = t} {h = h} {hs = hs} {alts = alts} {blts = blts} kl kr a n o) st su i le p q w l r =
          back_same i le (sorts_in c) (Case s t alts) (Case s t blts) su p q w (same_dead Q s (sub q t) h hs (sub_alts q alts) (sub_alts q blts) (knows_meets Q G qm kl q r) a n (without_sub q o))
      row_back c (row_let_of_let {r = o} {e = e} {d = d} {b = b}) st su i le p q w l r =
          let x = sub p e in
          let y = sub (push x p) d in
          let inner = Let Lifted d (ren (upr suc) b) in
          let_back i le (sorts_in c) (Let o e d) b (Let o e inner) y (sub (push x p) inner) st.0 st.2 p q w (next_let P o e d p) (next_let P o e inner p)
          (next_let P Lifted d (ren (upr suc) b) (push x p) ∙ ap Some (push_upr y x p b))
      row_back c (row_let_of_group {ts = ts} {d = d} {b = b}) st su i le p q w l r =
          let x = pushes (unrolled p ts) p in
          let y = sub x d in
          let inner = Let Lifted d (ren (upr (λ n. count ts + n)) b) in
          let_back i le (sorts_in c) (Rec ts d) b (Rec ts inner) y (sub x inner) st.0 st.2 p q w (next_group P ts d p) (next_group P ts inner p)
          (next_let P Lifted d (ren (upr (λ n. count ts + n)) b) x ∙ ap Some (group_upr y ts p b))
      row_back c (row_fold {o = o} {a = a} {b = b} {r = z} h ir) st su i le p q w l r =
          back_same i le (sorts_in c) (Prim o a b) z su p q w (same_fold Q (sorts_in c) q (puts_there i (sorts_in c) p q w) o a b z h st.1 st.3 ir)
      row_back c (row_unfold {x = x} {d = d} e) st su i le p q w l r = back_same i le (sorts_in c) (Global x) d su p q w (unfolded q x d e)
      row_back c {t = x} {u = y} (row_standing t u l r h) st su i le p q w sl sr = back_same i le (sorts_in c) x y su p q w (h Q sq q (puts_there i (sorts_in c) p q w) (stands_same Q l q sr))
      row_back c (row_push f s e alts se) st su i le p q w sl sr =
          back_same i le (sorts_in c) (plug f (Case s e alts)) (Case s e (pushed f alts)) su p q w (same_pushed Q sq f s e alts q (sorted_sub q (sorts_in c) [] (puts_there i (sorts_in c) p q w) e se))

      pub rows_forth : PartsUnder P Q (TermRow G D) k
      rows_forth c t u r st su i le p q e = row_forth c r st su i le p q e.closes e.on_left e.on_right

      pub rows_back : PartsUnder P Q (Converse (TermRow G D)) k
      rows_back c t u r st su i le p q e =
          let g = sym (sorts_exchanged c) in
          row_back (exchange c) r (subst (λ h. IsSorted h u) g su) (subst (λ h. IsSorted h t) g st) i le p q (subst (λ h. Closes Related i h p q) g e.closes)
          (subst (λ s. ClosesSide P s p) (sym (right_exchanged c)) e.on_left) (subst (λ s. ClosesSide Q s q) (sym (left_exchanged c)) e.on_right)

-- PROGRAMS

-- rewrites anywhere in the definitions change nothing that is shown
pub rows_see_same : (P Q : Program) → SortedProgram P → SortedProgram Q → (G : Known) (D : Name → Term → Type 0) → GlobalsMeet P G → GlobalsMeet Q G → DefinesAll P D → DefinesAll Q D
    → ProgramChange (TermRow G D) P Q
    → (t : Term) → IsSorted [] t → SeesSame P Q t
rows_see_same P Q sp sq G D pm qm pd qd =
    both_see_same P Q sp sq (TermRow G D) (λ k w. rows_forth P Q sp sq k w G D pm qm pd qd) (λ k w. rows_back Q P sq sp k w G D qm pm qd pd)
