-- An application to an argument, or a case, around a case goes into its alternatives.
use Rattle.std.proofs.Common.{◌≡◌, ℕ, suc, ◌+◌, List, [], length, Bool, true, false, cond, Option, Some, None, option_map, refl, sym, ap, ◌∙◌, subst, arith}
use Rattle.std.proofs.Math.Path.{fun_ext}
use Rattle.fc_model.specs.Stepping.{Program, Key, Frame, AppTo, CaseOf, plug, Found, Missing, Bare, Fielded, found, choose, enter, fire, same_sorts, Reaches}
use Rattle.fc_model.specs.Terms.{Sort, Head, Default, OfLit, OfCon, Term, Var, Case, Terms, Alts, binders, count, sub}
use Rattle.fc_model.specs.Terms.{sub_alts, push, pushes, up, ups, IsSorted}
use Rattle.fc_meaning.specs.Laws.{SortedProgram}
use Rattle.fc_meaning.proofs.Optional.{none_some, some_is}
use Rattle.fc_meaning.proofs.SortedSteps.{same_sorts_is}
use Rattle.fc_meaning.proofs.Unnamed.{sub-ren, sub-ren_alts}
use Rattle.fc_counted.specs.Closings.{Closing}
use Rattle.fc_counted.proofs.Runs.{join, split, reaches_sorted}
use Rattle.fc_counted.proofs.TermSubstitutions.{put_fields, put_one}
use Rattle.fc_term_rows.specs.Heads.{Follows, SameHeads}
use Rattle.fc_term_rows.specs.TermRows.{pushed, ren_frame}
use Rattle.fc_term_rows.proofs.ChangedBodies.{ChangesBodies, choose_changed}
use Rattle.fc_term_rows.proofs.FiredCases.{fire_alike}
use Rattle.fc_term_rows.proofs.Instances.{choose-sub, pushes_past, sub_found}

unfoldable sub_frame : Closing → Frame → Frame
unfolding sub
sub_frame q (AppTo s a) = AppTo s (sub q a)
sub_frame q (CaseOf s alts) = CaseOf s (sub_alts q alts)

plug_sub : (q : Closing) (f : Frame) (t : Term) → sub q (plug f t) ≡ plug (sub_frame q f) (sub q t)
unfolding plug sub_frame sub
plug_sub q (AppTo s a) t = refl
plug_sub q (CaseOf s alts) t = refl

frame_past : (p q : Closing) (r : ℕ → ℕ) (f : Frame) → (λ n. p (r n)) ≡ q → sub_frame p (ren_frame r f) ≡ sub_frame q f
unfolding sub_frame ren_frame
frame_past p q r (AppTo s a) e = ap (AppTo s) (sub-ren p r a ∙ ap (λ g. sub g a) e)
frame_past p q r (CaseOf s alts) e = ap (CaseOf s) (sub-ren_alts p r alts ∙ ap (λ g. sub_alts g alts) e)

-- FINDING AN ALTERNATIVE

pushed_found : Frame → Found → Found
pushed_found f Missing = Missing
pushed_found f (Bare b) = Bare (plug (ren_frame (λ n. 0 + suc n) f) b)
pushed_found f (Fielded ss b) = Fielded ss (plug (ren_frame (λ n. length ss + suc n) f) b)

found_pushed : (f : Frame) (h : Head) (b : Term) → found h (plug (ren_frame (λ n. binders h + suc n) f) b) ≡ pushed_found f (found h b)
unfolding found binders pushed_found
found_pushed f Default b = refl
found_pushed f (OfLit z) b = refl
found_pushed f (OfCon c ss) b = refl

changes_by_push : (f : Frame) → ChangesBodies (pushed f) (pushed_found f)
unfolding pushed pushed_found
changes_by_push f = record { body = λ h b. plug (ren_frame (λ n. binders h + suc n) f) b; none = refl; more = λ h b alts. refl; missing = refl; finds = found_pushed f }

choose_pushed : (f : Frame) (k : Key) (alts : Alts) → choose k (pushed f alts) ≡ pushed_found f (choose k alts)
choose_pushed f = choose_changed (pushed f) (pushed_found f) (changes_by_push f)

-- AT A HEAD

past_case : (q : Closing) (h : Term) → (λ n. push h q (0 + suc n)) ≡ q
unfolding push
past_case q h = fun_ext (λ n. let e : 0 + suc n ≡ suc n = omega arith in ap (push h q) e)

past_fields : (q : Closing) (h : Term) (ts : Terms) (m : ℕ) → m ≡ count ts → (λ n. pushes ts (push h q) (m + suc n)) ≡ q
unfolding push
past_fields q h ts m e = fun_ext (λ n. let k : m + suc n ≡ count ts + suc n = omega (arith, e) in pushes_past ts (push h q) (m + suc n) (suc n) k)

cond_map : {A B : Type 0} (g : A → B) (c : Bool) (x : A) (y : B) → (c ≡ true → y ≡ g x) → cond c (Some y) None ≡ option_map g (cond c (Some x) None)
cond_map g true x y e = ap Some (e refl)
cond_map g false x y e = refl

enter_pushed : (h : Term) (ss : List Sort) (ts : Terms) (q : Closing) (f : Frame) (d : Found) → length ss ≡ count ts
    → enter h ss ts (sub_found q (pushed_found f d)) ≡ option_map (plug (sub_frame q f)) (enter h ss ts (sub_found q d))
unfolding enter sub_found pushed_found
enter_pushed h ss ts q f Missing n = refl
enter_pushed h ss ts q f (Bare b) n =
    let r = ren_frame (λ n. 0 + suc n) f in
    ap Some (put_one h q (plug r b) ∙ plug_sub (push h q) r b ∙ ap (λ g. plug g (sub (push h q) b)) (frame_past (push h q) q (λ n.
    0 + suc n) f (past_case q h)) ∙ ap (plug (sub_frame q f)) (sym (put_one h q b)))
enter_pushed h ss ts q f (Fielded rs b) n =
    cond_map (plug (sub_frame q f)) (same_sorts rs ss) _ _ (λ w.
    let m : length rs ≡ count ts = ap length (same_sorts_is rs ss w) ∙ n in
    let r = ren_frame (λ n. length rs + suc n) f in
    let p = pushes ts (push h q) in
    ap (λ k. sub (pushes ts (push h Var)) (sub (ups k (up q)) (plug r b))) m ∙ put_fields ts h q (plug r b) ∙ plug_sub p r b
    ∙ ap (λ g. plug g (sub p b)) (frame_past p q (λ n. length rs + suc n) f (past_fields q h ts (length rs) m))
    ∙ ap (plug (sub_frame q f)) (sym (ap (λ k. sub (pushes ts (push h Var)) (sub (ups k (up q)) b)) m ∙ put_fields ts h q b)))

enter_choice : (h : Term) (ss : List Sort) (ts : Terms) (q : Closing) (f : Frame) (k : Key) (alts : Alts) → length ss ≡ count ts
    → enter h ss ts (choose k (sub_alts q (pushed f alts))) ≡ option_map (plug (sub_frame q f)) (enter h ss ts (choose k (sub_alts q alts)))
enter_choice h ss ts q f k alts n =
    ap (enter h ss ts) (choose-sub q k (pushed f alts) ∙ ap (sub_found q) (choose_pushed f k alts)) ∙ enter_pushed h ss ts q f (choose k alts) n
    ∙ ap (λ d. option_map (plug (sub_frame q f)) (enter h ss ts d)) (sym (choose-sub q k alts))

fire_pushed : (s : Sort) (h : Term) (q : Closing) (f : Frame) (alts : Alts) → IsSorted [] h
    → fire (CaseOf s (sub_alts q (pushed f alts))) h ≡ option_map (plug (sub_frame q f)) (fire (CaseOf s (sub_alts q alts)) h)
fire_pushed s h q f alts w =
    fire_alike (λ x y. x ≡ option_map (plug (sub_frame q f)) y) refl s h (sub_alts q (pushed f alts)) (sub_alts q alts) w
    (λ k ss ts shape n. enter_choice h ss ts q f k alts n)

map_inv : {A B : Type 0} (g : A → B) (o : Option A) (y : B) → option_map g o ≡ Some y → (x : A) × (o ≡ Some x) × (g x ≡ y)
map_inv g None y e = absurd (none_some e)
map_inv g (Some x) y e = (x, refl, some_is e)

-- THE REWRITE

module _ (P : Program) (sp : SortedProgram P) (f : Frame) (s : Sort) (e : Term) (alts : Alts) (q : Closing) (se : IsSorted [] (sub q e)) where
  pushed_forth : Follows P (plug (sub_frame q f) (Case s (sub q e) (sub_alts q alts))) (Case s (sub q e) (sub_alts q (pushed f alts)))
  unfolding plug
  pushed_forth k v r =
      let outer = split P (sub_frame q f) k (Case s (sub q e) (sub_alts q alts)) v r in
      let inner = split P (CaseOf s (sub_alts q alts)) outer.inner (sub q e) outer.head outer.inside in
      let sorted = reaches_sorted P sp inner.inner (sub q e) inner.head se inner.inside in
      let fires = fire_pushed s inner.head q f alts sorted ∙ ap (option_map (plug (sub_frame q f))) inner.fires in
      let rest = join P (sub_frame q f) inner.rest outer.rest inner.after outer.head outer.after v inner.goes outer.fires outer.goes in (
        suc (inner.inner + suc (inner.rest + outer.rest)),
        join P (CaseOf s (sub_alts q (pushed f alts))) inner.inner (suc (inner.rest + outer.rest)) (sub q e) inner.head (plug (sub_frame q f) inner.after) v inner.inside fires rest,
      )

  pushed_back : Follows P (Case s (sub q e) (sub_alts q (pushed f alts))) (plug (sub_frame q f) (Case s (sub q e) (sub_alts q alts)))
  unfolding plug
  pushed_back k v r =
      let outer = split P (CaseOf s (sub_alts q (pushed f alts))) k (sub q e) v r in
      let sorted = reaches_sorted P sp outer.inner (sub q e) outer.head se outer.inside in
      let x = map_inv (plug (sub_frame q f)) (fire (CaseOf s (sub_alts q alts)) outer.head) outer.after (sym (fire_pushed s outer.head q f alts sorted) ∙ outer.fires) in
      let inner = split P (sub_frame q f) outer.rest x.0 v (subst (λ y. Reaches P y outer.rest v) (sym x.2) outer.goes) in
      let first = join P (CaseOf s (sub_alts q alts)) outer.inner inner.inner (sub q e) outer.head x.0 inner.head outer.inside x.1 inner.inside in (
        suc (suc (outer.inner + inner.inner) + inner.rest),
        join P (sub_frame q f) (suc (outer.inner + inner.inner)) inner.rest (Case s (sub q e) (sub_alts q alts)) inner.head inner.after v first inner.fires inner.goes,
      )

  -- the frame around the case comes to the same heads as the case with the frame in its alternatives
  pub same_pushed : SameHeads P (sub q (plug f (Case s e alts))) (sub q (Case s e (pushed f alts)))
  unfolding sub
  same_pushed = subst (λ t. SameHeads P t (Case s (sub q e) (sub_alts q (pushed f alts)))) (sym (plug_sub q f (Case s e alts))) (pushed_forth, pushed_back)
