-- Rewrites that need nothing of their place: both sides come to the same heads, whatever is put in.
use Rattle.std.proofs.Common.{◌≡◌, zero, suc, ◌+◌, List, [], length, Some, None, refl, sym, ap, ◌∙◌, subst}
use Rattle.fc_model.specs.Erasure.{lambdas}
use Rattle.fc_model.specs.Stepping.{Program, ConKey, enter, AppTo, CaseOf, plug, fire, through, next, IsHead, Reaches}
use Rattle.fc_model.specs.Terms.{Sort, Lifted, Default, Term, Var, Fail, App, Lam, Let, Rec, Case, Con, Terms, Alts, NoAlt, Alt, count, ren, ren_alts, shift, sub, sub_terms, sub_alts, push}
use Rattle.fc_model.specs.Terms.{pushes, up, upr, IsSorted}
use Rattle.fc_meaning.specs.Laws.{SortedProgram}
use Rattle.fc_meaning.proofs.Determined.{head_stays}
use Rattle.fc_meaning.proofs.Optional.{some_is}
use Rattle.fc_meaning.proofs.SortsKept.{Puts, sorted_sub}
use Rattle.fc_meaning.proofs.Unnamed.{sub-ren}
use Rattle.fc_counted.specs.Closings.{Closing, unrolled}
use Rattle.fc_counted.proofs.Runs.{join, split, reaches_head, reaches_sorted}
use Rattle.fc_counted.proofs.TermSubstitutions.{put_one, sub-put, count-sub}
use Rattle.fc_term_rows.specs.Facts.{field_variables}
use Rattle.fc_term_rows.specs.Heads.{Follows, SameHeads}
use Rattle.fc_term_rows.specs.TermRows.{lets, applied_term, case_last, past_case_binder, merged, key_of_constructor, Reduces, reduces_beta, reduces_beta_put, reduces_dead_let, reduces_let_put}
use Rattle.fc_term_rows.specs.TermRows.{reduces_dead_group, reduces_application_of_let, reduces_application_of_group, reduces_case_of_let, reduces_case_of_group, reduces_case_of_head}
use Rattle.fc_term_rows.specs.TermRows.{reduces_case_of_constructor, reduces_case_of_constructor_alone, reduces_merged_case, reduces_applied_fail, reduces_case_of_fail, reduces_named_part}
use Rattle.fc_term_rows.specs.TermRows.{reduces_beta_all}
use Rattle.fc_term_rows.proofs.CasesEntered.{enter_fielded, key_fire, key_next, fire_merged, default_fires}
use Rattle.fc_term_rows.proofs.Instances.{fields_pushed, sorts_count}
use Rattle.fc_term_rows.proofs.InstancesStep.{next_beta, next_let, next_group, push_shift, push_shift_alts, group_past, group_past_alts, push_upr}
use Rattle.fc_term_rows.proofs.LetsEntered.{same_lets, applied-sub, same_applied, case_last_put, past_case_put}
use Rattle.fc_term_rows.proofs.SameHeads as same

module _ (P : Program) (sp : SortedProgram P) where
  -- a term that steps comes to the heads of what it steps to
  pub after : (t v w : Term) → next P t ≡ Some v → SameHeads P v w → SameHeads P t w
  after t v w e h = same.same_trans P t v w (same.same_next P t v e) h

  pub back : (t v w : Term) → next P w ≡ Some v → SameHeads P t v → SameHeads P t w
  back t v w e h = same.same_trans P t v w h (same.same_sym P w v (same.same_next P w v e))

  next_case : (s : Sort) (h : Term) (alts : Alts) → next P h ≡ None → next P (Case s h alts) ≡ fire (CaseOf s alts) h
  unfolding next through
  next_case s h alts e = ap (through (CaseOf s alts) h) e

  next_app : (s : Sort) (f a : Term) → next P f ≡ None → next P (App s f a) ≡ fire (AppTo s a) f
  unfolding next through
  next_app s f a e = ap (through (AppTo s a) f) e

  stuck_fail : same.IsStuck P Fail
  unfolding next
  stuck_fail = same.stuck_next P Fail refl (λ h. h)

  -- a case on what another case has bound
  merge_forth : (s : Sort) (e : Term) (alts : Alts) (p : Closing) → IsSorted [] e → Follows P (Case s e (Alt Default (sub (up p) (Case s (Var zero) alts)) NoAlt)) (Case s e (sub_alts p (merged alts)))
  unfolding plug sub up push
  merge_forth s e alts p se =
      same.follows_fires P (CaseOf s (Alt Default (sub (up p) (Case s (Var zero) alts)) NoAlt)) (CaseOf s (sub_alts p (merged alts))) e (λ k h x r fx l v q.
      let here : sub (push h Var) (sub (up p) (Case s (Var zero) alts)) ≡ x = some_is (sym (default_fires s _ (sub (up p) (Case s (Var zero) alts)) h x fx) ∙ fx) in
      let again : x ≡ Case s h (sub_alts (push h p) alts) = sym here ∙ put_one h p (Case s (Var zero) alts) in
      let d = split P (CaseOf s (sub_alts (push h p) alts)) l h v (subst (λ y. Reaches P y l v) again q) in
      let stays = head_stays P d.inner h d.head (reaches_head P k e h r) d.inside in
      let sorted = reaches_sorted P sp k e h se r in
      (d.after, sym (fire_merged s h p alts sorted) ∙ ap (fire (CaseOf s (sub_alts (push h p) alts))) stays.1 ∙ d.fires, d.rest, d.goes))

  merge_back : (s : Sort) (e : Term) (alts : Alts) (p : Closing) → IsSorted [] e → Follows P (Case s e (sub_alts p (merged alts))) (Case s e (Alt Default (sub (up p) (Case s (Var zero) alts)) NoAlt))
  unfolding plug sub up push
  merge_back s e alts p se =
      same.follows_fires P (CaseOf s (sub_alts p (merged alts))) (CaseOf s (Alt Default (sub (up p) (Case s (Var zero) alts)) NoAlt)) e (λ k h x r fx l v q.
      let is : IsHead h = reaches_head P k e h r in
      let sorted = reaches_sorted P sp k e h se r in
      let body = sub (push h Var) (sub (up p) (Case s (Var zero) alts)) in
      let again : body ≡ Case s h (sub_alts (push h p) alts) = put_one h p (Case s (Var zero) alts) in
      let run = join P (CaseOf s (sub_alts (push h p) alts)) 0 l h h x v (refl, is) (fire_merged s h p alts sorted ∙ fx) q in
      (body, default_fires s _ (sub (up p) (Case s (Var zero) alts)) h x fx, suc (0 + l), subst (λ y. Reaches P y (suc (0 + l)) v) (sym again) run))

  pub same_beta_all : (ss : List Sort) (ts : Terms) (b : Term) → length ss ≡ count ts → (p : Closing) → SameHeads P (sub p (applied_term (lambdas ss b) ss ts)) (sub p (lets ss ts b))
  same_beta_all ss ts b n p =
      let xs = sub_terms p ts in
      let z = sub (pushes xs p) b in
      same.same_trans P (sub p (applied_term (lambdas ss b) ss ts)) z (sub p (lets ss ts b))
      (subst (λ x. SameHeads P x z) (sym (applied-sub p ss ts (lambdas ss b))) (same_applied P ss xs (n ∙ sym (count-sub p ts)) p b))
      (same.same_sym P (sub p (lets ss ts b)) z (same_lets P ss ts n p b))

  pub reduces_same : (g : List Sort) {t u : Term} → Reduces t u → IsSorted g t → (p : Closing) → Puts p g [] → SameHeads P (sub p t) (sub p u)
  unfolding sub plug fire enter
  reduces_same g (reduces_beta {s = s} {b = b} {a = a}) w p o =
      let z = sub (push (sub p a) p) b in
      after (sub p (App s (Lam s b) a)) z (sub p (Let s a b)) (next_beta P s (sub (up p) b) (sub p a) ∙ ap Some (put_one (sub p a) p b))
      (back z z (sub p (Let s a b)) (next_let P s a b p) (same.same_refl P z))
  reduces_same g (reduces_beta_put {s = s} {b = b} {a = a}) w p o =
      after (sub p (App s (Lam s b) a)) (sub (push (sub p a) p) b) (sub p (sub (push a Var) b)) (next_beta P s (sub (up p) b) (sub p a) ∙ ap Some (put_one (sub p a) p b))
      (same.same_is P _ _ (sym (sub-put a p b)))
  reduces_same g (reduces_dead_let {s = s} {e = e} {b = b}) w p o =
      after (sub p (Let s e (shift b))) (sub (push (sub p e) p) (shift b)) (sub p b) (next_let P s e (shift b) p) (same.same_is P _ (sub p b) (push_shift (sub p e) p b))
  reduces_same g (reduces_let_put {s = s} {e = e} {b = b}) w p o =
      after (sub p (Let s e b)) (sub (push (sub p e) p) b) (sub p (sub (push e Var) b)) (next_let P s e b p) (same.same_is P _ _ (sym (sub-put e p b)))
  reduces_same g (reduces_dead_group {ts = ts} {b = b}) w p o =
      after (sub p (Rec ts (ren (λ n. count ts + n) b))) (sub (pushes (unrolled p ts) p) (ren (λ n. count ts + n) b)) (sub p b) (next_group P ts (ren (λ n. count ts + n) b) p)
      (same.same_is P _ (sub p b) (group_past ts p b))
  reduces_same g (reduces_application_of_let {s = s} {r = r} {e = e} {b = b} {a = a}) w p o =
      let z = sub (push (sub p e) p) (App s b (shift a)) in
      back (sub p (App s (Let r e b) a)) z (sub p (Let r e (App s b (shift a)))) (next_let P r e (App s b (shift a)) p)
      (subst (λ x. SameHeads P (App s (sub p (Let r e b)) (sub p a)) (App s (sub (push (sub p e) p) b) x)) (sym (push_shift (sub p e) p a))
      (same.same_frame P (AppTo s (sub p a)) (sub p (Let r e b)) (sub (push (sub p e) p) b) (same.same_next P _ _ (next_let P r e b p))))
  reduces_same g (reduces_application_of_group {s = s} {ts = ts} {b = b} {a = a}) w p o =
      let q = pushes (unrolled p ts) p in
      let moved = ren (λ n. count ts + n) a in
      back (sub p (App s (Rec ts b) a)) (sub q (App s b moved)) (sub p (Rec ts (App s b moved))) (next_group P ts (App s b moved) p)
      (subst (λ x. SameHeads P (App s (sub p (Rec ts b)) (sub p a)) (App s (sub q b) x)) (sym (group_past ts p a))
      (same.same_frame P (AppTo s (sub p a)) (sub p (Rec ts b)) (sub q b) (same.same_next P _ _ (next_group P ts b p))))
  reduces_same g (reduces_case_of_let {s = s} {r = r} {e = e} {b = b} {alts = alts}) w p o =
      let q = push (sub p e) p in
      back (sub p (Case s (Let r e b) alts)) (sub q (Case s b (ren_alts suc alts))) (sub p (Let r e (Case s b (ren_alts suc alts)))) (next_let P r e (Case s b (ren_alts suc alts)) p)
      (subst (λ x. SameHeads P (Case s (sub p (Let r e b)) (sub_alts p alts)) (Case s (sub q b) x)) (sym (push_shift_alts (sub p e) p alts))
      (same.same_frame P (CaseOf s (sub_alts p alts)) (sub p (Let r e b)) (sub q b) (same.same_next P _ _ (next_let P r e b p))))
  reduces_same g (reduces_case_of_group {s = s} {ts = ts} {b = b} {alts = alts}) w p o =
      let q = pushes (unrolled p ts) p in
      let moved = ren_alts (λ n. count ts + n) alts in
      back (sub p (Case s (Rec ts b) alts)) (sub q (Case s b moved)) (sub p (Rec ts (Case s b moved))) (next_group P ts (Case s b moved) p)
      (subst (λ x. SameHeads P (Case s (sub p (Rec ts b)) (sub_alts p alts)) (Case s (sub q b) x)) (sym (group_past_alts ts p alts))
      (same.same_frame P (CaseOf s (sub_alts p alts)) (sub p (Rec ts b)) (sub q b) (same.same_next P _ _ (next_group P ts b p))))
  reduces_same g (reduces_case_of_head {s = s} {t = t} {b = b} {alts = alts} k key e) w p o =
      let z = sub (push (sub p t) p) b in
      after (sub p (Case s t alts)) z (sub p (Let s t b)) (next_case s (sub p t) (sub_alts p alts) (key_next P p key) ∙ key_fire p key alts b e)
      (back z z (sub p (Let s t b)) (next_let P s t b p) (same.same_refl P z))
  reduces_same g (reduces_case_of_constructor {d = d} {ss = ss} {ts = ts} {alts = alts} b e) w p o =
      let n = sorts_count g ss ts w.0.1 in
      let m = n ∙ sym (count-sub p ts) in
      let xs = sub_terms p ts in
      let x = Con d ss xs in
      let q = pushes xs p in
      let inner = Let Lifted (Con d ss (field_variables ss)) (ren (case_last (length ss)) b) in
      let z = sub (pushes xs (push x p)) b in
      let fields : sub q (Con d ss (field_variables ss)) ≡ x = ap (Con d ss) (fields_pushed ss xs p m) in
      let last : sub (push (sub q (Con d ss (field_variables ss))) q) (ren (case_last (length ss)) b) ≡ z =
      ap (λ y. sub (push y q) (ren (case_last (length ss)) b)) fields ∙ sub-ren (push x q) (case_last (length ss)) b ∙ ap (λ f. sub f b) (case_last_put x xs p (length ss) m) in
      after (sub p (Case Lifted (Con d ss ts) alts)) z (sub p (lets ss ts inner))
      (next_case Lifted x (sub_alts p alts) (key_next P p (key_of_constructor {d = d} {ss = ss} {ts = ts})) ∙ enter_fielded x ss xs p (ConKey d) alts b m e)
      (same.same_sym P (sub p (lets ss ts inner)) z (same.same_trans P (sub p (lets ss ts inner)) (sub q inner) z (same_lets P ss ts n p inner)
      (after (sub q inner) _ z (next_let P Lifted (Con d ss (field_variables ss)) (ren (case_last (length ss)) b) q) (same.same_is P _ z last))))
  reduces_same g (reduces_case_of_constructor_alone {d = d} {ss = ss} {ts = ts} {alts = alts} b e) w p o =
      let n = sorts_count g ss ts w.0.1 in
      let m = n ∙ sym (count-sub p ts) in
      let xs = sub_terms p ts in
      let x = Con d ss xs in
      let far = ren (past_case_binder (length ss)) b in
      let z = sub (pushes xs (push x p)) far in
      let there : z ≡ sub (pushes xs p) b = sub-ren (pushes xs (push x p)) (past_case_binder (length ss)) b ∙ ap (λ f. sub f b) (past_case_put x xs p (length ss) m) in
      after (sub p (Case Lifted (Con d ss ts) alts)) z (sub p (lets ss ts b))
      (next_case Lifted x (sub_alts p alts) (key_next P p (key_of_constructor {d = d} {ss = ss} {ts = ts})) ∙ enter_fielded x ss xs p (ConKey d) alts far m e)
      (same.same_trans P z (sub (pushes xs p) b) (sub p (lets ss ts b)) (same.same_is P z _ there) (same.same_sym P (sub p (lets ss ts b)) (sub (pushes xs p) b) (same_lets P ss ts n p b)))
  reduces_same g (reduces_merged_case {s = s} {e = e} {alts = alts}) w p o =
      let se = sorted_sub p g [] o e w.0 in (merge_forth s (sub p e) alts p se, merge_back s (sub p e) alts p se)
  reduces_same g (reduces_applied_fail {s = s} {a = a}) w p o = same.same_stuck P (App s Fail (sub p a)) Fail (same.stuck_frame P (AppTo s (sub p a)) Fail stuck_fail) stuck_fail
  reduces_same g (reduces_case_of_fail {s = s} {alts = alts}) w p o =
      same.same_stuck P (Case s Fail (sub_alts p alts)) Fail (same.stuck_frame P (CaseOf s (sub_alts p alts)) Fail stuck_fail) stuck_fail
  reduces_same g (reduces_named_part {r = r} {s = s} {e = e} {d = d} {b = b}) w p o =
      let x = sub p e in
      let whole = sub p (sub (push e Var) d) in
      let z = sub (push whole p) b in
      let inner = Let s d (ren (upr suc) b) in
      let last : sub (push (sub (push x p) d) (push x p)) (ren (upr suc) b) ≡ z = push_upr (sub (push x p) d) x p b ∙ ap (λ y. sub (push y p) b) (sym (sub-put e p d)) in
      after (sub p (Let s (sub (push e Var) d) b)) z (sub p (Let r e inner)) (next_let P s (sub (push e Var) d) b p)
      (back z (sub (push x p) inner) (sub p (Let r e inner)) (next_let P r e inner p)
      (same.same_sym P (sub (push x p) inner) z (after (sub (push x p) inner) _ z (next_let P s d (ren (upr suc) b) (push x p)) (same.same_is P _ z last))))
  reduces_same g (reduces_beta_all ss ts b n) w p o = same_beta_all ss ts b n p
