-- The alternative that an instance of a case takes, and one case in place of two.
use Rattle.std.proofs.Common.{◌≡◌, zero, suc, List, [], length, Bool, true, false, cond, Some, None, refl, sym, ap, ◌∙◌}
use Rattle.std.proofs.Math.Path.{fun_ext}
use Rattle.fc_model.specs.Stepping.{Program, Key, LitKey, ConKey, LamKey, Found, Missing, Bare, Fielded, matches, found, own, default_of, choose, enter, CaseOf, fire, same_sorts, next}
use Rattle.fc_model.specs.Terms.{Sort, Lifted, Unlifted, Head, Default, OfLit, OfCon, Term, Lit, Var, Lam, Con, Terms, Nil, Alts, NoAlt, Alt, binders, count}
use Rattle.fc_model.specs.Terms.{sub, sub_terms, sub_alts, push, pushes, up, ups, IsSorted}
use Rattle.fc_meaning.proofs.Optional.{none_some}
use Rattle.fc_meaning.proofs.SortedSteps.{same_sorts_is}
use Rattle.fc_counted.specs.Closings.{Closing}
use Rattle.fc_counted.proofs.TermSubstitutions.{put_one, put_fields, sub-sub, pushes-ups}
use Rattle.fc_term_rows.specs.TermRows.{merged, HasKey, key_of_literal, key_of_lambda, key_of_constructor}
use Rattle.fc_term_rows.proofs.ChangedBodies.{ChangesBodies, choose_changed}
use Rattle.fc_term_rows.proofs.FiredCases.{fire_alike}
use Rattle.fc_term_rows.proofs.Instances.{sub_found, choose-sub, same_sorts-refl}

-- FINDING AN ALTERNATIVE IN AN INSTANCE

pub enter_bare : (h : Term) (ss : List Sort) (ts : Terms) (p : Closing) (k : Key) (alts : Alts) (b : Term) → choose k alts ≡ Bare b
    → enter h ss ts (choose k (sub_alts p alts)) ≡ Some (sub (push h p) b)
unfolding enter sub_found
enter_bare h ss ts p k alts b e = ap (enter h ss ts) (choose-sub p k alts ∙ ap (sub_found p) e) ∙ ap Some (put_one h p b)

pub enter_fielded : (h : Term) (ss : List Sort) (ts : Terms) (p : Closing) (k : Key) (alts : Alts) (b : Term) → length ss ≡ count ts → choose k alts ≡ Fielded ss b
    → enter h ss ts (choose k (sub_alts p alts)) ≡ Some (sub (pushes ts (push h p)) b)
unfolding enter sub_found
enter_fielded h ss ts p k alts b n e =
    ap (enter h ss ts) (choose-sub p k alts ∙ ap (sub_found p) e)
    ∙ ap (λ x. cond x (Some (sub (pushes ts (push h Var)) (sub (ups (length ss) (up p)) b))) None) (same_sorts-refl ss)
    ∙ ap (λ m. Some (sub (pushes ts (push h Var)) (sub (ups m (up p)) b))) n
    ∙ ap Some (put_fields ts h p b)

pub key_fire : (p : Closing) {s : Sort} {t : Term} {k : Key} → HasKey s t k → (alts : Alts) (b : Term) → choose k alts ≡ Bare b
    → fire (CaseOf s (sub_alts p alts)) (sub p t) ≡ Some (sub (push (sub p t) p) b)
unfolding fire sub
key_fire p (key_of_literal {s = Lifted} {z = z}) alts b e = enter_bare (Lit z) [] Nil p (LitKey z) alts b e
key_fire p (key_of_literal {s = Unlifted} {z = z}) alts b e = enter_bare (Lit z) [] Nil p (LitKey z) alts b e
key_fire p (key_of_lambda {r = r} {b = d}) alts b e = enter_bare (sub p (Lam r d)) [] Nil p LamKey alts b e
key_fire p (key_of_constructor {d = d} {ss = ss} {ts = ts}) alts b e = enter_bare (sub p (Con d ss ts)) ss (sub_terms p ts) p (ConKey d) alts b e

pub key_next : (P : Program) (p : Closing) {s : Sort} {t : Term} {k : Key} → HasKey s t k → next P (sub p t) ≡ None
unfolding next sub
key_next P p key_of_literal = refl
key_next P p key_of_lambda = refl
key_next P p key_of_constructor = refl

-- a case of a case's own binder
merged_found : Found → Found
merged_found Missing = Missing
merged_found (Bare b) = Bare (sub (push (Var zero) Var) b)
merged_found (Fielded ss b) = Fielded ss (sub (ups (length ss) (push (Var zero) Var)) b)

found_merged : (h : Head) (b : Term) → found h (sub (ups (binders h) (push (Var zero) Var)) b) ≡ merged_found (found h b)
unfolding found binders merged_found ups
found_merged Default b = refl
found_merged (OfLit z) b = refl
found_merged (OfCon c ss) b = refl

changes_by_merge : ChangesBodies merged merged_found
unfolding merged merged_found
changes_by_merge = record { body = λ h b. sub (ups (binders h) (push (Var zero) Var)) b; none = refl; more = λ h b alts. refl; missing = refl; finds = found_merged }

choose_merged : (k : Key) (alts : Alts) → choose k (merged alts) ≡ merged_found (choose k alts)
choose_merged = choose_changed merged merged_found changes_by_merge

cond_when : {A : Type 0} (c : Bool) (x y z : A) → (c ≡ true → x ≡ y) → cond c x z ≡ cond c y z
cond_when true x y z h = h refl
cond_when false x y z h = refl

own_binder : (h : Term) (p : Closing) → (λ n. sub (push h p) (push (Var zero) Var n)) ≡ push h (push h p)
unfolding push sub
own_binder h p = fun_ext (elim [ zero ↦ refl | suc n ↦ refl ])

enter_merged : (h : Term) (ss : List Sort) (ts : Terms) (p : Closing) (f : Found) → length ss ≡ count ts → enter h ss ts (sub_found (push h p) f) ≡ enter h ss ts (sub_found p (merged_found f))
unfolding enter sub_found merged_found
enter_merged h ss ts p Missing e = refl
enter_merged h ss ts p (Bare b) e =
    ap Some (put_one h (push h p) b ∙ sym (put_one h p (sub (push (Var zero) Var) b) ∙ sub-sub (push h p) (push (Var zero) Var) b ∙ ap (λ g. sub g b) (own_binder h p)))
enter_merged h ss ts p (Fielded rs b) e =
    cond_when (same_sorts rs ss) _ _ None (λ w.
    let n : length rs ≡ count ts = ap length (same_sorts_is rs ss w) ∙ e in
    let q = push (Var zero) Var in
    ap Some
    (ap (λ m. sub (pushes ts (push h Var)) (sub (ups m (up (push h p))) b)) n ∙ put_fields ts h (push h p) b
    ∙ sym (ap (λ m. sub (pushes ts (push h Var)) (sub (ups m (up p)) (sub (ups m q) b))) n ∙ put_fields ts h p (sub (ups (count ts) q) b)
    ∙ sub-sub (pushes ts (push h p)) (ups (count ts) q) b ∙ ap (λ g. sub g b) (pushes-ups ts (push h p) q ∙ ap (pushes ts) (own_binder h p)))))

enter_chosen : (h : Term) (ss : List Sort) (ts : Terms) (p : Closing) (k : Key) (alts : Alts) → length ss ≡ count ts
    → enter h ss ts (choose k (sub_alts (push h p) alts)) ≡ enter h ss ts (choose k (sub_alts p (merged alts)))
enter_chosen h ss ts p k alts n =
    ap (enter h ss ts) (choose-sub (push h p) k alts) ∙ enter_merged h ss ts p (choose k alts) n
    ∙ sym (ap (enter h ss ts) (choose-sub p k (merged alts) ∙ ap (sub_found p) (choose_merged k alts)))

pub fire_merged : (s : Sort) (h : Term) (p : Closing) (alts : Alts) → IsSorted [] h → fire (CaseOf s (sub_alts (push h p) alts)) h ≡ fire (CaseOf s (sub_alts p (merged alts))) h
fire_merged s h p alts w =
    fire_alike (λ x y. x ≡ y) refl s h (sub_alts (push h p) alts) (sub_alts p (merged alts)) w (λ k ss ts shape n. enter_chosen h ss ts p k alts n)

-- a default alone is taken at each head that another case takes
pub default_fires : (s : Sort) (alts : Alts) (b h y : Term) → fire (CaseOf s alts) h ≡ Some y → fire (CaseOf s (Alt Default b NoAlt)) h ≡ Some (sub (push h Var) b)
unfolding fire choose own default_of matches found enter
default_fires Lifted alts b (Lit z) y e = refl
default_fires Unlifted alts b (Lit z) y e = refl
default_fires Lifted alts b (Lam r d) y e = refl
default_fires Lifted alts b (Con c ss ts) y e = refl
default_fires s alts b _ y e = absurd (none_some e)
