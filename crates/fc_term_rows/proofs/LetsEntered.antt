-- Lets one inside another, lambdas that are applied, and the binder of a case among those of an alternative.
use Rattle.std.proofs.Common.{◌≡◌, ℕ, zero, suc, ◌+◌, ◌-◌, ◌<◌, List, [], ◌∷◌, length, Bool, true, false, if◌then◌else◌, nat_eq, nat_lt, Some, refl, sym, ap, ◌∙◌, subst, arith}
use Rattle.std.proofs.Math.Path.{fun_ext}
use Rattle.fc_model.specs.Erasure.{lambdas}
use Rattle.fc_model.specs.Stepping.{Program, AppTo, plug, next}
use Rattle.fc_model.specs.Terms.{Sort, Term, App, Lam, Let, Terms, Nil, Cons, count, ren_terms, sub, sub_terms, push, pushes, up}
use Rattle.fc_counted.specs.Closings.{Closing}
use Rattle.fc_meaning.proofs.Unnamed.{count-ren}
use Rattle.fc_counted.proofs.TermSubstitutions.{put_one}
use Rattle.fc_term_rows.specs.Heads.{SameHeads}
use Rattle.fc_term_rows.specs.TermRows.{lets, applied_term, case_last, past_case_binder}
use Rattle.fc_term_rows.proofs.Instances.{pushes_past}
use Rattle.fc_term_rows.proofs.InstancesStep.{next_beta, next_let, push_shift_terms}
use Rattle.fc_term_rows.proofs.SameHeads as same

-- LETS AND LAMBDAS

pub same_lets : (P : Program) (ss : List Sort) (ts : Terms) → length ss ≡ count ts → (p : Closing) (b : Term) → SameHeads P (sub p (lets ss ts b)) (sub (pushes (sub_terms p ts) p) b)
unfolding sub pushes count
same_lets P [] Nil e p b = same.same_refl P (sub p b)
same_lets P [] (Cons t ts) e p b = absurd (omega arith)
same_lets P (s ∷ ss) Nil e p b = absurd (omega arith)
same_lets P (s ∷ ss) (Cons t ts) e p b =
    let n : length ss ≡ count ts = omega arith in
    let q = push (sub p t) p in
    let rest = lets ss (ren_terms suc ts) b in
    let k : length ss ≡ count (ren_terms suc ts) = n ∙ sym (count-ren suc ts) in
    same.same_trans P (sub p (Let s t rest)) (sub q rest) (sub (pushes (sub_terms p ts) q) b) (same.same_next P (sub p (Let s t rest)) (sub q rest) (next_let P s t rest p))
    (subst (λ xs. SameHeads P (sub q rest) (sub (pushes xs q) b)) (push_shift_terms (sub p t) p ts) (same_lets P ss (ren_terms suc ts) k q b))

applied_frame : (P : Program) (ss : List Sort) (ts : Terms) (t u : Term) → SameHeads P t u → SameHeads P (applied_term t ss ts) (applied_term u ss ts)
unfolding plug
applied_frame P [] ts t u w = w
applied_frame P (s ∷ ss) Nil t u w = w
applied_frame P (s ∷ ss) (Cons a ts) t u w = applied_frame P ss ts (App s t a) (App s u a) (same.same_frame P (AppTo s a) t u w)

pub applied-sub : (p : Closing) (ss : List Sort) (ts : Terms) (t : Term) → sub p (applied_term t ss ts) ≡ applied_term (sub p t) ss (sub_terms p ts)
unfolding sub
applied-sub p [] ts t = refl
applied-sub p (s ∷ ss) Nil t = refl
applied-sub p (s ∷ ss) (Cons a ts) t = applied-sub p ss ts (App s t a)

-- lambdas below p, applied to closed terms
pub same_applied : (P : Program) (ss : List Sort) (ts : Terms) → length ss ≡ count ts → (p : Closing) (b : Term) → SameHeads P (applied_term (sub p (lambdas ss b)) ss ts) (sub (pushes ts p) b)
unfolding sub pushes count
same_applied P [] Nil e p b = same.same_refl P (sub p b)
same_applied P [] (Cons t ts) e p b = absurd (omega arith)
same_applied P (s ∷ ss) Nil e p b = absurd (omega arith)
same_applied P (s ∷ ss) (Cons a ts) e p b =
    let n : length ss ≡ count ts = omega arith in
    let q = push a p in
    let inner = lambdas ss b in
    let step : next P (App s (Lam s (sub (up p) inner)) a) ≡ Some (sub q inner) = next_beta P s (sub (up p) inner) a ∙ ap Some (put_one a p inner) in
    same.same_trans P (applied_term (App s (Lam s (sub (up p) inner)) a) ss ts) (applied_term (sub q inner) ss ts) (sub (pushes ts q) b)
    (applied_frame P ss ts (App s (Lam s (sub (up p) inner)) a) (sub q inner) (same.same_next P (App s (Lam s (sub (up p) inner)) a) (sub q inner) step))
    (same_applied P ss ts n q b)

-- BINDERS OF A CASE

pushes_within : (ts : Terms) (f g : Closing) (n : ℕ) → n < count ts → pushes ts f n ≡ pushes ts g n
unfolding pushes count
pushes_within Nil f g n lt = absurd (omega arith)
pushes_within (Cons t ts) f g n lt = within (λ l. pushes_within ts (push t f) (push t g) n l) (nat_lt n (count ts)) refl
  where
    within : (n < count ts → pushes ts (push t f) n ≡ pushes ts (push t g) n) → (b : Bool) → nat_lt n (count ts) ≡ b → pushes ts (push t f) n ≡ pushes ts (push t g) n
    within again true e = let l : n < count ts = grind arith in again l
    within again false e =
        let k : n ≡ count ts + 0 = grind arith in
        pushes_past ts (push t f) n 0 k ∙ sym (pushes_past ts (push t g) n 0 k)

pub case_last_put : (x : Term) (ts : Terms) (p : Closing) (k : ℕ) → k ≡ count ts → (λ n. push x (pushes ts p) (case_last k n)) ≡ pushes ts (push x p)
unfolding push
case_last_put x ts p k e = fun_ext (λ n. here n (nat_lt n k) refl)
  where
    far : (n : ℕ) → (b : Bool) → nat_eq n k ≡ b → nat_lt n k ≡ false → push x (pushes ts p) (if b then zero else n) ≡ pushes ts (push x p) n
    far n true d w = let m : n ≡ count ts + 0 = grind arith in sym (pushes_past ts (push x p) n 0 m)
    far zero false d w = absurd (grind arith)
    far (suc n) false d w =
        let m : n ≡ count ts + (n - count ts) = grind arith in
        let l : suc n ≡ count ts + suc (n - count ts) = grind arith in
        pushes_past ts p n (n - count ts) m ∙ sym (pushes_past ts (push x p) (suc n) (suc (n - count ts)) l)

    here : (n : ℕ) → (b : Bool) → nat_lt n k ≡ b → push x (pushes ts p) (if b then suc n else (if nat_eq n k then zero else n)) ≡ pushes ts (push x p) n
    here n true w = let l : n < count ts = grind arith in pushes_within ts p (push x p) n l
    here n false w = far n (nat_eq n k) refl w

pub past_case_put : (x : Term) (ts : Terms) (p : Closing) (k : ℕ) → k ≡ count ts → (λ n. pushes ts (push x p) (past_case_binder k n)) ≡ pushes ts p
unfolding push
past_case_put x ts p k e = fun_ext (λ n. here n (nat_lt n k) refl)
  where
    here : (n : ℕ) → (b : Bool) → nat_lt n k ≡ b → pushes ts (push x p) (if b then n else suc n) ≡ pushes ts p n
    here n true w = let l : n < count ts = grind arith in pushes_within ts (push x p) p n l
    here n false w =
        let m : n ≡ count ts + (n - count ts) = grind arith in
        let l : suc n ≡ count ts + suc (n - count ts) = grind arith in
        pushes_past ts (push x p) (suc n) (suc (n - count ts)) l ∙ sym (pushes_past ts p n (n - count ts) m)
