-- How instances step, and parts of them that are moved past binders.
use Rattle.std.proofs.Common.{◌≡◌, zero, suc, ◌+◌, cond, Some, None, refl, sym, ap, ◌∙◌}
use Rattle.std.proofs.Math.Path.{fun_ext}
use Rattle.fc_model.specs.Stepping.{Program, fire, through, wrap, next}
use Rattle.fc_model.specs.Terms.{Sort, Term, Var, App, Lam, Let, Rec, Terms, Alts, count, ren, ren_terms, ren_alts, shift, sub, sub_terms, sub_alts, push, pushes, ups, upr}
use Rattle.fc_meaning.proofs.Unnamed.{sub-ren, sub-ren_terms, sub-ren_alts}
use Rattle.fc_counted.specs.Closings.{Closing, unrolled}
use Rattle.fc_counted.proofs.Congruence.{count-wrap}
use Rattle.fc_counted.proofs.TermSubstitutions.{put_one, put_all, count-sub}
use Rattle.fc_term_rows.proofs.Instances.{same_sort-refl}
use Rattle.fc_term_rows.proofs.Knowing.{past_group}

-- STEPS OF INSTANCES

pub next_beta : (P : Program) (s : Sort) (b a : Term) → next P (App s (Lam s b) a) ≡ Some (sub (push a Var) b)
unfolding next through fire
next_beta P s b a = ap (λ c. cond c (Some (sub (push a Var) b)) None) (same_sort-refl s)

pub next_let : (P : Program) (s : Sort) (e b : Term) (p : Closing) → next P (sub p (Let s e b)) ≡ Some (sub (push (sub p e) p) b)
unfolding next sub
next_let P s e b p = ap Some (put_one (sub p e) p b)

pub next_group : (P : Program) (ts : Terms) (b : Term) (p : Closing) → next P (sub p (Rec ts b)) ≡ Some (sub (pushes (unrolled p ts) p) b)
unfolding next sub
next_group P ts b p =
    let g = sub_terms (ups (count ts) p) ts in
    let c : count ts ≡ count (wrap g g) = sym (count-wrap g g ∙ count-sub (ups (count ts) p) ts) in
    ap Some (ap (λ m. sub (pushes (wrap g g) Var) (sub (ups m p) b)) c ∙ put_all (wrap g g) p b)

-- PARTS THAT ARE MOVED IN

-- a shifted part below a pushed term, and one past the binders of a group
pub push_shift : (x : Term) (p : Closing) (b : Term) → sub (push x p) (shift b) ≡ sub p b
unfolding shift push
push_shift x p b = sub-ren (push x p) suc b

pub push_shift_alts : (x : Term) (p : Closing) (alts : Alts) → sub_alts (push x p) (ren_alts suc alts) ≡ sub_alts p alts
unfolding push
push_shift_alts x p alts = sub-ren_alts (push x p) suc alts

pub push_shift_terms : (x : Term) (p : Closing) (ts : Terms) → sub_terms (push x p) (ren_terms suc ts) ≡ sub_terms p ts
unfolding push
push_shift_terms x p ts = sub-ren_terms (push x p) suc ts

pub group_past : (ts : Terms) (p : Closing) (b : Term) → sub (pushes (unrolled p ts) p) (ren (λ n. count ts + n) b) ≡ sub p b
group_past ts p b = sub-ren (pushes (unrolled p ts) p) (λ n. count ts + n) b ∙ ap (λ g. sub g b) (past_group ts (pushes (unrolled p ts) p) p refl)

pub group_past_alts : (ts : Terms) (p : Closing) (alts : Alts) → sub_alts (pushes (unrolled p ts) p) (ren_alts (λ n. count ts + n) alts) ≡ sub_alts p alts
group_past_alts ts p alts = sub-ren_alts (pushes (unrolled p ts) p) (λ n. count ts + n) alts ∙ ap (λ g. sub_alts g alts) (past_group ts (pushes (unrolled p ts) p) p refl)

over_one : (x y : Term) (p : Closing) → (λ n. push x (push y p) (upr suc n)) ≡ push x p
unfolding push upr
over_one x y p = fun_ext (elim [ zero ↦ refl | suc n ↦ refl ])

over_group : (x : Term) (ts : Terms) (p : Closing) → (λ n. push x (pushes (unrolled p ts) p) (upr (λ m. count ts + m) n)) ≡ push x p
unfolding push upr
over_group x ts p = fun_ext (elim [ zero ↦ refl | suc n ↦ ap (λ f. f n) (past_group ts (pushes (unrolled p ts) p) p refl) ])

-- below the binder of an inner let
pub push_upr : (x y : Term) (p : Closing) (b : Term) → sub (push x (push y p)) (ren (upr suc) b) ≡ sub (push x p) b
push_upr x y p b = sub-ren (push x (push y p)) (upr suc) b ∙ ap (λ g. sub g b) (over_one x y p)

pub group_upr : (x : Term) (ts : Terms) (p : Closing) (b : Term) → sub (push x (pushes (unrolled p ts) p)) (ren (upr (λ n. count ts + n)) b) ≡ sub (push x p) b
group_upr x ts p b = sub-ren (push x (pushes (unrolled p ts) p)) (upr (λ n. count ts + n)) b ∙ ap (λ g. sub g b) (over_group x ts p)
