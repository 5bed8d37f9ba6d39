-- What some terms show: by the steps that they take, or take not.
use Rattle.std.proofs.Common.{◌≡◌, ℕ, zero, suc, ℤ, pos, true, cond, [], Some, None, refl, sym, ap, ◌∙◌, subst, arith}
use Rattle.std.specs.Ordering.{int_eq}
use Rattle.std.proofs.lemmas.Int.{ints}
use Rattle.fc_syntax.specs.declared.ty.Name.{Name}
use Rattle.fc_syntax.specs.declared.expr.PrimOp.TheVariants as op
use Rattle.fc_model.specs.Observing.{Observation, Anything, Number, Function, Built, Sees}
use Rattle.fc_model.specs.Stepping.{Program, Bare, LitKey, matches, found, default_of, own, choose, enter, fire, through, on_literals, next, IsHead, Reaches}
use Rattle.fc_model.specs.Terms.{Sort, Lifted, Unlifted, Default, OfLit, Term, Lit, Var, Global, Fail, App, Let, Case, Prim, Nil, NoAlt, Alt, push, shift, sub}
use Rattle.fc_meaning.specs.Examples.{Loops, ShowsNothing, ShowSame}
use Rattle.fc_meaning.proofs.Determined.{head_stays, next-head, one_next}
use Rattle.fc_meaning.proofs.Optional.{some_is, none_some}
use Rattle.fc_meaning.proofs.Unnamed.{put-shift}

-- NOTHING

-- what comes to no head shows nothing
no_head_no_show : (p : Program) (t : Term) → ((k : ℕ) (h : Term) → Reaches p t k h → ⊥) → ShowsNothing p t
no_head_no_show p t never Anything s = refl
no_head_no_show p t never (Number z) s = absurd (never _ _ s.1)
no_head_no_show p t never Function s = absurd (never _ _ s.3)
no_head_no_show p t never (Built c os) s = absurd (never _ _ s.3)

-- what is no head and takes no step shows nothing
stuck_shows_nothing : (p : Program) (t : Term) → (IsHead t → ⊥) → next p t ≡ None → ShowsNothing p t
stuck_shows_nothing p t other stays = no_head_no_show p t never
  where
    never : (k : ℕ) (h : Term) → Reaches p t k h → ⊥
    never zero h r = other r.1
    never (suc k) h r = none_some (sym stays ∙ r.1)

pub loop_shows_nothing : (p : Program) (x : Name) → Loops p x → ShowsNothing p (Global x)
unfolding next
loop_shows_nothing p x loops = no_head_no_show p (Global x) never
  where
    never : (k : ℕ) (h : Term) → Reaches p (Global x) k h → ⊥
    never zero h r = r.1
    never (suc k) h r = never k h (subst (λ u. Reaches p u k h) (some_is (sym r.1 ∙ loops)) r.2)

pub applied_literal_shows_nothing : (p : Program) (s : Sort) (z : ℤ) (a : Term) → ShowsNothing p (App s (Lit z) a)
unfolding next through fire
applied_literal_shows_nothing p s z a = stuck_shows_nothing p (App s (Lit z) a) (λ w. w) refl

pub fail_shows_nothing : (p : Program) → ShowsNothing p Fail
unfolding next
fail_shows_nothing p = stuck_shows_nothing p Fail (λ w. w) refl

pub quotient_shows_nothing : (p : Program) (z : ℤ) → ShowsNothing p (Prim op.Quot (Lit z) (Lit (pos 0)))
unfolding next on_literals
quotient_shows_nothing p z = stuck_shows_nothing p (Prim op.Quot (Lit z) (Lit (pos 0))) (λ w. w) refl

-- NUMBERS

number_or : ℤ → Term → ℤ
number_or z (Lit y) = y
number_or z _ = z

pub literal_shows_no_other : (p : Program) (y z : ℤ) → Sees p (Lit z) (Number y) → y ≡ z
unfolding number_or
literal_shows_no_other p y z s = sym (ap (number_or z) (head_stays p s.0 (Lit z) (Lit y) tt s.1).1)

-- STEPS

-- a run to a head goes by the term's step
run_after : (p : Program) (t u : Term) → next p t ≡ Some u → (k : ℕ) (h : Term) → Reaches p t k h → (j : ℕ) × Reaches p u j h
run_after p t u e zero h r = absurd (none_some (sym (next-head p t r.1) ∙ e))
run_after p t u e (suc k) h r = (k, subst (λ x. Reaches p x k h) (one_next p t r.0 u r.1 e) r.2)

-- a term shows the same as the one that it steps to
step_shows_same : (p : Program) (t u : Term) → next p t ≡ Some u → ShowSame p t u
step_shows_same p t u e o = (onward o, back o)
  where
    onward : (o : Observation) → Sees p t o → Sees p u o
    onward Anything s = tt
    onward (Number z) s = run_after p t u e s.0 (Lit z) s.1
    onward Function s = let r = run_after p t u e s.0 _ s.3 in (r.0, s.1, s.2, r.1)
    onward (Built c os) s = let r = run_after p t u e s.0 _ s.3 in (r.0, s.1, s.2, r.1, s.4)

    back : (o : Observation) → Sees p u o → Sees p t o
    back Anything s = tt
    back (Number z) s = (suc s.0, (u, e, s.1))
    back Function s = (suc s.0, s.1, s.2, (u, e, s.3))
    back (Built c os) s = (suc s.0, s.1, s.2, (u, e, s.3), s.4)

int_eq_refl : (z : ℤ) → int_eq z z ≡ true
int_eq_refl z = grind (arith, ints)

own_alternative : (z : ℤ) (a d : Term) → choose (LitKey z) (Alt Default d (Alt (OfLit z) a NoAlt)) ≡ Bare a
unfolding choose own matches found default_of
own_alternative z a d = ap (λ b. cond b (Bare a) (Bare d)) (int_eq_refl z)

case_steps : (p : Program) (s : Sort) (z : ℤ) (a d : Term) → next p (Case s (Lit z) (Alt Default d (Alt (OfLit z) a NoAlt))) ≡ Some (sub (push (Lit z) Var) a)
unfolding next through fire enter
case_steps p Lifted z a d = ap (enter (Lit z) [] Nil) (own_alternative z a d)
case_steps p Unlifted z a d = ap (enter (Lit z) [] Nil) (own_alternative z a d)

pub case_takes_literal : (p : Program) (s : Sort) (z : ℤ) (a d : Term) → ShowSame p (Case s (Lit z) (Alt Default d (Alt (OfLit z) a NoAlt))) (sub (push (Lit z) Var) a)
case_takes_literal p s z a d = step_shows_same p _ _ (case_steps p s z a d)

pub unused_let_shows_body : (p : Program) (x : Name) (b : Term) → Loops p x → ShowSame p (Let Lifted (Global x) (shift b)) b
unfolding next
unused_let_shows_body p x b loops = step_shows_same p (Let Lifted (Global x) (shift b)) b (ap (λ u. Some u) (put-shift (Global x) b))
