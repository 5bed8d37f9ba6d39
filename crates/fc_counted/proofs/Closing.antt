-- Terms that fit close a place below one binder more, and close it at lower counts too.
use Rattle.std.proofs.Common.{ℕ, zero, suc, ◌≤◌, List, [], ◌∷◌, refl, subst}
use Rattle.fc_model.specs.Stepping.{Program}
use Rattle.fc_model.specs.Terms.{Sort, Term, Terms, Nil, Cons, sub, push, pushes, sort_at, enters, lifteds}
use Rattle.fc_meaning.proofs.Optional.{some_is}
use Rattle.fc_counted.specs.Closings.{Closing, Closes, FieldsFit, AreClosing, unrolled}
use Rattle.fc_counted.specs.CountedRelation.{Counted, Fit, Under}
use Rattle.fc_counted.specs.Places.{Place, InBody, PastLet, PastGroup, sorts_in}
use Rattle.fc_counted.proofs.Counting

pub closes_push : (R : Counted) (k : ℕ) (s : Sort) (x y : Term) (g : List Sort) (p q : Closing) → Fit R k s x y → Closes R k g p q → Closes R k (s ∷ g) (push x p) (push y q)
unfolding push sort_at
closes_push R k s x y g p q f c zero o e = subst (λ z. Fit R k z x y) (some_is e) f
closes_push R k s x y g p q f c (suc n) o e = c n o e

pub closes_pushes : (R : Counted) (k : ℕ) (ss : List Sort) (ts us : Terms) (g : List Sort) (p q : Closing) → FieldsFit R k ss ts us → Closes R k g p q
    → Closes R k (enters ss g) (pushes ts p) (pushes us q)
unfolding pushes enters
closes_pushes R k [] Nil Nil g p q f c = c
closes_pushes R k (s ∷ ss) (Cons t ts) (Cons u us) g p q f c = closes_pushes R k ss ts us (s ∷ g) (push t p) (push u q) f.1 (closes_push R k s t u g p q f.0 c)
closes_pushes R k _ _ _ g p q f c = absurd f

module _ (P Q : Program) where
  pub fits_down : (k l : ℕ) → l ≤ k → (ss : List Sort) (ts us : Terms) → FieldsFit (Under P Q) k ss ts us → FieldsFit (Under P Q) l ss ts us
  fits_down k l le [] Nil Nil f = tt
  fits_down k l le (s ∷ ss) (Cons t ts) (Cons u us) f = (Counting.fit_down P Q (Under P Q) k l le s t u f.0, fits_down k l le ss ts us f.1)
  fits_down k l le _ _ _ f = absurd f

  pub closes_down : (k l : ℕ) → l ≤ k → (g : List Sort) (p q : Closing) → Closes (Under P Q) k g p q → Closes (Under P Q) l g p q
  closes_down k l le g p q c n s e = Counting.fit_down P Q (Under P Q) k l le s (p n) (q n) (c n s e)

  pub closing_down : (k l : ℕ) → l ≤ k → (c : Place) (p q : Closing) → AreClosing P Q k c p q → AreClosing P Q l c p q
  closing_down k l le c p q e = record { closes = closes_down k l le (sorts_in c) p q e.closes; on_left = e.on_left; on_right = e.on_right }

  pub closing_body : (j : ℕ) (s : Sort) (c : Place) (p q : Closing) (x y : Term) → Fit (Under P Q) j s x y → AreClosing P Q j c p q → AreClosing P Q j (InBody s c) (push x p) (push y q)
  unfolding sorts_in
  closing_body j s c p q x y f e = record {
    closes = closes_push (Under P Q) j s x y (sorts_in c) p q f e.closes;
    on_left = (p, x, refl, e.on_left);
    on_right = (q, y, refl, e.on_right);
  }

  pub closing_let : (j : ℕ) (s : Sort) (a b : Term) (c : Place) (p q : Closing) → Fit (Under P Q) j s (sub p a) (sub q b) → AreClosing P Q j c p q
      → AreClosing P Q j (PastLet s a b c) (push (sub p a) p) (push (sub q b) q)
  unfolding sorts_in
  closing_let j s a b c p q f e = record {
    closes = closes_push (Under P Q) j s (sub p a) (sub q b) (sorts_in c) p q f e.closes;
    on_left = (p, refl, e.on_left);
    on_right = (q, refl, e.on_right);
  }

  pub closing_group : (j : ℕ) (ts us : Terms) (c : Place) (p q : Closing) → FieldsFit (Under P Q) j (lifteds ts) (unrolled p ts) (unrolled q us) → AreClosing P Q j c p q
      → AreClosing P Q j (PastGroup (lifteds ts) ts us c) (pushes (unrolled p ts) p) (pushes (unrolled q us) q)
  unfolding sorts_in
  closing_group j ts us c p q f e = record {
    closes = closes_pushes (Under P Q) j (lifteds ts) (unrolled p ts) (unrolled q us) (sorts_in c) p q f e.closes;
    on_left = (p, refl, e.on_left);
    on_right = (q, refl, e.on_right);
  }
