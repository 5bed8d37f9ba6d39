-- Sorts are kept by renaming and by substitution.
use Rattle.std.proofs.Common.{◌≡◌, ℕ, zero, suc, List, [], ◌∷◌, length, Some, refl, sym, ap, subst}
use Rattle.fc_model.specs.Terms.{Sort, Lifted, Unlifted, Head, Default, OfLit, OfCon, Term, Lit, Var, Global, Fail, App, Lam, Let, Rec, Case, Con, Prim, Terms, Nil, Cons, Alts, NoAlt, Alt}
use Rattle.fc_model.specs.Terms.{count, binders, upr, uprs, ren, ren_terms, ren_alts, shift, up, ups, sub, sub_terms, sub_alts}
use Rattle.fc_model.specs.Terms.{sort_at, enters, lifteds, head_sorts, IsAtom, HasSorts, IsSorted, AreSorted, AltsAreSorted}

-- RENAMING

abbrev pub Renames : (ℕ → ℕ) → List Sort → List Sort → Type 0
Renames r g d = (n : ℕ) (s : Sort) → sort_at g n ≡ Some s → sort_at d (r n) ≡ Some s

renames_under : (r : ℕ → ℕ) (g d : List Sort) (o : Sort) → Renames r g d → Renames (upr r) (o ∷ g) (o ∷ d)
unfolding upr sort_at
renames_under r g d o h zero s e = e
renames_under r g d o h (suc n) s e = h n s e

renames_enters : (ss : List Sort) (r : ℕ → ℕ) (g d : List Sort) → Renames r g d → Renames (uprs (length ss) r) (enters ss g) (enters ss d)
unfolding uprs enters
renames_enters [] r g d h = h
renames_enters (s ∷ ss) r g d h = renames_enters ss (upr r) (s ∷ g) (s ∷ d) (renames_under r g d s h)

pub length-lifteds : (ts : Terms) → length (lifteds ts) ≡ count ts
unfolding lifteds count
length-lifteds Nil = refl
length-lifteds (Cons t ts) = ap suc (length-lifteds ts)

pub length-head_sorts : (h : Head) → length (head_sorts h) ≡ binders h
unfolding head_sorts binders
length-head_sorts Default = refl
length-head_sorts (OfLit z) = refl
length-head_sorts (OfCon c ss) = refl

lifteds-ren : (r : ℕ → ℕ) (ts : Terms) → lifteds (ren_terms r ts) ≡ lifteds ts
unfolding lifteds ren
lifteds-ren r Nil = refl
lifteds-ren r (Cons t ts) = ap (λ l. Lifted ∷ l) (lifteds-ren r ts)

atom_ren : (r : ℕ → ℕ) (g d : List Sort) → Renames r g d → (s : Sort) (t : Term) → IsAtom g s t → IsAtom d s (ren r t)
unfolding ren
atom_ren r g d h Lifted t a = tt
atom_ren r g d h Unlifted (Lit z) a = tt
atom_ren r g d h Unlifted (Var n) a = h n Unlifted a
atom_ren r g d h Unlifted _ a = absurd a

has_sorts_ren : (r : ℕ → ℕ) (g d : List Sort) → Renames r g d → (ss : List Sort) (ts : Terms) → HasSorts g ss ts → HasSorts d ss (ren_terms r ts)
unfolding ren
has_sorts_ren r g d h [] Nil a = tt
has_sorts_ren r g d h [] (Cons t ts) a = absurd a
has_sorts_ren r g d h (s ∷ ss) Nil a = absurd a
has_sorts_ren r g d h (s ∷ ss) (Cons t ts) a = (atom_ren r g d h s t a.0, has_sorts_ren r g d h ss ts a.1)

renames_group : (ts : Terms) (r : ℕ → ℕ) (g d : List Sort) → Renames r g d → Renames (uprs (count ts) r) (enters (lifteds ts) g) (enters (lifteds ts) d)
renames_group ts r g d h = subst (λ k. Renames (uprs k r) (enters (lifteds ts) g) (enters (lifteds ts) d)) (length-lifteds ts) (renames_enters (lifteds ts) r g d h)

renames_alt : (h : Head) (r : ℕ → ℕ) (g d : List Sort) → Renames r g d → Renames (uprs (binders h) r) (enters (head_sorts h) g) (enters (head_sorts h) d)
renames_alt h r g d w = subst (λ k. Renames (uprs k r) (enters (head_sorts h) g) (enters (head_sorts h) d)) (length-head_sorts h) (renames_enters (head_sorts h) r g d w)

mutual
  unfolding ren

  pub sorted_ren : (r : ℕ → ℕ) (g d : List Sort) → Renames r g d → (t : Term) → IsSorted g t → IsSorted d (ren r t)
  sorted_ren r g d h (Lit z) w = w
  sorted_ren r g d h (Var n) w = (w.0, h n w.0 w.1)
  sorted_ren r g d h (Global x) w = tt
  sorted_ren r g d h Fail w = tt
  sorted_ren r g d h (App o f a) w = (sorted_ren r g d h f w.0, sorted_ren r g d h a w.1, atom_ren r g d h o a w.2)
  sorted_ren r g d h (Lam o b) w = sorted_ren (upr r) (o ∷ g) (o ∷ d) (renames_under r g d o h) b w
  sorted_ren r g d h (Let o e b) w = (sorted_ren r g d h e w.0, atom_ren r g d h o e w.1, sorted_ren (upr r) (o ∷ g) (o ∷ d) (renames_under r g d o h) b w.2)
  sorted_ren r g d h (Rec ts b) w =
      let q = uprs (count ts) r in
      let k = renames_group ts r g d h in
      subst (λ ls. AreSorted (enters ls d) (ren_terms q ts) × IsSorted (enters ls d) (ren q b)) (sym (lifteds-ren q ts)) (sorted_ren_terms q _ _ k ts w.0, sorted_ren q _ _ k b w.1)
  sorted_ren r g d h (Case o e alts) w = (sorted_ren r g d h e w.0, sorted_ren_alts r g d h o alts w.1)
  sorted_ren r g d h (Con c ss ts) w = (sorted_ren_terms r g d h ts w.0, has_sorts_ren r g d h ss ts w.1)
  sorted_ren r g d h (Prim o a b) w = (sorted_ren r g d h a w.0, atom_ren r g d h Unlifted a w.1, sorted_ren r g d h b w.2, atom_ren r g d h Unlifted b w.3)

  sorted_ren_terms : (r : ℕ → ℕ) (g d : List Sort) → Renames r g d → (ts : Terms) → AreSorted g ts → AreSorted d (ren_terms r ts)
  sorted_ren_terms r g d h Nil w = tt
  sorted_ren_terms r g d h (Cons t ts) w = (sorted_ren r g d h t w.0, sorted_ren_terms r g d h ts w.1)

  sorted_ren_alts : (r : ℕ → ℕ) (g d : List Sort) → Renames r g d → (o : Sort) (alts : Alts) → AltsAreSorted (o ∷ g) alts → AltsAreSorted (o ∷ d) (ren_alts r alts)
  sorted_ren_alts r g d h o NoAlt w = tt
  sorted_ren_alts r g d h o (Alt k b alts) w =
      (sorted_ren (uprs (binders k) (upr r)) _ _ (renames_alt k (upr r) (o ∷ g) (o ∷ d) (renames_under r g d o h)) b w.0, sorted_ren_alts r g d h o alts w.1)

-- SUBSTITUTION

abbrev pub Puts : (ℕ → Term) → List Sort → List Sort → Type 0
Puts r g d = (n : ℕ) (s : Sort) → sort_at g n ≡ Some s → IsSorted d (r n) × IsAtom d s (r n)

first_atom : (o s : Sort) (d : List Sort) → Some o ≡ Some s → IsAtom (o ∷ d) s (Var zero)
unfolding sort_at
first_atom o Lifted d e = tt
first_atom o Unlifted d e = e

puts_under : (r : ℕ → Term) (g d : List Sort) (o : Sort) → Puts r g d → Puts (up r) (o ∷ g) (o ∷ d)
unfolding up shift sort_at
puts_under r g d o h zero s e = ((o, refl), first_atom o s d e)
puts_under r g d o h (suc n) s e =
    let k : Renames suc d (o ∷ d) = λ m q w. w in
    let w = h n s e in
    (sorted_ren suc d (o ∷ d) k (r n) w.0, atom_ren suc d (o ∷ d) k s (r n) w.1)

puts_enters : (ss : List Sort) (r : ℕ → Term) (g d : List Sort) → Puts r g d → Puts (ups (length ss) r) (enters ss g) (enters ss d)
unfolding ups enters
puts_enters [] r g d h = h
puts_enters (s ∷ ss) r g d h = puts_enters ss (up r) (s ∷ g) (s ∷ d) (puts_under r g d s h)

puts_group : (ts : Terms) (r : ℕ → Term) (g d : List Sort) → Puts r g d → Puts (ups (count ts) r) (enters (lifteds ts) g) (enters (lifteds ts) d)
puts_group ts r g d h = subst (λ k. Puts (ups k r) (enters (lifteds ts) g) (enters (lifteds ts) d)) (length-lifteds ts) (puts_enters (lifteds ts) r g d h)

puts_alt : (h : Head) (r : ℕ → Term) (g d : List Sort) → Puts r g d → Puts (ups (binders h) r) (enters (head_sorts h) g) (enters (head_sorts h) d)
puts_alt h r g d w = subst (λ k. Puts (ups k r) (enters (head_sorts h) g) (enters (head_sorts h) d)) (length-head_sorts h) (puts_enters (head_sorts h) r g d w)

pub lifteds-sub : (r : ℕ → Term) (ts : Terms) → lifteds (sub_terms r ts) ≡ lifteds ts
unfolding lifteds sub
lifteds-sub r Nil = refl
lifteds-sub r (Cons t ts) = ap (λ l. Lifted ∷ l) (lifteds-sub r ts)

pub atom_sub : (r : ℕ → Term) (g d : List Sort) → Puts r g d → (s : Sort) (t : Term) → IsAtom g s t → IsAtom d s (sub r t)
unfolding sub
atom_sub r g d h Lifted t a = tt
atom_sub r g d h Unlifted (Lit z) a = tt
atom_sub r g d h Unlifted (Var n) a = (h n Unlifted a).1
atom_sub r g d h Unlifted _ a = absurd a

has_sorts_sub : (r : ℕ → Term) (g d : List Sort) → Puts r g d → (ss : List Sort) (ts : Terms) → HasSorts g ss ts → HasSorts d ss (sub_terms r ts)
unfolding sub
has_sorts_sub r g d h [] Nil a = tt
has_sorts_sub r g d h [] (Cons t ts) a = absurd a
has_sorts_sub r g d h (s ∷ ss) Nil a = absurd a
has_sorts_sub r g d h (s ∷ ss) (Cons t ts) a = (atom_sub r g d h s t a.0, has_sorts_sub r g d h ss ts a.1)

mutual
  unfolding sub

  pub sorted_sub : (r : ℕ → Term) (g d : List Sort) → Puts r g d → (t : Term) → IsSorted g t → IsSorted d (sub r t)
  sorted_sub r g d h (Lit z) w = w
  sorted_sub r g d h (Var n) w = (h n w.0 w.1).0
  sorted_sub r g d h (Global x) w = tt
  sorted_sub r g d h Fail w = tt
  sorted_sub r g d h (App o f a) w = (sorted_sub r g d h f w.0, sorted_sub r g d h a w.1, atom_sub r g d h o a w.2)
  sorted_sub r g d h (Lam o b) w = sorted_sub (up r) (o ∷ g) (o ∷ d) (puts_under r g d o h) b w
  sorted_sub r g d h (Let o e b) w = (sorted_sub r g d h e w.0, atom_sub r g d h o e w.1, sorted_sub (up r) (o ∷ g) (o ∷ d) (puts_under r g d o h) b w.2)
  sorted_sub r g d h (Rec ts b) w =
      let q = ups (count ts) r in
      let k = puts_group ts r g d h in
      subst (λ ls. AreSorted (enters ls d) (sub_terms q ts) × IsSorted (enters ls d) (sub q b)) (sym (lifteds-sub q ts)) (sorted_sub_terms q _ _ k ts w.0, sorted_sub q _ _ k b w.1)
  sorted_sub r g d h (Case o e alts) w = (sorted_sub r g d h e w.0, sorted_sub_alts r g d h o alts w.1)
  sorted_sub r g d h (Con c ss ts) w = (sorted_sub_terms r g d h ts w.0, has_sorts_sub r g d h ss ts w.1)
  sorted_sub r g d h (Prim o a b) w = (sorted_sub r g d h a w.0, atom_sub r g d h Unlifted a w.1, sorted_sub r g d h b w.2, atom_sub r g d h Unlifted b w.3)

  pub sorted_sub_terms : (r : ℕ → Term) (g d : List Sort) → Puts r g d → (ts : Terms) → AreSorted g ts → AreSorted d (sub_terms r ts)
  sorted_sub_terms r g d h Nil w = tt
  sorted_sub_terms r g d h (Cons t ts) w = (sorted_sub r g d h t w.0, sorted_sub_terms r g d h ts w.1)

  pub sorted_sub_alts : (r : ℕ → Term) (g d : List Sort) → Puts r g d → (o : Sort) (alts : Alts) → AltsAreSorted (o ∷ g) alts → AltsAreSorted (o ∷ d) (sub_alts r alts)
  sorted_sub_alts r g d h o NoAlt w = tt
  sorted_sub_alts r g d h o (Alt k b alts) w =
      (sorted_sub (ups (binders k) (up r)) _ _ (puts_alt k (up r) (o ∷ g) (o ∷ d) (puts_under r g d o h)) b w.0, sorted_sub_alts r g d h o alts w.1)
