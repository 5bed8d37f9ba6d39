-- Closed terms are not changed by a substitution.
use Rattle.std.proofs.Common.{◌≡◌, ℕ, zero, suc, List, [], ◌∷◌, length, Some, refl, ap, ap₂, subst}
use Rattle.fc_model.specs.Terms.{Sort, Head, Term, Lit, Var, Global, Fail, App, Lam, Let, Rec, Case, Con, Prim, Terms, Nil, Cons, Alts, NoAlt, Alt, count, binders, up, ups, shift, ren, sub, sub_terms}
use Rattle.fc_model.specs.Terms.{sub_alts, sort_at, enters, lifteds, head_sorts, IsSorted, AreSorted, AltsAreSorted}
use Rattle.fc_meaning.proofs.Optional.{none_some}
use Rattle.fc_meaning.proofs.SortsKept.{length-lifteds, length-head_sorts}

-- each variable of these sorts stands for itself
abbrev pub IsIdentity : List Sort → (ℕ → Term) → Type 0
IsIdentity g p = (n : ℕ) (s : Sort) → sort_at g n ≡ Some s → p n ≡ Var n

identity_up : (g : List Sort) (o : Sort) (p : ℕ → Term) → IsIdentity g p → IsIdentity (o ∷ g) (up p)
unfolding up shift ren sort_at
identity_up g o p h zero s e = refl
identity_up g o p h (suc n) s e = ap (ren suc) (h n s e)

identity_ups : (ss g : List Sort) (p : ℕ → Term) → IsIdentity g p → IsIdentity (enters ss g) (ups (length ss) p)
unfolding ups enters
identity_ups [] g p h = h
identity_ups (s ∷ ss) g p h = identity_ups ss (s ∷ g) (up p) (identity_up g s p h)

identity_group : (ts : Terms) (g : List Sort) (p : ℕ → Term) → IsIdentity g p → IsIdentity (enters (lifteds ts) g) (ups (count ts) p)
identity_group ts g p h = subst (λ k. IsIdentity (enters (lifteds ts) g) (ups k p)) (length-lifteds ts) (identity_ups (lifteds ts) g p h)

identity_alternative : (h : Head) (g : List Sort) (p : ℕ → Term) → IsIdentity g p → IsIdentity (enters (head_sorts h) g) (ups (binders h) p)
identity_alternative h g p w = subst (λ k. IsIdentity (enters (head_sorts h) g) (ups k p)) (length-head_sorts h) (identity_ups (head_sorts h) g p w)

mutual
  unfolding sub

  pub sub_identity : (g : List Sort) (p : ℕ → Term) → IsIdentity g p → (t : Term) → IsSorted g t → sub p t ≡ t
  sub_identity g p h (Lit z) w = refl
  sub_identity g p h (Var n) w = h n w.0 w.1
  sub_identity g p h (Global x) w = refl
  sub_identity g p h Fail w = refl
  sub_identity g p h (App o f a) w = ap₂ (App o) (sub_identity g p h f w.0) (sub_identity g p h a w.1)
  sub_identity g p h (Lam o b) w = ap (Lam o) (sub_identity (o ∷ g) (up p) (identity_up g o p h) b w)
  sub_identity g p h (Let o e b) w = ap₂ (Let o) (sub_identity g p h e w.0) (sub_identity (o ∷ g) (up p) (identity_up g o p h) b w.2)
  sub_identity g p h (Rec ts b) w =
      ap₂ Rec (sub_identity_terms (enters (lifteds ts) g) (ups (count ts) p) (identity_group ts g p h) ts w.0) (sub_identity (enters (lifteds ts) g) (ups (count ts) p) (identity_group ts g p h) b w.1)
  sub_identity g p h (Case o e alts) w = ap₂ (Case o) (sub_identity g p h e w.0) (sub_identity_alts g p h o alts w.1)
  sub_identity g p h (Con c ss ts) w = ap (Con c ss) (sub_identity_terms g p h ts w.0)
  sub_identity g p h (Prim o a b) w = ap₂ (Prim o) (sub_identity g p h a w.0) (sub_identity g p h b w.2)

  sub_identity_terms : (g : List Sort) (p : ℕ → Term) → IsIdentity g p → (ts : Terms) → AreSorted g ts → sub_terms p ts ≡ ts
  sub_identity_terms g p h Nil w = refl
  sub_identity_terms g p h (Cons t ts) w = ap₂ Cons (sub_identity g p h t w.0) (sub_identity_terms g p h ts w.1)

  sub_identity_alts : (g : List Sort) (p : ℕ → Term) → IsIdentity g p → (o : Sort) (alts : Alts) → AltsAreSorted (o ∷ g) alts → sub_alts p alts ≡ alts
  sub_identity_alts g p h o NoAlt w = refl
  sub_identity_alts g p h o (Alt k b alts) w =
      ap₂ (Alt k) (sub_identity (enters (head_sorts k) (o ∷ g)) (ups (binders k) (up p)) (identity_alternative k (o ∷ g) (up p) (identity_up g o p h)) b w.0) (sub_identity_alts g p h o alts w.1)

pub closed_stays : (p : ℕ → Term) (t : Term) → IsSorted [] t → sub p t ≡ t
unfolding sort_at
closed_stays p t w = sub_identity [] p (λ n s e. absurd (none_some e)) t w
