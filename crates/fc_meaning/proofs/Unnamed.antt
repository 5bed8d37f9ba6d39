-- A term put for a variable that is not named leaves the rest as it is.
use Rattle.std.proofs.Common.{◌≡◌, ℕ, zero, suc, refl, ap, ◌∙◌}
use mathlib.Core.Path.{ap₂, fun_ext}
use Rattle.fc_model.specs.Terms.{Term, Lit, Var, Global, Fail, App, Lam, Let, Rec, Case, Con, Prim, Terms, Nil, Cons, Alts, NoAlt, Alt}
use Rattle.fc_model.specs.Terms.{count, binders, upr, uprs, ren, ren_terms, ren_alts, shift, up, ups, sub, sub_terms, sub_alts, push}

-- renaming, then substitution
upr-up : (s : ℕ → Term) (r : ℕ → ℕ) → (λ n. up s (upr r n)) ≡ up (λ n. s (r n))
unfolding up upr
upr-up s r = fun_ext (elim [ zero ↦ refl | suc n ↦ refl ])

uprs-ups : (k : ℕ) (s : ℕ → Term) (r : ℕ → ℕ) → (λ n. ups k s (uprs k r n)) ≡ ups k (λ n. s (r n))
unfolding ups uprs
uprs-ups zero s r = refl
uprs-ups (suc k) s r = uprs-ups k (up s) (upr r) ∙ ap (ups k) (upr-up s r)

pub count-ren : (r : ℕ → ℕ) (ts : Terms) → count (ren_terms r ts) ≡ count ts
unfolding count ren
count-ren r Nil = refl
count-ren r (Cons t ts) = ap suc (count-ren r ts)

mutual
  unfolding ren sub

  pub sub-ren : (s : ℕ → Term) (r : ℕ → ℕ) (t : Term) → sub s (ren r t) ≡ sub (λ n. s (r n)) t
  sub-ren s r (Lit z) = refl
  sub-ren s r (Var n) = refl
  sub-ren s r (Global x) = refl
  sub-ren s r Fail = refl
  sub-ren s r (App o f a) = ap₂ (App o) (sub-ren s r f) (sub-ren s r a)
  sub-ren s r (Lam o b) = ap (Lam o) (sub-ren (up s) (upr r) b ∙ ap (λ g. sub g b) (upr-up s r))
  sub-ren s r (Let o e b) = ap₂ (Let o) (sub-ren s r e) (sub-ren (up s) (upr r) b ∙ ap (λ g. sub g b) (upr-up s r))
  sub-ren s r (Rec ts b) =
      let k = count ts in
      ap (λ m. Rec (sub_terms (ups m s) (ren_terms (uprs k r) ts)) (sub (ups m s) (ren (uprs k r) b))) (count-ren (uprs k r) ts)
      ∙ ap₂ Rec (sub-ren_terms (ups k s) (uprs k r) ts ∙ ap (λ g. sub_terms g ts) (uprs-ups k s r)) (sub-ren (ups k s) (uprs k r) b ∙ ap (λ g. sub g b) (uprs-ups k s r))
  sub-ren s r (Case o e alts) = ap₂ (Case o) (sub-ren s r e) (sub-ren_alts s r alts)
  sub-ren s r (Con c ss ts) = ap (Con c ss) (sub-ren_terms s r ts)
  sub-ren s r (Prim o a b) = ap₂ (Prim o) (sub-ren s r a) (sub-ren s r b)

  pub sub-ren_terms : (s : ℕ → Term) (r : ℕ → ℕ) (ts : Terms) → sub_terms s (ren_terms r ts) ≡ sub_terms (λ n. s (r n)) ts
  sub-ren_terms s r Nil = refl
  sub-ren_terms s r (Cons t ts) = ap₂ Cons (sub-ren s r t) (sub-ren_terms s r ts)

  pub sub-ren_alts : (s : ℕ → Term) (r : ℕ → ℕ) (alts : Alts) → sub_alts s (ren_alts r alts) ≡ sub_alts (λ n. s (r n)) alts
  sub-ren_alts s r NoAlt = refl
  sub-ren_alts s r (Alt h b alts) =
      let k = binders h in
      ap₂ (Alt h) (sub-ren (ups k (up s)) (uprs k (upr r)) b ∙ ap (λ g. sub g b) (uprs-ups k (up s) (upr r) ∙ ap (ups k) (upr-up s r))) (sub-ren_alts s r alts)

-- the substitution that changes nothing
up-var : up Var ≡ Var
unfolding up shift ren
up-var = fun_ext (elim [ zero ↦ refl | suc n ↦ refl ])

ups-var : (k : ℕ) → ups k Var ≡ Var
unfolding ups
ups-var zero = refl
ups-var (suc k) = ap (ups k) up-var ∙ ups-var k

mutual
  unfolding sub

  pub sub-var : (t : Term) → sub Var t ≡ t
  sub-var (Lit z) = refl
  sub-var (Var n) = refl
  sub-var (Global x) = refl
  sub-var Fail = refl
  sub-var (App o f a) = ap₂ (App o) (sub-var f) (sub-var a)
  sub-var (Lam o b) = ap (Lam o) (ap (λ g. sub g b) up-var ∙ sub-var b)
  sub-var (Let o e b) = ap₂ (Let o) (sub-var e) (ap (λ g. sub g b) up-var ∙ sub-var b)
  sub-var (Rec ts b) = ap₂ Rec (ap (λ g. sub_terms g ts) (ups-var (count ts)) ∙ sub-var_terms ts) (ap (λ g. sub g b) (ups-var (count ts)) ∙ sub-var b)
  sub-var (Case o e alts) = ap₂ (Case o) (sub-var e) (sub-var_alts alts)
  sub-var (Con c ss ts) = ap (Con c ss) (sub-var_terms ts)
  sub-var (Prim o a b) = ap₂ (Prim o) (sub-var a) (sub-var b)

  pub sub-var_terms : (ts : Terms) → sub_terms Var ts ≡ ts
  sub-var_terms Nil = refl
  sub-var_terms (Cons t ts) = ap₂ Cons (sub-var t) (sub-var_terms ts)

  pub sub-var_alts : (alts : Alts) → sub_alts Var alts ≡ alts
  sub-var_alts NoAlt = refl
  sub-var_alts (Alt h b alts) = ap₂ (Alt h) (ap (λ g. sub g b) (ap (ups (binders h)) up-var ∙ ups-var (binders h)) ∙ sub-var b) (sub-var_alts alts)

-- a term below a binder that it does not mention
pub put-shift : (a t : Term) → sub (push a Var) (shift t) ≡ t
unfolding shift push
put-shift a t = sub-ren (push a Var) suc t ∙ sub-var t
