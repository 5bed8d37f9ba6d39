-- Laws of renaming and substitution: one after the other is one, and terms that are put in after others.
use Rattle.std.proofs.Common.{◌≡◌, ℕ, zero, suc, refl, sym, ap, ap₂, ◌∙◌}
use Rattle.std.proofs.Math.Path.{fun_ext}
use Rattle.fc_model.specs.Terms.{Term, Lit, Var, Global, Fail, App, Lam, Let, Rec, Case, Con, Prim, Terms, Nil, Cons, Alts, NoAlt, Alt, count, binders, upr, uprs, ren, ren_terms, ren_alts, shift, up}
use Rattle.fc_model.specs.Terms.{ups}
use Rattle.fc_model.specs.Terms.{sub, sub_terms, sub_alts, push, pushes}
use Rattle.fc_meaning.proofs.Unnamed.{sub-ren, sub-ren_terms, sub-var}

-- RENAMINGS

-- a renaming below binders, as variables in place of variables
pub variables_up : (r : ℕ → ℕ) → up (λ n. Var (r n)) ≡ (λ n. Var (upr r n))
unfolding up upr shift ren
variables_up r = fun_ext (elim [ zero ↦ refl | suc n ↦ refl ])

variables_ups : (k : ℕ) (r : ℕ → ℕ) → ups k (λ n. Var (r n)) ≡ (λ n. Var (uprs k r n))
unfolding ups uprs
variables_ups zero r = refl
variables_ups (suc k) r = ap (ups k) (variables_up r) ∙ variables_ups k (upr r)

-- a renamed term is the term with variables in place of its own
mutual
  unfolding ren sub

  pub ren_is_sub : (r : ℕ → ℕ) (t : Term) → ren r t ≡ sub (λ n. Var (r n)) t
  ren_is_sub r (Lit z) = refl
  ren_is_sub r (Var n) = refl
  ren_is_sub r (Global x) = refl
  ren_is_sub r Fail = refl
  ren_is_sub r (App o f a) = ap₂ (App o) (ren_is_sub r f) (ren_is_sub r a)
  ren_is_sub r (Lam o b) = ap (Lam o) (ren_is_sub (upr r) b ∙ ap (λ g. sub g b) (sym (variables_up r)))
  ren_is_sub r (Let o e b) = ap₂ (Let o) (ren_is_sub r e) (ren_is_sub (upr r) b ∙ ap (λ g. sub g b) (sym (variables_up r)))
  ren_is_sub r (Rec ts b) =
      let e = sym (variables_ups (count ts) r) in
      ap₂ Rec (terms_ren_is_sub (uprs (count ts) r) ts ∙ ap (λ g. sub_terms g ts) e) (ren_is_sub (uprs (count ts) r) b ∙ ap (λ g. sub g b) e)
  ren_is_sub r (Case o e alts) = ap₂ (Case o) (ren_is_sub r e) (alts_ren_is_sub r alts)
  ren_is_sub r (Con c ss ts) = ap (Con c ss) (terms_ren_is_sub r ts)
  ren_is_sub r (Prim o a b) = ap₂ (Prim o) (ren_is_sub r a) (ren_is_sub r b)

  pub terms_ren_is_sub : (r : ℕ → ℕ) (ts : Terms) → ren_terms r ts ≡ sub_terms (λ n. Var (r n)) ts
  terms_ren_is_sub r Nil = refl
  terms_ren_is_sub r (Cons t ts) = ap₂ Cons (ren_is_sub r t) (terms_ren_is_sub r ts)

  pub alts_ren_is_sub : (r : ℕ → ℕ) (alts : Alts) → ren_alts r alts ≡ sub_alts (λ n. Var (r n)) alts
  alts_ren_is_sub r NoAlt = refl
  alts_ren_is_sub r (Alt h b alts) =
      let e = sym (ap (ups (binders h)) (variables_up r) ∙ variables_ups (binders h) (upr r)) in
      ap₂ (Alt h) (ren_is_sub (uprs (binders h) (upr r)) b ∙ ap (λ g. sub g b) e) (alts_ren_is_sub r alts)

-- renamed, and then renamed again
pub ren-ren : (q r : ℕ → ℕ) (t : Term) → ren q (ren r t) ≡ ren (λ n. q (r n)) t
ren-ren q r t = ren_is_sub q (ren r t) ∙ sub-ren (λ n. Var (q n)) r t ∙ sym (ren_is_sub (λ n. q (r n)) t)

pub ren-ren_terms : (q r : ℕ → ℕ) (ts : Terms) → ren_terms q (ren_terms r ts) ≡ ren_terms (λ n. q (r n)) ts
ren-ren_terms q r ts = terms_ren_is_sub q (ren_terms r ts) ∙ sub-ren_terms (λ n. Var (q n)) r ts ∙ sym (terms_ren_is_sub (λ n. q (r n)) ts)

-- SUBSTITUTION, THEN RENAMING

ren-up : (r : ℕ → ℕ) (s : ℕ → Term) → (λ n. ren (upr r) (up s n)) ≡ up (λ n. ren r (s n))
unfolding up upr shift ren
ren-up r s = fun_ext (elim [ zero ↦ refl | suc n ↦ ren-ren (upr r) suc (s n) ∙ sym (ren-ren suc r (s n)) ])

ren-ups : (k : ℕ) (r : ℕ → ℕ) (s : ℕ → Term) → (λ n. ren (uprs k r) (ups k s n)) ≡ ups k (λ n. ren r (s n))
unfolding ups uprs
ren-ups zero r s = refl
ren-ups (suc k) r s = ren-ups k (upr r) (up s) ∙ ap (ups k) (ren-up r s)

pub count-sub : (s : ℕ → Term) (ts : Terms) → count (sub_terms s ts) ≡ count ts
unfolding count sub
count-sub s Nil = refl
count-sub s (Cons t ts) = ap suc (count-sub s ts)

mutual
  unfolding ren sub

  pub ren-sub : (r : ℕ → ℕ) (s : ℕ → Term) (t : Term) → ren r (sub s t) ≡ sub (λ n. ren r (s n)) t
  ren-sub r s (Lit z) = refl
  ren-sub r s (Var n) = refl
  ren-sub r s (Global x) = refl
  ren-sub r s Fail = refl
  ren-sub r s (App o f a) = ap₂ (App o) (ren-sub r s f) (ren-sub r s a)
  ren-sub r s (Lam o b) = ap (Lam o) (ren-sub (upr r) (up s) b ∙ ap (λ g. sub g b) (ren-up r s))
  ren-sub r s (Let o e b) = ap₂ (Let o) (ren-sub r s e) (ren-sub (upr r) (up s) b ∙ ap (λ g. sub g b) (ren-up r s))
  ren-sub r s (Rec ts b) =
      let k = count ts in
      ap (λ m. Rec (ren_terms (uprs m r) (sub_terms (ups k s) ts)) (ren (uprs m r) (sub (ups k s) b))) (count-sub (ups k s) ts)
      ∙ ap₂ Rec (ren-sub_terms (uprs k r) (ups k s) ts ∙ ap (λ g. sub_terms g ts) (ren-ups k r s)) (ren-sub (uprs k r) (ups k s) b ∙ ap (λ g. sub g b) (ren-ups k r s))
  ren-sub r s (Case o e alts) = ap₂ (Case o) (ren-sub r s e) (ren-sub_alts r s alts)
  ren-sub r s (Con c ss ts) = ap (Con c ss) (ren-sub_terms r s ts)
  ren-sub r s (Prim o a b) = ap₂ (Prim o) (ren-sub r s a) (ren-sub r s b)

  pub ren-sub_terms : (r : ℕ → ℕ) (s : ℕ → Term) (ts : Terms) → ren_terms r (sub_terms s ts) ≡ sub_terms (λ n. ren r (s n)) ts
  ren-sub_terms r s Nil = refl
  ren-sub_terms r s (Cons t ts) = ap₂ Cons (ren-sub r s t) (ren-sub_terms r s ts)

  pub ren-sub_alts : (r : ℕ → ℕ) (s : ℕ → Term) (alts : Alts) → ren_alts r (sub_alts s alts) ≡ sub_alts (λ n. ren r (s n)) alts
  ren-sub_alts r s NoAlt = refl
  ren-sub_alts r s (Alt h b alts) =
      let k = binders h in
      ap₂ (Alt h) (ren-sub (uprs k (upr r)) (ups k (up s)) b ∙ ap (λ g. sub g b) (ren-ups k (upr r) (up s) ∙ ap (ups k) (ren-up r s))) (ren-sub_alts r s alts)

-- TWO SUBSTITUTIONS

sub-up : (q s : ℕ → Term) → (λ n. sub (up q) (up s n)) ≡ up (λ n. sub q (s n))
unfolding up shift sub
sub-up q s = fun_ext (elim [ zero ↦ refl | suc n ↦ sub-ren (up q) suc (s n) ∙ sym (ren-sub suc q (s n)) ])

sub-ups : (k : ℕ) (q s : ℕ → Term) → (λ n. sub (ups k q) (ups k s n)) ≡ ups k (λ n. sub q (s n))
unfolding ups
sub-ups zero q s = refl
sub-ups (suc k) q s = sub-ups k (up q) (up s) ∙ ap (ups k) (sub-up q s)

mutual
  unfolding sub

  pub sub-sub : (q s : ℕ → Term) (t : Term) → sub q (sub s t) ≡ sub (λ n. sub q (s n)) t
  sub-sub q s (Lit z) = refl
  sub-sub q s (Var n) = refl
  sub-sub q s (Global x) = refl
  sub-sub q s Fail = refl
  sub-sub q s (App o f a) = ap₂ (App o) (sub-sub q s f) (sub-sub q s a)
  sub-sub q s (Lam o b) = ap (Lam o) (sub-sub (up q) (up s) b ∙ ap (λ g. sub g b) (sub-up q s))
  sub-sub q s (Let o e b) = ap₂ (Let o) (sub-sub q s e) (sub-sub (up q) (up s) b ∙ ap (λ g. sub g b) (sub-up q s))
  sub-sub q s (Rec ts b) =
      let k = count ts in
      ap (λ m. Rec (sub_terms (ups m q) (sub_terms (ups k s) ts)) (sub (ups m q) (sub (ups k s) b))) (count-sub (ups k s) ts)
      ∙ ap₂ Rec (sub-sub_terms (ups k q) (ups k s) ts ∙ ap (λ g. sub_terms g ts) (sub-ups k q s)) (sub-sub (ups k q) (ups k s) b ∙ ap (λ g. sub g b) (sub-ups k q s))
  sub-sub q s (Case o e alts) = ap₂ (Case o) (sub-sub q s e) (sub-sub_alts q s alts)
  sub-sub q s (Con c ss ts) = ap (Con c ss) (sub-sub_terms q s ts)
  sub-sub q s (Prim o a b) = ap₂ (Prim o) (sub-sub q s a) (sub-sub q s b)

  pub sub-sub_terms : (q s : ℕ → Term) (ts : Terms) → sub_terms q (sub_terms s ts) ≡ sub_terms (λ n. sub q (s n)) ts
  sub-sub_terms q s Nil = refl
  sub-sub_terms q s (Cons t ts) = ap₂ Cons (sub-sub q s t) (sub-sub_terms q s ts)

  pub sub-sub_alts : (q s : ℕ → Term) (alts : Alts) → sub_alts q (sub_alts s alts) ≡ sub_alts (λ n. sub q (s n)) alts
  sub-sub_alts q s NoAlt = refl
  sub-sub_alts q s (Alt h b alts) =
      let k = binders h in
      ap₂ (Alt h) (sub-sub (ups k (up q)) (ups k (up s)) b ∙ ap (λ g. sub g b) (sub-ups k (up q) (up s) ∙ ap (ups k) (sub-up q s))) (sub-sub_alts q s alts)

-- TERMS FOR THE INNERMOST VARIABLES

pub push-up : (t : Term) (q s : ℕ → Term) → (λ n. sub (push t q) (up s n)) ≡ push t (λ n. sub q (s n))
unfolding push up shift sub
push-up t q s = fun_ext (elim [ zero ↦ refl | suc n ↦ sub-ren (push t q) suc (s n) ])

pub pushes-ups : (ts : Terms) (q s : ℕ → Term) → (λ n. sub (pushes ts q) (ups (count ts) s n)) ≡ pushes ts (λ n. sub q (s n))
unfolding pushes ups count
pushes-ups Nil q s = refl
pushes-ups (Cons t ts) q s = pushes-ups ts (push t q) (up s) ∙ ap (pushes ts) (push-up t q s)

all-var : (s : ℕ → Term) → (λ n. sub Var (s n)) ≡ s
all-var s = fun_ext (λ n. sub-var (s n))

-- one argument for the body of a binder
pub put_one : (a : Term) (s : ℕ → Term) (b : Term) → sub (push a Var) (sub (up s) b) ≡ sub (push a s) b
put_one a s b = sub-sub (push a Var) (up s) b ∙ ap (λ g. sub g b) (push-up a Var s ∙ ap (push a) (all-var s))

-- a group's binders
pub put_all : (ts : Terms) (s : ℕ → Term) (b : Term) → sub (pushes ts Var) (sub (ups (count ts) s) b) ≡ sub (pushes ts s) b
put_all ts s b = sub-sub (pushes ts Var) (ups (count ts) s) b ∙ ap (λ g. sub g b) (pushes-ups ts Var s ∙ ap (pushes ts) (all-var s))

-- the case binder and an alternative's binders
pub put_fields : (ts : Terms) (h : Term) (s : ℕ → Term) (b : Term) → sub (pushes ts (push h Var)) (sub (ups (count ts) (up s)) b) ≡ sub (pushes ts (push h s)) b
put_fields ts h s b =
    sub-sub (pushes ts (push h Var)) (ups (count ts) (up s)) b
    ∙ ap (λ g. sub g b) (pushes-ups ts (push h Var) (up s) ∙ ap (pushes ts) (push-up h Var s ∙ ap (push h) (all-var s)))

-- a substitution after one argument
pub push-after : (e : Term) (s : ℕ → Term) → (λ n. sub s (push e Var n)) ≡ push (sub s e) s
unfolding push sub
push-after e s = fun_ext (elim [ zero ↦ refl | suc n ↦ refl ])

pub sub-put : (e : Term) (s : ℕ → Term) (b : Term) → sub s (sub (push e Var) b) ≡ sub (push (sub s e) s) b
sub-put e s b = sub-sub s (push e Var) b ∙ ap (λ g. sub g b) (push-after e s)
