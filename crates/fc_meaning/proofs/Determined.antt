-- A term takes one step at most, a head takes none, and all runs to a head are one.
use Rattle.std.proofs.Common.{◌≡◌, ℕ, zero, suc, Some, None, refl, sym, ap, ◌∙◌, subst}
use Rattle.fc_model.specs.Stepping.{Program, next, IsHead, Reaches}
use Rattle.fc_model.specs.Terms.{Term, Lit, Lam, Con}
use Rattle.fc_meaning.proofs.Optional.{some_is, none_some}

pub one_next : (P : Program) (t u v : Term) → next P t ≡ Some u → next P t ≡ Some v → u ≡ v
one_next P t u v d e = some_is (sym d ∙ e)

pub next-head : (P : Program) (h : Term) → IsHead h → next P h ≡ None
unfolding next
next-head P (Lit z) w = refl
next-head P (Lam s b) w = refl
next-head P (Con c ss ts) w = refl
next-head P _ w = absurd w

pub head_stays : (P : Program) (k : ℕ) (g h : Term) → IsHead g → Reaches P g k h → (k ≡ zero) × (g ≡ h)
head_stays P zero g h w r = (refl, r.0)
head_stays P (suc k) g h w r = absurd (none_some (sym (next-head P g w) ∙ r.1))

pub one_head : (P : Program) (k l : ℕ) (t g h : Term) → Reaches P t k g → Reaches P t l h → (k ≡ l) × (g ≡ h)
one_head P zero l t g h r q = let e = head_stays P l t h r.1 q in (sym e.0, sym r.0 ∙ e.1)
one_head P (suc k) zero t g h r q = absurd (none_some (sym (next-head P t q.1) ∙ r.1))
one_head P (suc k) (suc l) t g h r q =
    let same : q.0 ≡ r.0 = one_next P t q.0 r.0 q.1 r.1 in
    let e = one_head P k l r.0 g h r.2 (subst (λ x. Reaches P x l h) same q.2) in
    (ap suc e.0, e.1)
