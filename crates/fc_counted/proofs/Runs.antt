-- Runs: their ends are heads, a run of a frame goes by the run inside it, and sorts are kept.
use Rattle.std.proofs.Common.{◌≡◌, ℕ, zero, suc, ◌+◌, [], Option, Some, None, refl, sym, ap, ◌∙◌, subst, arith}
use Rattle.fc_model.specs.Stepping.{Program, Frame, AppTo, CaseOf, plug, fire, through, next, IsHead, Reaches}
use Rattle.fc_model.specs.Terms.{Lifted, Unlifted, Term, Lit, Lam, Con, IsSorted}
use Rattle.fc_meaning.specs.Laws.{SortedProgram}
use Rattle.fc_meaning.proofs.Determined.{next-head}
use Rattle.fc_meaning.proofs.Optional.{some_is, none_some}
use Rattle.fc_meaning.proofs.SortedSteps.{next_sorted}

-- the end of a run is a head
pub reaches_head : (P : Program) (k : ℕ) (t h : Term) → Reaches P t k h → IsHead h
reaches_head P zero t h r = subst IsHead r.0 r.1
reaches_head P (suc k) t h r = reaches_head P k r.0 h r.2

-- FRAMES

pub next-plug : (P : Program) (f : Frame) (t : Term) → next P (plug f t) ≡ through f t (next P t)
unfolding next plug
next-plug P (AppTo s a) t = refl
next-plug P (CaseOf s alts) t = refl

plug-head : (f : Frame) (t : Term) → IsHead (plug f t) → ⊥
unfolding plug
plug-head (AppTo s a) t w = w
plug-head (CaseOf s alts) t w = w

fire-head : (f : Frame) (t u : Term) → fire f t ≡ Some u → IsHead t
unfolding fire
fire-head (AppTo s a) (Lam r b) u e = tt
fire-head (AppTo s a) (Lit z) u e = tt
fire-head (AppTo s a) (Con c ss ts) u e = tt
fire-head (AppTo s a) _ u e = absurd (none_some e)
fire-head (CaseOf s alts) (Lit z) u e = tt
fire-head (CaseOf Lifted alts) (Lam r b) u e = tt
fire-head (CaseOf Lifted alts) (Con c ss ts) u e = tt
fire-head (CaseOf Unlifted alts) (Lam r b) u e = tt
fire-head (CaseOf Unlifted alts) (Con c ss ts) u e = tt
fire-head (CaseOf _ alts) _ u e = absurd (none_some e)

-- a run of a frame: the run inside, the frame's step, the rest
pub record Split (P : Program) (f : Frame) (t : Term) (k : ℕ) (h : Term) : Type 0 where
  pub inner : ℕ
  pub rest : ℕ
  pub head : Term
  pub after : Term
  pub inside : Reaches P t inner head
  pub fires : fire f head ≡ Some after
  pub goes : Reaches P after rest h
  pub counts : k ≡ suc (inner + rest)

split_more : (P : Program) (f : Frame) (t u : Term) (k : ℕ) (h : Term) → next P t ≡ Some u → Split P f u k h → Split P f t (suc k) h
split_more P f t u k h e d = record {
  inner = suc d.inner;
  rest = d.rest;
  head = d.head;
  after = d.after;
  inside = (u, e, d.inside);
  fires = d.fires;
  goes = d.goes;
  counts = let c = d.counts in omega arith;
}

split_now : (P : Program) (f : Frame) (t u : Term) (k : ℕ) (h : Term) → fire f t ≡ Some u → Reaches P u k h → Split P f t (suc k) h
split_now P f t u k h e r = record {
  inner = zero;
  rest = k;
  head = t;
  after = u;
  inside = (refl, fire-head f t u e);
  fires = e;
  goes = r;
  counts = omega arith;
}

pub split : (P : Program) (f : Frame) (k : ℕ) (t h : Term) → Reaches P (plug f t) k h → Split P f t k h
unfolding through
split P f zero t h r = absurd (plug-head f t r.1)
split P f (suc k) t h r = go (λ u q. split P f k u h q) (next P t) refl (sym (next-plug P f t) ∙ r.1)
  where
    go : ((u : Term) → Reaches P (plug f u) k h → Split P f u k h) → (o : Option Term) → next P t ≡ o → through f t o ≡ Some r.0 → Split P f t (suc k) h
    go again None e w = split_now P f t r.0 k h w r.2
    go again (Some u) e w = split_more P f t u k h e (again u (subst (λ x. Reaches P x k h) (sym (some_is w)) r.2))

pub join : (P : Program) (f : Frame) (i k : ℕ) (t g u h : Term) → Reaches P t i g → fire f g ≡ Some u → Reaches P u k h → Reaches P (plug f t) (suc (i + k)) h
unfolding through
join P f zero k t g u h r e q =
    let n : suc (zero + k) ≡ suc k = omega arith in
    let w : next P (plug f t) ≡ Some u = next-plug P f t ∙ ap (through f t) (next-head P t r.1) ∙ ap (fire f) r.0 ∙ e in
    subst (λ m. Reaches P (plug f t) m h) (sym n) (u, w, q)
join P f (suc i) k t g u h r e q =
    let n : suc (suc i + k) ≡ suc (suc (i + k)) = omega arith in
    let w : next P (plug f t) ≡ Some (plug f r.0) = next-plug P f t ∙ ap (through f t) r.1 in
    subst (λ m. Reaches P (plug f t) m h) (sym n) (plug f r.0, w, join P f i k r.0 g u h r.2 e q)

pub reaches_sorted : (P : Program) → SortedProgram P → (k : ℕ) (t h : Term) → IsSorted [] t → Reaches P t k h → IsSorted [] h
reaches_sorted P s zero t h w r = subst (IsSorted []) r.0 w
reaches_sorted P s (suc k) t h w r = reaches_sorted P s k r.0 h (next_sorted P s t r.0 w r.1) r.2
