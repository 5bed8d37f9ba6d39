-- Closed terms of one program that come to the same heads, in whatever number of steps.
use Rattle.std.proofs.Common.{◌≡◌, ℕ, zero, suc, ◌+◌, Some, None, sym, ◌∙◌, subst}
use Rattle.fc_model.specs.Stepping.{Program, Frame, plug, fire, next, IsHead, Reaches}
use Rattle.fc_model.specs.Terms.{Term}
use Rattle.fc_meaning.proofs.Determined.{next-head, one_next}
use Rattle.fc_meaning.proofs.Optional.{none_some}
use Rattle.fc_counted.specs.CountedRelation.{Under}
use Rattle.fc_counted.proofs.Counting
use Rattle.fc_counted.proofs.Runs.{split, join}
use Rattle.fc_term_rows.specs.Heads.{Follows, SameHeads}

-- the right side of the counted relation may be what comes to the same heads
pub under_follows : (P Q : Program) (i : ℕ) (x t u : Term) → Follows Q t u → Under P Q i x t → Under P Q i x u
under_follows P Q i x t u f w = Counting.under_in P Q i x u (λ j lt h r.
    let a = Counting.under_out P Q i x t w j lt h r in
    let b = f a.0 a.1 a.2 in
    (b.0, a.1, b.1, a.3))

module _ (P : Program) where
  pub same_refl : (t : Term) → SameHeads P t t
  same_refl t = (λ k h r. (k, r), λ k h r. (k, r))

  pub same_is : (t u : Term) → t ≡ u → SameHeads P t u
  same_is t u e = subst (SameHeads P t) e (same_refl t)

  pub same_sym : (t u : Term) → SameHeads P t u → SameHeads P u t
  same_sym t u w = (w.1, w.0)

  pub follows_trans : (t u v : Term) → Follows P t u → Follows P u v → Follows P t v
  follows_trans t u v f g k h r = let a = f k h r in g a.0 h a.1

  pub same_trans : (t u v : Term) → SameHeads P t u → SameHeads P u v → SameHeads P t v
  same_trans t u v w x = (follows_trans t u v w.0 x.0, follows_trans v u t x.1 w.1)

  follows_step : (t u : Term) → next P t ≡ Some u → Follows P t u
  follows_step t u e zero h r = absurd (none_some (sym (next-head P t r.1) ∙ e))
  follows_step t u e (suc k) h r = (k, subst (λ x. Reaches P x k h) (one_next P t r.0 u r.1 e) r.2)

  pub same_next : (t u : Term) → next P t ≡ Some u → SameHeads P t u
  same_next t u e = (follows_step t u e, λ k h r. (suc k, (u, e, r)))

  -- two terms that step to the same
  pub same_after : (t u v w : Term) → next P t ≡ Some v → next P u ≡ Some w → v ≡ w → SameHeads P t u
  same_after t u v w d e q = same_trans t v u (same_next t v d) (same_sym u v (subst (SameHeads P u) (sym q) (same_next u w e)))

  follows_frame : (f : Frame) (t u : Term) → Follows P t u → Follows P (plug f t) (plug f u)
  follows_frame f t u w k h r =
      let d = split P f k t h r in
      let a = w d.inner d.head d.inside in
      (suc (a.0 + d.rest), join P f a.0 d.rest u d.head d.after h a.1 d.fires d.goes)

  pub same_frame : (f : Frame) (t u : Term) → SameHeads P t u → SameHeads P (plug f t) (plug f u)
  same_frame f t u w = (follows_frame f t u w.0, follows_frame f u t w.1)

  -- two frames around one term, if they do alike at each head that it comes to
  abbrev pub FiresFollow : Frame → Frame → Term → Type 0
  FiresFollow f g t = (k : ℕ) (h x : Term) → Reaches P t k h → fire f h ≡ Some x → (l : ℕ) (v : Term) → Reaches P x l v → (y : Term) × (fire g h ≡ Some y) × (m : ℕ) × Reaches P y m v

  pub follows_fires : (f g : Frame) (t : Term) → FiresFollow f g t → Follows P (plug f t) (plug g t)
  follows_fires f g t w k h r =
      let d = split P f k t h r in
      let a = w d.inner d.head d.after d.inside d.fires d.rest h d.goes in
      (suc (d.inner + a.2), join P g d.inner a.2 t d.head a.0 h d.inside a.1 a.3)

  -- two frames that do the same at each of those heads
  pub follows_same_fires : (f g : Frame) (t : Term) → ((k : ℕ) (h : Term) → Reaches P t k h → fire f h ≡ fire g h) → Follows P (plug f t) (plug g t)
  follows_same_fires f g t w = follows_fires f g t (λ k h x r e l v q. (x, sym (w k h r) ∙ e, l, q))

  -- what comes to no head
  abbrev pub IsStuck : Term → Type 0
  IsStuck t = (k : ℕ) (h : Term) → Reaches P t k h → ⊥

  pub stuck_next : (t : Term) → next P t ≡ None → (IsHead t → ⊥) → IsStuck t
  stuck_next t e w zero h r = w r.1
  stuck_next t e w (suc k) h r = none_some (sym e ∙ r.1)

  pub same_stuck : (t u : Term) → IsStuck t → IsStuck u → SameHeads P t u
  same_stuck t u w x = (λ k h r. absurd (w k h r), λ k h r. absurd (x k h r))

  pub stuck_frame : (f : Frame) (t : Term) → IsStuck t → IsStuck (plug f t)
  stuck_frame f t w k h r = let d = split P f k t h r in w d.inner d.head d.inside
