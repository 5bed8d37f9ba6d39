-- What a case finds among alternatives whose bodies are changed, each by its head.
use Rattle.std.proofs.Common.{◌≡◌, List, refl, sym, subst}
use Rattle.fc_model.specs.Stepping.{Key, Found, Missing, found, choose}
use Rattle.fc_model.specs.Terms.{Head, Term, Alts, NoAlt, Alt}
use Rattle.fc_counted.specs.Places.{heads_of}
use Rattle.fc_counted.proofs.ChosenAlike.{AltsFor, choose_for}

-- alternatives are changed in their bodies alone, and what is found among them is changed alike
pub record ChangesBodies (change : Alts → Alts) (turn : Found → Found) : Type 0 where
  pub body : Head → Term → Term
  pub none : change NoAlt ≡ NoAlt
  pub more : (h : Head) (b : Term) (alts : Alts) → change (Alt h b alts) ≡ Alt h (body h b) (change alts)
  pub missing : turn Missing ≡ Missing
  pub finds : (h : Head) (b : Term) → found h (body h b) ≡ turn (found h b)

module _ (change : Alts → Alts) (turn : Found → Found) (w : ChangesBodies change turn) where
  -- what is found on the right is what is found on the left, changed
  Turned : Found → Found → Type 0
  Turned x y = y ≡ turn x

  alternatives_changed : (k : Key) (hs : List Head) (alts : Alts) → AltsFor Turned k hs alts (change alts)
  unfolding Turned
  alternatives_changed k hs NoAlt = subst (AltsFor Turned k hs NoAlt) (sym w.none) tt
  alternatives_changed k hs (Alt h b alts) = subst (AltsFor Turned k hs (Alt h b alts)) (sym (w.more h b alts)) (refl, λ taken. w.finds h b, alternatives_changed k hs alts)

  -- the alternative that is taken is the changed one
  pub choose_changed : (k : Key) (alts : Alts) → choose k (change alts) ≡ turn (choose k alts)
  unfolding Turned
  choose_changed k alts = choose_for Turned (sym w.missing) k alts (change alts) (alternatives_changed k (heads_of alts) alts)
