-- What two cases find among alternatives with the same heads.
use Rattle.std.proofs.Common.{◌≡◌, List, Bool, true, false, cond, refl, subst}
use Rattle.fc_model.specs.Stepping.{Key, LitKey, ConKey, LamKey, Found, Missing, Bare, matches, found, default_of, own, choose}
use Rattle.fc_model.specs.Terms.{Head, Default, OfLit, OfCon, Alts, NoAlt, Alt}
use Rattle.fc_meaning.proofs.Optional.{false_true}
use Rattle.fc_counted.specs.Closings.{TakesHead}
use Rattle.fc_counted.specs.Places.{AllMiss, heads_of}

cond_two : {A : Type 0} (F : A → A → Type 0) (b : Bool) (x y x' y' : A) → (b ≡ true → F x x') → (b ≡ false → F y y') → F (cond b x y) (cond b x' y')
cond_two F true x y x' y' p q = p refl
cond_two F false x y x' y' p q = q refl

-- alternatives with the same heads, whose bodies are related in case that they are taken
abbrev pub AltsFor : (Found → Found → Type 0) → Key → List Head → Alts → Alts → Type 0
AltsFor F k hs NoAlt NoAlt = Unit {0}
AltsFor F k hs (Alt h b alts) (Alt l d blts) = (h ≡ l) × (TakesHead k hs h → F (found h b) (found h d)) × AltsFor F k hs alts blts
AltsFor F k hs _ _ = ⊥

takes_match : (k : Key) (hs : List Head) (h : Head) → matches k h ≡ true → TakesHead k hs h
unfolding matches
takes_match (LitKey z) hs Default e = absurd (false_true e)
takes_match (ConKey c) hs Default e = absurd (false_true e)
takes_match LamKey hs Default e = absurd (false_true e)
takes_match k hs (OfLit z) e = e
takes_match k hs (OfCon c ss) e = e

default_for : (F : Found → Found → Type 0) → F Missing Missing → (k : Key) (hs : List Head) → AllMiss k hs → (alts blts : Alts) → AltsFor F k hs alts blts → F (default_of alts) (default_of blts)
unfolding default_of found
default_for F n k hs a NoAlt NoAlt w = n
default_for F n k hs a (Alt Default b alts) (Alt l d blts) w = subst (λ x. F (Bare b) (default_of (Alt x d blts))) w.0 (w.1 a)
default_for F n k hs a (Alt (OfLit z) b alts) (Alt l d blts) w = subst (λ x. F (default_of alts) (default_of (Alt x d blts))) w.0 (default_for F n k hs a alts blts w.2)
default_for F n k hs a (Alt (OfCon c ss) b alts) (Alt l d blts) w = subst (λ x. F (default_of alts) (default_of (Alt x d blts))) w.0 (default_for F n k hs a alts blts w.2)
default_for F n k hs a _ _ w = absurd w

own_for : (F : Found → Found → Type 0) (k : Key) (hs : List Head) (d e : Found) (alts blts : Alts) → (AllMiss k (heads_of alts) → F d e) → AltsFor F k hs alts blts → F (own k alts d) (own k blts e)
unfolding own heads_of
own_for F k hs d e NoAlt NoAlt f w = f tt
own_for F k hs d e (Alt h b alts) (Alt l c blts) f w =
    subst (λ x. F (own k (Alt h b alts) d) (own k (Alt x c blts) e)) w.0
    (cond_two F (matches k h) (found h b) (own k alts d) (found h c) (own k blts e) (λ y. w.1 (takes_match k hs h y)) (λ y. own_for F k hs d e alts blts (λ a. f (y, a)) w.2))
own_for F k hs d e _ _ f w = absurd w

-- so what two cases find is related, where the bodies of the alternatives that they take are
pub choose_for : (F : Found → Found → Type 0) → F Missing Missing → (k : Key) (alts blts : Alts) → AltsFor F k (heads_of alts) alts blts → F (choose k alts) (choose k blts)
unfolding choose
choose_for F n k alts blts w = own_for F k (heads_of alts) (default_of alts) (default_of blts) alts blts (λ a. default_for F n k (heads_of alts) a alts blts w) w
