-- Places in terms: the binders above them, with what stands where each was bound.
use Rattle.std.specs.Prelude.{◌≡◌, false, List, [], ◌∷◌}
use Rattle.fc_model.specs.Stepping.{Key, matches}
use Rattle.fc_model.specs.Terms.{Sort, Head, Term, Terms, Alts, NoAlt, Alt, enters, head_sorts}

-- the binders above a place in one term
pub data Side : Type 0 where
  Nothing : Side
  BelowLambda : Sort → Side → Side
  BelowLet : Sort → Term → Side → Side
  BelowGroup : Terms → Side → Side
  -- the sort of the case's binder, the scrutinee, the heads of all alternatives, and the one that was taken
  InAlternative : Sort → Term → List Head → Head → Side → Side

-- the binders above a place in two terms of which one is changed into the other, with what stands on each side
pub data Place : Type 0 where
  Outside : Place
  InBody : Sort → Place → Place
  PastLet : Sort → Term → Term → Place → Place
  -- with the sorts of its binders
  PastGroup : List Sort → Terms → Terms → Place → Place
  InAlt : Sort → Term → Term → List Head → Head → Place → Place

abbrev pub side_on_left : Place → Side
side_on_left Outside = Nothing
side_on_left (InBody s c) = BelowLambda s (side_on_left c)
side_on_left (PastLet s a b c) = BelowLet s a (side_on_left c)
side_on_left (PastGroup ss ts us c) = BelowGroup ts (side_on_left c)
side_on_left (InAlt s t u hs h c) = InAlternative s t hs h (side_on_left c)

abbrev pub side_on_right : Place → Side
side_on_right Outside = Nothing
side_on_right (InBody s c) = BelowLambda s (side_on_right c)
side_on_right (PastLet s a b c) = BelowLet s b (side_on_right c)
side_on_right (PastGroup ss ts us c) = BelowGroup us (side_on_right c)
side_on_right (InAlt s t u hs h c) = InAlternative s u hs h (side_on_right c)

-- the sorts of the variables in scope, the innermost first
unfoldable pub sorts_in : Place → List Sort
unfolding enters head_sorts
sorts_in Outside = []
sorts_in (InBody s c) = s ∷ sorts_in c
sorts_in (PastLet s a b c) = s ∷ sorts_in c
sorts_in (PastGroup ss ts us c) = enters ss (sorts_in c)
sorts_in (InAlt s t u hs h c) = enters (head_sorts h) (s ∷ sorts_in c)

unfoldable pub heads_of : Alts → List Head
heads_of NoAlt = []
heads_of (Alt h b alts) = h ∷ heads_of alts

-- the two sides exchanged
unfoldable pub exchange : Place → Place
exchange Outside = Outside
exchange (InBody s c) = InBody s (exchange c)
exchange (PastLet s a b c) = PastLet s b a (exchange c)
exchange (PastGroup ss ts us c) = PastGroup ss us ts (exchange c)
exchange (InAlt s t u hs h c) = InAlt s u t hs h (exchange c)

-- no alternative of these heads is that of the key
abbrev pub AllMiss : Key → List Head → Type 0
AllMiss k [] = Unit {0}
AllMiss k (h ∷ hs) = (matches k h ≡ false) × AllMiss k hs
