-- Which words binders bind.
use Rattle.std.proofs.Common.{◌≡◌, refl, sym, ap, ◌∙◌, Bool, true, false, if◌then◌else◌, List, [], ◌∷◌, Option, Some, None}
use Rattle.std.specs.Str.{bytes_eq}
use Rattle.fc_syntax.specs.Tree.{Word, Binder, BValue, BType, BCo}
use Rattle.fc_model.specs.Resolution.{WordSet, no_word, plus, plus_all}
use Rattle.fc_free.specs.Free.{is_bound_by, of_one, of_words, value_words}

-- a word is one of some and a set where it is in the set or one of them
one_more : (a b c : Bool) → (if (if a then true else b) then true else c) ≡ (if b then true else (if (if a then true else false) then true else c))
one_more true true c = refl
one_more true false c = refl
one_more false true c = refl
one_more false false c = refl

all_more : (ws : List Word) (s : WordSet) (w : Word) → plus_all ws s w ≡ (if s w then true else plus_all ws no_word w)
all_more [] s w = last (s w)
  where
    last : (b : Bool) → b ≡ (if b then true else false)
    last true = refl
    last false = refl
all_more (v ∷ ws) s w =
    all_more ws (plus v s) w ∙ one_more (bytes_eq v w) (s w) (plus_all ws no_word w)
    ∙ ap (λ b. if s w then true else b) (sym (all_more ws (plus v no_word) w))

-- no word binds a name
pub bound_none : (m : Option Word) (w : Word) → is_bound_by no_word m w ≡ false
bound_none None w = refl
bound_none (Some m) w = refl

-- the first of several words
pub first_of : (v : Word) (ws : List Word) (w : Word) → of_words (v ∷ ws) w ≡ (if of_one v w then true else of_words ws w)
first_of v ws w = all_more ws (of_one v) w

-- and the first of binders
pub binders_first : (b : Binder) (bs : List Binder) (w : Word) → of_words (value_words (b ∷ bs)) w ≡ (if of_words (value_words (b ∷ [])) w then true else of_words (value_words bs) w)
binders_first (BValue x t) bs w = first_of x (value_words bs) w
binders_first (BType a k) bs w = refl
binders_first (BCo c r t u) bs w = refl
