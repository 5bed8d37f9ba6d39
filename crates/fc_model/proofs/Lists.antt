-- Lists that are gone through item by item.
use Rattle.std.proofs.Common.{◌≡◌, ◌∙◌, ◌+◌, ◌<◌, ℕ, Bool, true, false, ◌||◌, if◌then◌else◌, bytes_eq, ◌++◌, List, [], ◌∷◌, drop, get_or, length, refl, sym, ap}
use Rattle.std.proofs.lemmas.List.{drop_more}
use Rattle.fc_syntax.specs.Tree.{Word}
use Rattle.fc_model.specs.Planning.{is_among}
use Rattle.fc_model.specs.Resolution.{WordSet, no_word, plus, plus_all}

-- what is left of a list begins with the item that is reached
pub drop_item : {X : Type 0} (xs : List X) (k : ℕ) (x : X) → k < length xs → x ≡ get_or xs k x → drop k xs ≡ x ∷ drop (k + 1) xs
drop_item xs k x low is = drop_more xs k x low ∙ ap (λ y. y ∷ drop (k + 1) xs) (sym is)

-- words of two lists, put into a set one after the other
pub plus_both : (vs ws : List Word) (s : WordSet) → plus_all (vs ++ ws) s ≡ plus_all ws (plus_all vs s)
plus_both [] ws s = refl
plus_both (v ∷ vs) ws s = plus_both vs ws (plus v s)

one_more : (b c d : Bool) → (c || (if b then true else d)) ≡ ((b || c) || d)
one_more true true d = refl
one_more true false d = refl
one_more false c d = refl

-- a set with words put in has them, and what it had
pub words_put_in : (ws : List Word) (s : WordSet) (w : Word) → plus_all ws s w ≡ (is_among ws w || s w)
words_put_in [] s w = refl
words_put_in (v ∷ vs) s w = words_put_in vs (plus v s) w ∙ one_more (bytes_eq v w) (is_among vs w) (s w)

without_none : (b : Bool) → (b || false) ≡ b
without_none true = refl
without_none false = refl

-- the words of a list alone
pub words_alone : (ws : List Word) (w : Word) → plus_all ws no_word w ≡ is_among ws w
words_alone ws w = words_put_in ws no_word w ∙ without_none (is_among ws w)
