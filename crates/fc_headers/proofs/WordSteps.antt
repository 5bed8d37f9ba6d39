-- Words that are put into a set in parts.
use Rattle.std.proofs.Common.{◌≡◌, ◌<◌, ◌+◌, ℕ, append_assoc, refl, sym, ap, ◌∙◌, drop, get_or, length, List, [], ◌∷◌, ◌++◌}
use Rattle.std.proofs.lemmas.List.{drop_more}
use Rattle.fc_syntax.specs.Tree.{Word}
use Rattle.fc_model.specs.Resolution.{WordSet, plus, plus_all}

pub all_of_parts : (vs ws : List Word) (s : WordSet) → plus_all (vs ++ ws) s ≡ plus_all ws (plus_all vs s)
all_of_parts [] ws s = refl
all_of_parts (v ∷ vs) ws s = all_of_parts vs ws (plus v s)

pub ruleset word_rules = (all_of_parts)

-- words are put in, and then others
pub both_added : (vs ws : List Word) (s t u : WordSet) → t ≡ plus_all vs s → u ≡ plus_all ws t → u ≡ plus_all (vs ++ ws) s
both_added vs ws s t u first second = second ∙ ap (plus_all ws) first ∙ sym (all_of_parts vs ws s)

-- the words of one item more of a list are put in
pub item_added : {X : Type 0} (f : List X → List Word) (g : X → List Word) → ((x : X) (xs : List X) → f (x ∷ xs) ≡ g x ++ f xs)
    → (items : List X) (i : ℕ) (x : X) (all s t : WordSet) → plus_all (f (drop i items)) s ≡ all → i < length items → x ≡ get_or items i x
    → t ≡ plus_all (g x) s → plus_all (f (drop (i + 1) items)) t ≡ all
item_added f g law items i x all s t so_far within is added =
    let rest = f (drop (i + 1) items) in
    ap (plus_all rest) added ∙ sym (all_of_parts (g x) rest s) ∙ ap (λ ws. plus_all ws s) (sym (law x (drop (i + 1) items)))
    ∙ ap (λ xs. plus_all (f xs) s) (ap (λ y. y ∷ drop (i + 1) items) is ∙ sym (drop_more items i x within)) ∙ so_far

-- the words of one item more, which has two parts
pub parts_added : {X : Type 0} (f : List X → List Word) (g h : X → List Word) → ((x : X) (xs : List X) → f (x ∷ xs) ≡ g x ++ (h x ++ f xs))
    → (items : List X) (i : ℕ) (x : X) (all s t u : WordSet) → plus_all (f (drop i items)) s ≡ all → i < length items → x ≡ get_or items i x
    → t ≡ plus_all (g x) s → u ≡ plus_all (h x) t → plus_all (f (drop (i + 1) items)) u ≡ all
parts_added f g h law items i x all s t u so_far within is first second =
    item_added f (λ y. g y ++ h y) (λ y ys. law y ys ∙ sym (append_assoc (g y) (h y) (f ys))) items i x all s u so_far within is
    (both_added (g x) (h x) s t u first second)
