-- Words by their distances, among binders that stand together or around them.
use Rattle.std.proofs.Common.{◌≡◌, ◌-◌, ℕ, zero, suc, List, [], ◌∷◌, ◌++◌, length, map, Some, None, refl, ap, ◌∙◌, arith}
use Rattle.std.specs.List.{slice_get}
use Rattle.fc_syntax.specs.Tree.{Word}
use Rattle.fc_model.specs.Resolution.{TermWord, Value, Join}
use Rattle.fc_scope.specs.WordsAt.{value_word, join_word}

-- one binder further out
pub word_past : (v : Word) (ws : List Word) (i : ℕ) → ¬ (i ≡ 0) → slice_get (v ∷ ws) i ≡ slice_get ws (i - 1)
word_past v ws zero h = absurd (h refl)
word_past v ws (suc i) h = ap (slice_get ws) (omega arith)

pub value_past : (v : Word) (xs : List TermWord) (i : ℕ) → ¬ (i ≡ 0) → value_word (Value v ∷ xs) i ≡ value_word xs (i - 1)
value_past v xs zero h = absurd (h refl)
value_past v xs (suc i) h = ap (value_word xs) (omega arith)

pub word_here : (v : Word) (ws : List Word) (i : ℕ) → i ≡ 0 → slice_get (v ∷ ws) i ≡ Some v
word_here v ws i h = ap (slice_get (v ∷ ws)) h

pub value_here : (v : Word) (xs : List TermWord) (i : ℕ) → i ≡ 0 → value_word (Value v ∷ xs) i ≡ Some v
value_here v xs i h = ap (value_word (Value v ∷ xs)) h

less : (i n : ℕ) → i - n ≡ suc i - suc n
less i n = omega arith

pub word_near : (vs ws : List Word) (i : ℕ) (w : Word) → slice_get vs i ≡ Some w → slice_get (vs ++ ws) i ≡ Some w
word_near [] ws i w h = absurd cc
word_near (v ∷ vs) ws zero w h = h
word_near (v ∷ vs) ws (suc i) w h = word_near vs ws i w h

pub word_far : (vs ws : List Word) (i : ℕ) → slice_get vs i ≡ None → slice_get (vs ++ ws) i ≡ slice_get ws (i - length vs)
word_far [] ws i h = ap (slice_get ws) (omega arith)
word_far (v ∷ vs) ws zero h = absurd cc
word_far (v ∷ vs) ws (suc i) h = word_far vs ws i h ∙ ap (slice_get ws) (less i (length vs))

pub value_near : (vs : List Word) (xs : List TermWord) (i : ℕ) (w : Word) → slice_get vs i ≡ Some w → value_word (map Value vs ++ xs) i ≡ Some w
value_near [] xs i w h = absurd cc
value_near (v ∷ vs) xs zero w h = h
value_near (v ∷ vs) xs (suc i) w h = value_near vs xs i w h

pub value_far : (vs : List Word) (xs : List TermWord) (i : ℕ) → slice_get vs i ≡ None → value_word (map Value vs ++ xs) i ≡ value_word xs (i - length vs)
value_far [] xs i h = ap (value_word xs) (omega arith)
value_far (v ∷ vs) xs zero h = absurd cc
value_far (v ∷ vs) xs (suc i) h = value_far vs xs i h ∙ ap (value_word xs) (less i (length vs))

pub join_near : (vs : List Word) (xs : List TermWord) (i : ℕ) (w : Word) → slice_get vs i ≡ Some w → join_word (map Join vs ++ xs) i ≡ Some w
join_near [] xs i w h = absurd cc
join_near (v ∷ vs) xs zero w h = h
join_near (v ∷ vs) xs (suc i) w h = join_near vs xs i w h

pub join_far : (vs : List Word) (xs : List TermWord) (i : ℕ) → slice_get vs i ≡ None → join_word (map Join vs ++ xs) i ≡ join_word xs (i - length vs)
join_far [] xs i h = ap (join_word xs) (omega arith)
join_far (v ∷ vs) xs zero h = absurd cc
join_far (v ∷ vs) xs (suc i) h = join_far vs xs i h ∙ ap (join_word xs) (less i (length vs))

-- binders of the other kind
pub value_past_joins : (vs : List Word) (xs : List TermWord) (i : ℕ) → value_word (map Join vs ++ xs) i ≡ value_word xs i
value_past_joins [] xs i = refl
value_past_joins (v ∷ vs) xs i = value_past_joins vs xs i

pub join_past_values : (vs : List Word) (xs : List TermWord) (i : ℕ) → join_word (map Value vs ++ xs) i ≡ join_word xs i
join_past_values [] xs i = refl
join_past_values (v ∷ vs) xs i = join_past_values vs xs i

pub ruleset distance_rules = (word_past, value_past, word_here, value_here, word_near, word_far, value_near, value_far, join_near, join_far, value_past_joins, join_past_values)
