-- Words that are found among the innermost binders, or outside of them.
use Rattle.std.proofs.Common.{◌≡◌, ℕ, ◌+◌, List, [], ◌∷◌, ◌++◌, length, map, Bool, true, false, bytes_eq, if◌then◌else◌, Option, Some, None, option_map, refl, ap, ◌∙◌, arith}
use Rattle.fc_syntax.specs.Tree.{Word}
use Rattle.fc_model.specs.Resolution.{index_of, TermWord, Value, Join, Found, IsValue, IsJoin, Nowhere, past_value, past_join, found_term}
use Rattle.fc_scope.specs.ScopeWords.{past_values, past_joins}

-- TYPES AND COERCIONS

-- a distance among the innermost n binders, or else one outside of them
abbrev inside : Option ℕ → ℕ → Option ℕ → Option ℕ
inside (Some d) n x = Some d
inside None n x = option_map (λ i. i + n) x

inside_none : (x : Option ℕ) → x ≡ inside None 0 x
inside_none (Some i) = ap Some (omega arith)
inside_none None = refl

inside_more : (b : Bool) (o x : Option ℕ) (n m : ℕ) → m ≡ n + 1
    → (if b then Some 0 else option_map (λ i. i + 1) (inside o n x)) ≡ inside (if b then Some 0 else option_map (λ i. i + 1) o) m x
inside_more true o x n m h = refl
inside_more false (Some d) x n m h = refl
inside_more false None (Some i) n m h = ap Some (omega arith)
inside_more false None None n m h = refl

index_append : (ns xs : List Word) (w : Word) → index_of (ns ++ xs) w ≡ inside (index_of ns w) (length ns) (index_of xs w)
index_append [] xs w = inside_none (index_of xs w)
index_append (v ∷ ns) xs w =
    ap (λ o. if bytes_eq v w then Some 0 else option_map (λ i. i + 1) o) (index_append ns xs w)
    ∙ inside_more (bytes_eq v w) (index_of ns w) (index_of xs w) (length ns) (length (v ∷ ns)) (omega arith)

pub index_here : (ns xs : List Word) (w : Word) (d : ℕ) → index_of ns w ≡ Some d → index_of (ns ++ xs) w ≡ Some d
index_here ns xs w d h = index_append ns xs w ∙ ap (λ o. inside o (length ns) (index_of xs w)) h

pub index_past : (ns xs : List Word) (w : Word) → index_of ns w ≡ None → index_of (ns ++ xs) w ≡ option_map (λ i. i + length ns) (index_of xs w)
index_past ns xs w h = index_append ns xs w ∙ ap (λ o. inside o (length ns) (index_of xs w)) h

-- VALUES AND JOIN POINTS

abbrev value_inside : Option ℕ → ℕ → Found → Found
value_inside (Some d) n f = IsValue d
value_inside None n f = past_values n f

abbrev join_inside : Option ℕ → ℕ → Found → Found
join_inside (Some d) n f = IsJoin d
join_inside None n f = past_joins n f

value_inside_none : (f : Found) → f ≡ value_inside None 0 f
value_inside_none (IsValue i) = ap IsValue (omega arith)
value_inside_none (IsJoin i) = refl
value_inside_none Nowhere = refl

join_inside_none : (f : Found) → f ≡ join_inside None 0 f
join_inside_none (IsValue i) = refl
join_inside_none (IsJoin i) = ap IsJoin (omega arith)
join_inside_none Nowhere = refl

value_inside_more : (b : Bool) (o : Option ℕ) (f : Found) (n m : ℕ) → m ≡ n + 1
    → (if b then IsValue 0 else past_value (value_inside o n f)) ≡ value_inside (if b then Some 0 else option_map (λ i. i + 1) o) m f
value_inside_more true o f n m h = refl
value_inside_more false (Some d) f n m h = refl
value_inside_more false None (IsValue i) n m h = ap IsValue (omega arith)
value_inside_more false None (IsJoin i) n m h = refl
value_inside_more false None Nowhere n m h = refl

join_inside_more : (b : Bool) (o : Option ℕ) (f : Found) (n m : ℕ) → m ≡ n + 1
    → (if b then IsJoin 0 else past_join (join_inside o n f)) ≡ join_inside (if b then Some 0 else option_map (λ i. i + 1) o) m f
join_inside_more true o f n m h = refl
join_inside_more false (Some d) f n m h = refl
join_inside_more false None (IsValue i) n m h = refl
join_inside_more false None (IsJoin i) n m h = ap IsJoin (omega arith)
join_inside_more false None Nowhere n m h = refl

values_append : (ns : List Word) (xs : List TermWord) (w : Word) → found_term (map Value ns ++ xs) w ≡ value_inside (index_of ns w) (length ns) (found_term xs w)
values_append [] xs w = value_inside_none (found_term xs w)
values_append (v ∷ ns) xs w =
    ap (λ f. if bytes_eq v w then IsValue 0 else past_value f) (values_append ns xs w)
    ∙ value_inside_more (bytes_eq v w) (index_of ns w) (found_term xs w) (length ns) (length (v ∷ ns)) (omega arith)

joins_append : (ns : List Word) (xs : List TermWord) (w : Word) → found_term (map Join ns ++ xs) w ≡ join_inside (index_of ns w) (length ns) (found_term xs w)
joins_append [] xs w = join_inside_none (found_term xs w)
joins_append (v ∷ ns) xs w =
    ap (λ f. if bytes_eq v w then IsJoin 0 else past_join f) (joins_append ns xs w)
    ∙ join_inside_more (bytes_eq v w) (index_of ns w) (found_term xs w) (length ns) (length (v ∷ ns)) (omega arith)

pub value_here : (ns : List Word) (xs : List TermWord) (w : Word) (d : ℕ) → index_of ns w ≡ Some d → found_term (map Value ns ++ xs) w ≡ IsValue d
value_here ns xs w d h = values_append ns xs w ∙ ap (λ o. value_inside o (length ns) (found_term xs w)) h

pub values_past : (ns : List Word) (xs : List TermWord) (w : Word) → index_of ns w ≡ None → found_term (map Value ns ++ xs) w ≡ past_values (length ns) (found_term xs w)
values_past ns xs w h = values_append ns xs w ∙ ap (λ o. value_inside o (length ns) (found_term xs w)) h

pub join_here : (ns : List Word) (xs : List TermWord) (w : Word) (d : ℕ) → index_of ns w ≡ Some d → found_term (map Join ns ++ xs) w ≡ IsJoin d
join_here ns xs w d h = joins_append ns xs w ∙ ap (λ o. join_inside o (length ns) (found_term xs w)) h

pub joins_past : (ns : List Word) (xs : List TermWord) (w : Word) → index_of ns w ≡ None → found_term (map Join ns ++ xs) w ≡ past_joins (length ns) (found_term xs w)
joins_past ns xs w h = joins_append ns xs w ∙ ap (λ o. join_inside o (length ns) (found_term xs w)) h

-- inside of one value, the definition's step
pub past_one_value : (f : Found) → past_value f ≡ past_values 1 f
past_one_value (IsValue i) = refl
past_one_value (IsJoin i) = refl
past_one_value Nowhere = refl

pub ruleset lookup_rules = (index_here, index_past, value_here, values_past, join_here, joins_past, past_one_value)
