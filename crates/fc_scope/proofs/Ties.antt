-- The table of a group's words, with one word more, and what it says.
use Rattle.std.proofs.Common.{◌≡◌, ℕ, ◌+◌, ◌-◌, ◌<◌, ◌≤◌, List, [], ◌∷◌, ◌++◌, length, reverse, Bool, true, false, cond, bytes_eq, if◌then◌else◌, Option, Some, None, is_some, option_map, refl, sym, ap, ◌∙◌, subst, arith, length-append}
use Rattle.std.proofs.lemmas.List.{reverse-append}
use Rattle.fc_syntax.specs.Tree.{Word}
use Rattle.fc_model.specs.Resolution.{index_of}
use Rattle.fc_scope.specs.Among.{among}
use Rattle.fc_scope.specs.Tied.{AreOfOnePlace, IsTied}

pub tied_none : (last : Word → Option ℕ) → ((w : Word) → last w ≡ None) → IsTied [] 0 last
tied_none last h = record { count_is = refl; last_is = λ w. subst (AreOfOnePlace 0 None) (sym (h w)) tt }

one_place_more : (b : Bool) (count : ℕ) (distance last : Option ℕ) → AreOfOnePlace count distance last
    → AreOfOnePlace (count + 1) (if b then Some 0 else option_map (λ i. i + 1) distance) (cond b (Some (count + 1)) last)
one_place_more true count distance last h = omega arith
one_place_more false count (Some d) (Some l) h = omega arith
one_place_more false count (Some d) None h = h
one_place_more false count None (Some l) h = h
one_place_more false count None None h = tt

tied_word : (ws : List Word) (count : ℕ) (last last' : Word → Option ℕ) (v : Word) → IsTied ws count last
    → ((w : Word) → last' w ≡ cond (bytes_eq v w) (Some (count + 1)) (last w)) → IsTied (ws ++ v ∷ []) (count + 1) last'
tied_word ws count last last' v h more = record {
  count_is = omega (arith, h.count_is, length-append ws (v ∷ []));
  last_is = λ w.
      subst (λ o. AreOfOnePlace (count + 1) (index_of (reverse (ws ++ v ∷ [])) w) o) (sym (more w))
      (subst (λ vs. AreOfOnePlace (count + 1) (index_of vs w) (cond (bytes_eq v w) (Some (count + 1)) (last w))) (sym (reverse-append ws (v ∷ [])))
      (one_place_more (bytes_eq v w) count (index_of (reverse ws) w) (last w) (h.last_is w)));
}

pub tied_more : (ws ws' : List Word) (count count' : ℕ) (last last' : Word → Option ℕ) (v : Word) → IsTied ws count last → ws' ≡ ws ++ v ∷ [] → count' ≡ count + 1
    → ((w : Word) → last' w ≡ cond (bytes_eq v w) (Some count') (last w)) → IsTied ws' count' last'
tied_more ws ws' count count' last last' v h words more each =
    subst (λ k. IsTied ws' k last') (sym more) (subst (λ us. IsTied us (count + 1) last') (sym words)
    (tied_word ws count last last' v h (λ w. each w ∙ ap (λ k. cond (bytes_eq v w) (Some k) (last w)) more)))

-- the word is there
there : (count l : ℕ) (distance : Option ℕ) → AreOfOnePlace count distance (Some l) → (l ≤ count) × (distance ≡ Some (count - l))
there count l (Some d) h = (omega arith, ap Some (omega arith))
there count l None h = absurd h

pub last_there : (ws : List Word) (count l : ℕ) (last : Word → Option ℕ) (w : Word) → IsTied ws count last → last w ≡ Some l
    → (l ≤ count) × (index_of (reverse ws) w ≡ Some (count - l))
last_there ws count l last w h is = there count l (index_of (reverse ws) w) (subst (AreOfOnePlace count (index_of (reverse ws) w)) is (h.last_is w))

nowhere : (count : ℕ) (distance : Option ℕ) → AreOfOnePlace count distance None → distance ≡ None
nowhere count (Some d) h = absurd h
nowhere count None h = refl

pub last_nowhere : (ws : List Word) (count : ℕ) (last : Word → Option ℕ) (w : Word) → IsTied ws count last → last w ≡ None → index_of (reverse ws) w ≡ None
last_nowhere ws count last w h is = nowhere count (index_of (reverse ws) w) (subst (AreOfOnePlace count (index_of (reverse ws) w)) is (h.last_is w))

-- a distance is below the number of the words
below_step : (b : Bool) (o : Option ℕ) (d n : ℕ) → ((e : ℕ) → o ≡ Some e → e < n) → (if b then Some 0 else option_map (λ i. i + 1) o) ≡ Some d → d < n + 1
below_step true o d n h is = let at : 0 ≡ d = cc in omega (arith, at)
below_step false (Some e) d n h is = let at : e + 1 ≡ d = cc in omega (arith, at, h e refl)
below_step false None d n h is = absurd cc

pub index_below : (ws : List Word) (w : Word) (d : ℕ) → index_of ws w ≡ Some d → d < length ws
index_below [] w d is = absurd cc
index_below (v ∷ ws) w d is = subst (λ n. d < n) (omega arith) (below_step (bytes_eq v w) (index_of ws w) d (length ws) (index_below ws w) is)

-- a word with a distance is among the words
among_step : (b : Bool) (o : Option ℕ) (a : Bool) → is_some o ≡ a → is_some (if b then Some 0 else option_map (λ i. i + 1) o) ≡ (if b then true else a)
among_step true o a h = refl
among_step false (Some i) a h = h
among_step false None a h = h

pub found_among : (ws : List Word) (w : Word) → is_some (index_of ws w) ≡ among ws w
found_among [] w = refl
found_among (v ∷ ws) w = among_step (bytes_eq v w) (index_of ws w) (among ws w) (found_among ws w)
