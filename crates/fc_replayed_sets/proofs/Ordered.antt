-- Modules in the order in which they are built.
use Rattle.std.proofs.Common.{◌≡◌, ℕ, zero, suc, Bool, true, false, not, ◌||◌, bytes_eq, if◌then◌else◌, All, List, [], ◌∷◌, map, length, slice_get, Option, Some, None, Result, Ok, Err, IfOk, option_map, refl, sym, ap, ◌∙◌, subst}
use Rattle.std.specs.List.{cons_option, filter_map, list_all}
use Rattle.std.proofs.lemmas.Bool.{and_parts}
use Rattle.std.proofs.lemmas.List.Elements.{All-nil, All-cons, All-head, All-tail, All-weaker}
use Rattle.std.proofs.lemmas.Option.{slice_get-map}
use Rattle.fc_syntax.specs.Tree.{Word, Module}
use Rattle.fc_model.specs.Headers.{imports_of, name_of}
use Rattle.fc_model.proofs.Sameness.{bytes_eq_eq}
use Rattle.fc_model.specs.Planning.{build_order, built_behind, first_ready, is_among, is_ready}

-- what follows of an answer, where there is one
pub if_ok_more : {X E : Type 0} (r : Result X E) (P Q : X → Type 0) → ((x : X) → P x → Q x) → IfOk r P → IfOk r Q
if_ok_more (Ok x) P Q more h = more x h
if_ok_more (Err e) P Q more h = tt

-- NUMBERS

some_is : {X : Type 0} {x y : X} → Some x ≡ Some y → x ≡ y
some_is e = cc

-- numbers at which these stand pick them
pub picked : {X : Type 0} (xs : List X) (numbers : List ℕ) (ys : List X) → map (slice_get xs) numbers ≡ map Some ys → filter_map (slice_get xs) numbers ≡ ys
picked xs [] [] e = refl
picked xs [] (y ∷ ys) e = absurd cc
picked xs (n ∷ ns) [] e = absurd cc
picked xs (n ∷ ns) (y ∷ ys) e =
    let here : slice_get xs n ≡ Some y = cc in
    let rest : map (slice_get xs) ns ≡ map Some ys = cc in
    ap (λ o. cons_option o (filter_map (slice_get xs) ns)) here ∙ ap (λ zs. y ∷ zs) (picked xs ns ys rest)

cons_map : {X Y : Type 0} (f : X → Y) (o : Option X) (xs : List X) → cons_option (option_map f o) (map f xs) ≡ map f (cons_option o xs)
cons_map f None xs = refl
cons_map f (Some x) xs = refl

-- what is picked of a list under a function is what is picked, under it
pub picked_map : {X Y : Type 0} (f : X → Y) (xs : List X) (numbers : List ℕ) → filter_map (slice_get (map f xs)) numbers ≡ map f (filter_map (slice_get xs) numbers)
picked_map f xs [] = refl
picked_map f xs (n ∷ ns) =
    ap (λ o. cons_option o (filter_map (slice_get (map f xs)) ns)) (slice_get-map f xs n) ∙ ap (λ zs. cons_option (option_map f (slice_get xs n)) zs) (picked_map f xs ns)
    ∙ cons_map f (slice_get xs n) (filter_map (slice_get xs) ns)

-- where two lists are the same under a function, so is what is picked of them
pub picked_same : {X Y : Type 0} (f : X → Y) (xs ys : List X) (numbers : List ℕ) → map f xs ≡ map f ys
    → map f (filter_map (slice_get xs) numbers) ≡ map f (filter_map (slice_get ys) numbers)
picked_same f xs ys numbers e = sym (picked_map f xs numbers) ∙ ap (λ zs. filter_map (slice_get zs) numbers) e ∙ picked_map f ys numbers

-- THE BUILD ORDER

module _ (P : Module → Type 0) where
  ready_is : (built : List Word) (x : Module) (xs : List Module) (b : Bool) (m : Module) → P x → ((m : Module) → first_ready built xs ≡ Some m → P m)
      → (if b then Some x else first_ready built xs) ≡ Some m → P m
  ready_is built x xs true m here there e = subst P (some_is e) here
  ready_is built x xs false m here there e = there m e

  first_is : (built : List Word) (ms : List Module) (m : Module) → All P ms → first_ready built ms ≡ Some m → P m
  first_is built [] m all e = absurd cc
  first_is built (x ∷ xs) m all e = ready_is built x xs (is_ready built x) m (All-head P x xs all) (λ n g. first_is built xs n (All-tail P x xs all) g) e

  next_are : (most : ℕ) (built : List Word) (ms : List Module) (o : Option Module) → ((m : Module) → o ≡ Some m → P m)
      → ((m : Module) → All P (built_behind most (name_of m ∷ built) ms)) → All P (elim o [ Some m ↦ m ∷ built_behind most (name_of m ∷ built) ms | None ↦ [] ])
  next_are most built ms None at rest = All-nil P
  next_are most built ms (Some m) at rest = All-cons P m (built_behind most (name_of m ∷ built) ms) (at m refl) (rest m)

  -- what holds of all modules of a set holds of those that are built
  pub built_are : (most : ℕ) (built : List Word) (ms : List Module) → All P ms → All P (built_behind most built ms)
  built_are zero built ms all = All-nil P
  built_are (suc most) built ms all = next_are most built ms (first_ready built ms) (λ m e. first_is built ms m all e) (λ m. built_are most (name_of m ∷ built) ms all)

pub order_keeps : (P : Module → Type 0) (ms : List Module) → All P ms → All P (build_order ms)
order_keeps P ms all = built_are P (length ms) [] ms all

-- NAMES

-- no two of these words are the same
abbrev pub AreDistinctWords : List Word → Type 0
AreDistinctWords [] = Unit {0}
AreDistinctWords (w ∷ ws) = All (λ v. bytes_eq w v ≡ false) ws × AreDistinctWords ws

not_true : (b : Bool) → not b ≡ true → b ≡ false
not_true true e = absurd cc
not_true false e = refl

either_false : (a b : Bool) → (a || b) ≡ false → (a ≡ false) × (b ≡ false)
either_false false b e = (refl, e)
either_false true b e = absurd cc

ready_is_new : (built : List Word) (m : Module) → is_ready built m ≡ true → is_among built (name_of m) ≡ false
ready_is_new built m e = not_true (is_among built (name_of m)) (and_parts (not (is_among built (name_of m))) (list_all (is_among built) (imports_of m)) e).0

if_ready : (built : List Word) (x : Module) (xs : List Module) (b : Bool) (m : Module) → is_ready built x ≡ b → ((m : Module) → first_ready built xs ≡ Some m → is_ready built m ≡ true)
    → (if b then Some x else first_ready built xs) ≡ Some m → is_ready built m ≡ true
if_ready built x xs true m is there e = subst (λ k. is_ready built k ≡ true) (some_is e) is
if_ready built x xs false m is there e = there m e

first_is_ready : (built : List Word) (ms : List Module) (m : Module) → first_ready built ms ≡ Some m → is_ready built m ≡ true
first_is_ready built [] m e = absurd cc
first_is_ready built (x ∷ xs) m e = if_ready built x xs (is_ready built x) m refl (λ n g. first_is_ready built xs n g) e

-- a module that is built behind others imports none but them, and is none of them
abbrev pub NamesOthers : Module → Type 0
NamesOthers m = All (λ w. bytes_eq w (name_of m) ≡ false) (imports_of m)

other : (built : List Word) (w n : Word) (b : Bool) → is_among built n ≡ false → is_among built w ≡ true → bytes_eq w n ≡ b → b ≡ false
other built w n true absent there same = let is = subst (λ v. is_among built v ≡ true) (bytes_eq_eq w n same) there in cc
other built w n false absent there same = refl

all_others : (built : List Word) (n : Word) (ws : List Word) → is_among built n ≡ false → list_all (is_among built) ws ≡ true → All (λ w. bytes_eq w n ≡ false) ws
all_others built n [] absent there = All-nil (λ w. bytes_eq w n ≡ false)
all_others built n (w ∷ ws) absent there =
    let p = and_parts (is_among built w) (list_all (is_among built) ws) there in
    All-cons (λ v. bytes_eq v n ≡ false) w ws (other built w n (bytes_eq w n) absent p.0 refl) (all_others built n ws absent p.1)

ready_names_others : (built : List Word) (m : Module) → is_ready built m ≡ true → NamesOthers m
ready_names_others built m e = all_others built (name_of m) (imports_of m) (ready_is_new built m e) (and_parts (not (is_among built (name_of m))) (list_all (is_among built) (imports_of m)) e).1

built_name_others : (most : ℕ) (built : List Word) (ms : List Module) → All NamesOthers (built_behind most built ms)
built_name_others zero built ms = All-nil NamesOthers
built_name_others (suc most) built ms =
    next_are NamesOthers most built ms (first_ready built ms) (λ m e. ready_names_others built m (first_is_ready built ms m e)) (λ m. built_name_others most (name_of m ∷ built) ms)

pub order_names_others : (ms : List Module) → All NamesOthers (build_order ms)
order_names_others ms = built_name_others (length ms) [] ms

abbrev names_of : List Module → List Word
names_of ms = map name_of ms

-- modules that have none of these names, and no two of which have one name
abbrev AreNew : List Word → List Module → Type 0
AreNew built ms = All (λ v. is_among built v ≡ false) (names_of ms) × AreDistinctWords (names_of ms)

next_is_new : (built : List Word) (behind : Module → List Module) (o : Option Module) → ((m : Module) → o ≡ Some m → is_among built (name_of m) ≡ false)
    → ((m : Module) → AreNew (name_of m ∷ built) (behind m)) → AreNew built (elim o [ Some m ↦ m ∷ behind m | None ↦ [] ])
next_is_new built behind None at rest = (All-nil (λ v. is_among built v ≡ false), tt)
next_is_new built behind (Some m) at rest =
    let names = names_of (behind m) in
    let new = (rest m).0 in (
      All-cons (λ v. is_among built v ≡ false) (name_of m) names (at m refl) (All-weaker (λ v. is_among (name_of m ∷ built) v ≡ false) (λ v. is_among built v ≡ false) (λ v e. (either_false (bytes_eq (name_of m) v) (is_among built v) e).1) names new),
      (All-weaker (λ v. is_among (name_of m ∷ built) v ≡ false) (λ v. bytes_eq (name_of m) v ≡ false) (λ v e. (either_false (bytes_eq (name_of m) v) (is_among built v) e).0) names new, (rest m).1),
    )

-- what is built has none of the names built before, and no two of one name
built_are_new : (most : ℕ) (built : List Word) (ms : List Module) → AreNew built (built_behind most built ms)
built_are_new zero built ms = (All-nil (λ v. is_among built v ≡ false), tt)
built_are_new (suc most) built ms =
    next_is_new built (λ m. built_behind most (name_of m ∷ built) ms) (first_ready built ms) (λ m e. ready_is_new built m (first_is_ready built ms m e)) (λ m. built_are_new most (name_of m ∷ built) ms)

pub built_names_differ : (ms : List Module) → AreDistinctWords (map name_of (build_order ms))
built_names_differ ms = (built_are_new (length ms) [] ms).1
