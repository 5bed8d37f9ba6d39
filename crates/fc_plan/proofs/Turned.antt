-- The turns of modules, by their numbers.
use Rattle.std.proofs.Common.{◌≡◌, ◌≢◌, ◌<◌, ℕ, zero, suc, ◌+◌, Bool, true, false, not, ◌&&◌, ◌||◌, bytes_eq, if◌then◌else◌, List, [], ◌∷◌, ◌++◌, map, reverse, length, set, replicate, Option, Some, None, option_map, refl, sym, ap, subst, ◌∙◌, arith}
use Rattle.std.specs.List.{list_all, slice_get}
use Rattle.std.specs.Option.{option_map_or}
use Rattle.std.proofs.lemmas.List.{append-nil, append_assoc, get_or-set_other, get_or-set_same, map_push, reverse-append}
use Rattle.std.proofs.lemmas.List.Folds.{list_any-append}
use Rattle.std.proofs.lemmas.Slice.Zip.{AllZip-long}
use Rattle.fc_syntax.specs.Tree.{Word, Module}
use Rattle.fc_syntax.specs.declared.fault.FaultKind.TheVariants as kind
use Rattle.fc_model.specs.Headers.{imports_of, name_of}
use Rattle.fc_model.proofs.Sameness.{bytes_eq_eq, bytes_eq_refl, false_true}
use Rattle.fc_plan.specs.Modules.{names_of}
use Rattle.fc_plan.specs.Numbering.{AreNeeds, AreNumbersOf, has_passing, number_among, number_in}
use Rattle.fc_model.specs.Planning.{build_order, built_behind, first_importer_beyond, first_ready, first_repeated, first_without, is_among, is_ready, of_kind, plan_fault}
use Rattle.fc_plan.specs.Turning.{AreUnderway, IsUnderway, first_free, first_unbuilt, is_marked}
use Rattle.fc_plan.proofs.Planned.{fault_unbuilt}

-- CHOICES

some_some : {X : Type 0} (x y : X) → Some x ≡ Some y → x ≡ y
some_some x y h = cc

no_some : {X Y : Type 0} (x : X) → None ≡ Some x → Y
no_some x h = absurd cc

-- what was chosen is the one or the other
chosen : {X Y : Type 0} (b : Bool) (x y : X) (o : Option X) → (if b then Some x else o) ≡ Some y → (b ≡ true → x ≡ y → Y) → (b ≡ false → o ≡ Some y → Y) → Y
chosen true x y o h one other = one refl (some_some x y h)
chosen false x y o h one other = other refl h

none_chosen : {X Y : Type 0} (b : Bool) (x : X) (o : Option X) → (if b then Some x else o) ≡ None → (b ≡ false → o ≡ None → Y) → Y
none_chosen true x o h other = no_some x (sym h)
none_chosen false x o h other = other refl h

by_test : {Y : Type 0} (b : Bool) → (b ≡ true → Y) → (b ≡ false → Y) → Y
by_test true one other = one refl
by_test false one other = other refl

-- NUMBERS

-- For each module its number, and the numbers of those that it imports.
abbrev AreNumbered : (Word → Option ℕ) → ℕ → List Module → List (List ℕ) → Type 0
AreNumbered number k [] [] = Unit {0}
AreNumbered number k [] (ns ∷ needs) = ⊥
AreNumbered number k (m ∷ ms) [] = ⊥
AreNumbered number k (m ∷ ms) (ns ∷ needs) = (number (name_of m) ≡ Some k) × AreNumbersOf number (imports_of m) ns × AreNumbered number (k + 1) ms needs

not_before : (before ws : List Word) (w : Word) → first_repeated before (w ∷ ws) ≡ None → (is_among before w ≡ false) × (first_repeated (w ∷ before) ws ≡ None)
not_before before ws w h = none_chosen (is_among before w) w (first_repeated (w ∷ before) ws) h (λ new rest. (new, rest))

neither : (a b : Bool) → (a || b) ≡ false → (a ≡ false) × (b ≡ false)
neither true b h = false_true (sym h)
neither false b h = (refl, h)

-- modules of names of their own have their numbers
numbered_from : (number : Word → Option ℕ) (before : List Word) (k : ℕ) (ms : List Module) (needs : List (List ℕ)) → first_repeated before (names_of ms) ≡ None
    → ((w : Word) → is_among before w ≡ false → number w ≡ number_among k (names_of ms) w) → AreNeeds number ms needs → AreNumbered number k ms needs
numbered_from number before k [] [] distinct numbers needed = tt
numbered_from number before k [] (ns ∷ needs) distinct numbers needed = needed
numbered_from number before k (m ∷ ms) [] distinct numbers needed = needed
numbered_from number before k (m ∷ ms) (ns ∷ needs) distinct numbers needed =
    let n = name_of m in
    let parts = not_before before (names_of ms) n distinct in
    let behind = λ (b : Bool) (w : Word). if b then Some k else number_among (k + 1) (names_of ms) w in (
      numbers n parts.0 ∙ ap (λ b. behind b n) (bytes_eq_refl n),
      needed.0,
      numbered_from number (n ∷ before) (k + 1) ms needs parts.1
          (λ w new. let both = neither (bytes_eq n w) (is_among before w) new in numbers w both.1 ∙ ap (λ b. behind b w) both.0)
          needed.1,
    )

numbered : (ms : List Module) (needs : List (List ℕ)) → first_repeated [] (names_of ms) ≡ None → AreNeeds (number_in ms) ms needs → AreNumbered (number_in ms) 0 ms needs
numbered ms needs distinct needed = numbered_from (number_in ms) [] 0 ms needs distinct (λ w new. refl) needed

-- a number is that of one word
place : (k n : ℕ) (ws : List Word) (w : Word) → number_among k ws w ≡ Some n → (i : ℕ) × (n ≡ k + i) × (slice_get ws i ≡ Some w)
place k n [] w h = no_some n h
place k n (v ∷ ws) w h =
    chosen (bytes_eq v w) k n (number_among (k + 1) ws w) h (λ same is. (0, omega arith, ap Some (bytes_eq_eq v w same)))
    (λ other behind. let p = place (k + 1) n ws w behind in (suc p.0, omega (arith, p.1), p.2))

one_word : (n : ℕ) (ws : List Word) (v w : Word) → number_among 0 ws v ≡ Some n → number_among 0 ws w ≡ Some n → v ≡ w
one_word n ws v w hv hw =
    let p = place 0 n ws v hv in
    let q = place 0 n ws w hw in
    let same : p.0 ≡ q.0 = omega (arith, p.1, q.1) in
    some_some v w (sym p.2 ∙ ap (slice_get ws) same ∙ q.2)

-- TURNS

module _ (number : Word → Option ℕ) (test : ℕ → Bool) (built : List Word) (marked : (w : Word) → is_among built w ≡ has_passing number test w) where
  ready_as : (m : Module) (k : ℕ) (ns : List ℕ) → number (name_of m) ≡ Some k → AreNumbersOf number (imports_of m) ns → is_ready built m ≡ (not (test k) && list_all test ns)
  ready_as m k ns here needed =
      ap (λ b. not b && list_all (is_among built) (imports_of m)) (marked (name_of m) ∙ ap (λ o. option_map_or test o false) here)
      ∙ ap (λ b. not (test k) && b) (ap (λ f. list_all f (imports_of m)) (λ i w. marked w i) ∙ sym (needed test))

  abbrev ready_or : Module → List Module → Bool → Option Module
  ready_or m ms b = if b then Some m else first_ready built ms

  -- the first module that may be built has the first number that is free
  found_free : (all : List Module) (k n : ℕ) (ms : List Module) (needs : List (List ℕ)) → ((i : ℕ) → slice_get all (k + i) ≡ slice_get ms i)
      → AreNumbered number k ms needs → first_free test k needs ≡ Some n
      → (m : Module) × (first_ready built ms ≡ Some m) × (slice_get all n ≡ Some m) × (number (name_of m) ≡ Some n)
  found_free all k n [] [] at h free = no_some n free
  found_free all k n [] (ns ∷ needs) at h free = absurd h
  found_free all k n (m ∷ ms) [] at h free = absurd h
  found_free all k n (m ∷ ms) (ns ∷ needs) at h free =
      let ready = ready_as m k ns h.0 h.1 in
      chosen (not (test k) && list_all test ns) k n (first_free test (k + 1) needs) free
      (λ yes is. (m, ap (ready_or m ms) (ready ∙ yes), ap (slice_get all) (omega arith) ∙ at 0, h.0 ∙ ap Some is))
      (λ no behind.
      let p = found_free all (k + 1) n ms needs (λ i. ap (slice_get all) (omega arith) ∙ at (suc i)) h.2 behind in
      (p.0, ap (ready_or m ms) (ready ∙ no) ∙ p.1, p.2, p.3))

  none_free : (k : ℕ) (ms : List Module) (needs : List (List ℕ)) → AreNumbered number k ms needs → first_free test k needs ≡ None → first_ready built ms ≡ None
  none_free k [] [] h free = refl
  none_free k [] (ns ∷ needs) h free = absurd h
  none_free k (m ∷ ms) [] h free = absurd h
  none_free k (m ∷ ms) (ns ∷ needs) h free =
      none_chosen (not (test k) && list_all test ns) k (first_free test (k + 1) needs) free
      (λ no behind. ap (ready_or m ms) (ready_as m k ns h.0 h.1 ∙ no) ∙ none_free (k + 1) ms needs h.2 behind)

  -- the first module that is not built has the first number that is not marked
  unbuilt_as : (k : ℕ) (ms : List Module) (needs : List (List ℕ)) → AreNumbered number k ms needs → first_without built (names_of ms) ≡ first_unbuilt test k (names_of ms)
  unbuilt_as k [] [] h = refl
  unbuilt_as k [] (ns ∷ needs) h = absurd h
  unbuilt_as k (m ∷ ms) [] h = absurd h
  unbuilt_as k (m ∷ ms) (ns ∷ needs) h =
      ap (λ b. if b then first_without built (names_of ms) else Some (name_of m)) (marked (name_of m) ∙ ap (λ o. option_map_or test o false) h.0)
      ∙ ap (λ o. if test k then o else Some (name_of m)) (unbuilt_as (k + 1) ms needs h.2)

-- MARKS

unmarked : (count k : ℕ) → is_marked (replicate count false) k ≡ false
unmarked zero k = refl
unmarked (suc count) zero = refl
unmarked (suc count) (suc k) = unmarked count k

none_marked : (count : ℕ) (o : Option ℕ) → false ≡ option_map_or (is_marked (replicate count false)) o false
none_marked count None = refl
none_marked count (Some k) = sym (unmarked count k)

other_marked : (marks : List Bool) (n : ℕ) (o : Option ℕ) → ((k : ℕ) → o ≡ Some k → k ≢ n)
    → option_map_or (is_marked (set marks n true)) o false ≡ option_map_or (is_marked marks) o false
other_marked marks n None h = refl
other_marked marks n (Some k) h = get_or-set_other marks n k true false (h k refl)

one_marked : (ms : List Module) (m : Module) (marks : List Bool) (n : ℕ) (built : List Word) → n < length marks → number_in ms (name_of m) ≡ Some n
    → ((w : Word) → is_among built w ≡ has_passing (number_in ms) (is_marked marks) w)
    → (w : Word) → is_among (name_of m ∷ built) w ≡ has_passing (number_in ms) (is_marked (set marks n true)) w
one_marked ms m marks n built low here marked w =
    by_test (bytes_eq (name_of m) w)
    (λ same.
    ap (λ b. b || is_among built w) same
    ∙ sym
    (ap (λ v. has_passing (number_in ms) (is_marked (set marks n true)) v) (sym (bytes_eq_eq (name_of m) w same))
    ∙ ap (λ o. option_map_or (is_marked (set marks n true)) o false) here ∙ get_or-set_same marks n true false low))
    (λ other.
    ap (λ b. b || is_among built w) other ∙ marked w
    ∙ sym
    (other_marked marks n (number_in ms w)
    (λ k is same.
    let v : name_of m ≡ w = one_word n (names_of ms) (name_of m) w here (is ∙ ap Some same) in
    false_true (sym other ∙ ap (λ u. bytes_eq (name_of m) u) (sym v) ∙ bytes_eq_refl (name_of m)))))

-- THE ORDER

none_underway : (ms : List Module) (count : ℕ) → IsUnderway ms (replicate count false) [] (length ms)
none_underway ms count = record {
  built = [];
  marked = λ w. none_marked count (number_in ms w);
  names = refl;
  numbers = refl;
}

pub underway_none : (needs : List (List ℕ)) (marks : List Bool) (order : List ℕ) (count most : ℕ) → marks ≡ replicate count false → order ≡ []
    → length needs ≡ most → AreUnderway needs marks order most
underway_none needs marks order count most no_marks no_order all ms distinct needed =
    subst (λ bs. IsUnderway ms bs order most) (sym no_marks)
    (subst (λ ns. IsUnderway ms (replicate count false) ns most) (sym no_order)
    (subst (IsUnderway ms (replicate count false) []) (sym (AllZip-long _ ms needs needed) ∙ all) (none_underway ms count)))

abbrev turn_or_none : ℕ → List Word → List Module → Option Module → List Module
turn_or_none most built ms o = elim o [ Some m ↦ m ∷ built_behind most (name_of m ∷ built) ms | None ↦ [] ]

last_behind : {X : Type 0} (xs ys zs all : List X) (x : X) → xs ++ ys ≡ all → ys ≡ x ∷ zs → (xs ++ x ∷ []) ++ zs ≡ all
last_behind xs ys zs all x h is = append_assoc xs (x ∷ []) zs ∙ ap (λ v. xs ++ v) (sym is) ∙ h

pub underway_more : (needs : List (List ℕ)) (marks : List Bool) (order : List ℕ) (most more n : ℕ) → AreUnderway needs marks order more → more ≡ suc most
    → n < length marks → first_free (is_marked marks) 0 needs ≡ Some n → AreUnderway needs (set marks n true) (order ++ n ∷ []) most
underway_more needs marks order most more n before one low free ms distinct needed =
    let h = before ms distinct needed in
    let p = found_free (number_in ms) (is_marked marks) h.built h.marked ms 0 n ms needs (λ i. ap (slice_get ms) (omega arith)) (numbered ms needs distinct needed) free in
    let turn : built_behind more h.built ms ≡ p.0 ∷ built_behind most (name_of p.0 ∷ h.built) ms =
    ap (λ k. built_behind k h.built ms) one ∙ ap (turn_or_none most h.built ms) p.1
    in
    let rest = built_behind most (name_of p.0 ∷ h.built) ms in
    record {
      built = name_of p.0 ∷ h.built;
      marked = one_marked ms p.0 marks n h.built low p.3 h.marked;
      names =
          ap (λ ws. ws ++ names_of rest) (reverse-append (name_of p.0 ∷ []) h.built)
          ∙ last_behind (reverse h.built) (names_of (built_behind more h.built ms)) (names_of rest) (names_of (build_order ms)) (name_of p.0) h.names (ap names_of turn);
      numbers =
          ap (λ xs. xs ++ map Some rest) (map_push (slice_get ms) order n ∙ ap (λ o. map (slice_get ms) order ++ o ∷ []) p.2)
          ∙ last_behind (map (slice_get ms) order) (map Some (built_behind more h.built ms)) (map Some rest) (map Some (build_order ms)) (Some p.0) h.numbers
          (ap (map Some) turn);
    }

nothing_behind : (most : ℕ) (built : List Word) (ms : List Module) → first_ready built ms ≡ None → built_behind most built ms ≡ []
nothing_behind zero built ms h = refl
nothing_behind (suc most) built ms h = ap (turn_or_none most built ms) h

pub underway_stuck : (needs : List (List ℕ)) (marks : List Bool) (order : List ℕ) (most : ℕ) → AreUnderway needs marks order most
    → first_free (is_marked marks) 0 needs ≡ None → AreUnderway needs marks order 0
underway_stuck needs marks order most before free ms distinct needed =
    let h = before ms distinct needed in
    let stuck = none_free (number_in ms) (is_marked marks) h.built h.marked 0 ms needs (numbered ms needs distinct needed) free in
    let nothing = nothing_behind most h.built ms stuck in
    record {
      built = h.built;
      marked = h.marked;
      names = ap (λ xs. reverse h.built ++ names_of xs) (sym nothing) ∙ h.names;
      numbers = ap (λ xs. map (slice_get ms) order ++ map Some xs) (sym nothing) ∙ h.numbers;
    }

pub underway_order : (ms : List Module) (marks : List Bool) (order : List ℕ) → IsUnderway ms marks order 0 → map (slice_get ms) order ≡ map Some (build_order ms)
underway_order ms marks order h = sym (append-nil (map (slice_get ms) order)) ∙ h.numbers

other_order : (a b : Bool) → (a || (b || false)) ≡ (b || a)
other_order true true = refl
other_order true false = refl
other_order false true = refl
other_order false false = refl

among_reversed : (ws : List Word) (w : Word) → is_among (reverse ws) w ≡ is_among ws w
among_reversed [] w = refl
among_reversed (v ∷ ws) w =
    ap (λ vs. is_among vs w) (reverse-append (v ∷ []) ws) ∙ list_any-append (λ u. bytes_eq u w) (reverse ws) (v ∷ [])
    ∙ ap (λ b. b || (bytes_eq v w || false)) (among_reversed ws w) ∙ other_order (is_among ws w) (bytes_eq v w)

underway_unbuilt : (ms : List Module) (needs : List (List ℕ)) (marks : List Bool) (order : List ℕ) → first_repeated [] (names_of ms) ≡ None
    → AreNeeds (number_in ms) ms needs → IsUnderway ms marks order 0
    → first_without (names_of (build_order ms)) (names_of ms) ≡ first_unbuilt (is_marked marks) 0 (names_of ms)
underway_unbuilt ms needs marks order distinct needed h =
    unbuilt_as (number_in ms) (is_marked marks) (names_of (build_order ms))
    (λ w. ap (λ ws. is_among ws w) (sym h.names ∙ append-nil (reverse h.built)) ∙ among_reversed h.built w ∙ h.marked w)
    0 ms needs (numbered ms needs distinct needed)

pub underway_fault : (ms : List Module) (needs : List (List ℕ)) (marks : List Bool) (order : List ℕ) (o : Option Word) → first_repeated [] (names_of ms) ≡ None
    → first_importer_beyond (names_of ms) ms ≡ None → AreNeeds (number_in ms) ms needs → AreUnderway needs marks order 0
    → first_unbuilt (is_marked marks) 0 (names_of ms) ≡ o → plan_fault ms ≡ option_map (of_kind kind.ImportCycle) o
underway_fault ms needs marks order o distinct known needed turns left =
    fault_unbuilt ms distinct known
    ∙ ap (option_map (of_kind kind.ImportCycle)) (underway_unbuilt ms needs marks order distinct needed (turns ms distinct needed) ∙ left)
