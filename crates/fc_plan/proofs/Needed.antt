-- The numbers of the modules that are imported, while they are read.
use Rattle.std.proofs.Common.{◌≡◌, ℕ, ◌+◌, Bool, true, false, ◌&&◌, ◌||◌, bytes_eq, nat_eq, if◌then◌else◌, List, [], ◌∷◌, ◌++◌, Option, Some, None, is_some, refl, sym, ap, subst, ◌∙◌}
use Rattle.std.specs.List.{list_all, list_any}
use Rattle.std.specs.Option.{option_map_or}
use Rattle.std.proofs.lemmas.List.{append-nil, append_assoc}
use Rattle.std.proofs.lemmas.List.Folds.{list_all-append}
use Rattle.indexmap.specs.IndexSet.{insert_key}
use Rattle.fc_syntax.specs.Tree.{Word, Module}
use Rattle.fc_syntax.specs.declared.fault.FaultKind.TheVariants as kind
use Rattle.fc_model.specs.Headers.{imports_of, name_of}
use Rattle.fc_model.proofs.Sameness.{false_true, nat_eq_eq}
use Rattle.fc_plan.specs.Modules.{names_of}
use Rattle.fc_plan.specs.Numbering.{AreNeeds, AreNumbers, AreNumbersOf, has_passing, number_among, number_in}
use Rattle.fc_model.specs.Planning.{first_importer_beyond, first_repeated, is_among, of_kind, plan_fault}
use Rattle.fc_plan.proofs.Planned.{fault_unknown}

-- TESTS

and_true : (b : Bool) → (b && true) ≡ b
and_true true = refl
and_true false = refl

and_grouped : (a b c : Bool) → ((a && b) && c) ≡ (a && (b && c))
and_grouped true b c = refl
and_grouped false b c = refl

absorbed : (a b : Bool) → (a ≡ true → b ≡ true) → a ≡ (a && b)
absorbed true b h = sym (h refl)
absorbed false b h = refl

either : (b x y : Bool) → (b || x) ≡ true → (b ≡ true → y ≡ true) → (x ≡ true → y ≡ true) → y ≡ true
either true x y h one other = one refl
either false x y h one other = other h

pub and_left : (a b : Bool) → (a && b) ≡ true → a ≡ true
and_left true b h = refl
and_left false b h = h

pub and_right : (a b : Bool) → (a && b) ≡ true → b ≡ true
and_right true b h = h
and_right false b h = false_true h

-- what passes at all numbers passes at one of them
at_one : (test : ℕ → Bool) (ns : List ℕ) (n : ℕ) → list_any (nat_eq n) ns ≡ true → list_all test ns ≡ true → test n ≡ true
at_one test [] n h all = false_true h
at_one test (k ∷ ns) n h all =
    either (nat_eq n k) (list_any (nat_eq n) ns) (test n) h (λ e. ap test (nat_eq_eq n k e) ∙ and_left (test k) (list_all test ns) all)
    (λ e. at_one test ns n e (and_right (test k) (list_all test ns) all))

-- one number more in a set
insert_chosen : (b : Bool) (test : ℕ → Bool) (ns : List ℕ) (n : ℕ) → (b ≡ true → list_all test ns ≡ true → test n ≡ true)
    → list_all test (if b then ns else ns ++ n ∷ []) ≡ (list_all test ns && test n)
insert_chosen true test ns n h = absorbed (list_all test ns) (test n) (h refl)
insert_chosen false test ns n h = list_all-append test ns (n ∷ []) ∙ ap (λ b. list_all test ns && b) (and_true (test n))

all_inserted : (test : ℕ → Bool) (ns : List ℕ) (n : ℕ) → list_all test (insert_key nat_eq ns n) ≡ (list_all test ns && test n)
all_inserted test ns n = insert_chosen (list_any (nat_eq n) ns) test ns n (at_one test ns n)

-- IMPORTS

abbrev is_known : (Word → Option ℕ) → Word → Bool
is_known number w = is_some (number w)

-- The words before the rest have these numbers.
pub record IsReading (number : Word → Option ℕ) (ws rest : List Word) (ns : List ℕ) : Type 0 where
  pub known : list_all (λ w. is_some (number w)) rest ≡ list_all (λ w. is_some (number w)) ws
  pub found : (test : ℕ → Bool) → (list_all test ns && list_all (has_passing number test) rest) ≡ list_all (has_passing number test) ws

pub reading_none : (number : Word → Option ℕ) (ws : List Word) → IsReading number ws ws []
reading_none number ws = record { known = refl; found = λ test. refl }

pub reading_more : (number : Word → Option ℕ) (ws rest : List Word) (w : Word) (ns : List ℕ) (n : ℕ) → IsReading number ws (w ∷ rest) ns → number w ≡ Some n
    → IsReading number ws rest (insert_key nat_eq ns n)
reading_more number ws rest w ns n h is = record {
  known = ap (λ o. is_some o && list_all (is_known number) rest) (sym is) ∙ h.known;
  found = λ test.
      let behind = list_all (has_passing number test) rest in
      ap (λ b. b && behind) (all_inserted test ns n) ∙ and_grouped (list_all test ns) (test n) behind
      ∙ ap (λ o. list_all test ns && (option_map_or test o false && behind)) (sym is) ∙ h.found test;
}

pub reading_unknown : (number : Word → Option ℕ) (ws rest : List Word) (w : Word) (ns : List ℕ) → IsReading number ws (w ∷ rest) ns → number w ≡ None
    → false ≡ list_all (λ w. is_some (number w)) ws
reading_unknown number ws rest w ns h is = ap (λ o. is_some o && list_all (is_known number) rest) (sym is) ∙ h.known

pub reading_all : (number : Word → Option ℕ) (ws : List Word) (ns : List ℕ) → IsReading number ws [] ns
    → (true ≡ list_all (λ w. is_some (number w)) ws) × AreNumbersOf number ws ns
reading_all number ws ns h = (h.known, λ test. sym (and_true (list_all test ns)) ∙ h.found test)

-- MODULES

-- The modules before the rest need these numbers, and each of their imports is known.
pub record IsGathering (number : Word → Option ℕ) (ms rest : List Module) (needs : List (List ℕ)) : Type 0 where
  pub needed : (more : List (List ℕ)) → AreNeeds number rest more → AreNeeds number ms (needs ++ more)
  pub known : first_importer_beyond (names_of ms) rest ≡ first_importer_beyond (names_of ms) ms

pub gathering_none : (number : Word → Option ℕ) (ms : List Module) → IsGathering number ms ms []
gathering_none number ms = record { needed = λ more h. h; known = refl }

some_or : (b x : Bool) (o : Option ℕ) (k : ℕ) → is_some o ≡ x → is_some (if b then Some k else o) ≡ (b || x)
some_or true x o k h = refl
some_or false x o k h = h

has_number : (k : ℕ) (ws : List Word) (w : Word) → is_some (number_among k ws w) ≡ is_among ws w
has_number k [] w = refl
has_number k (v ∷ ws) w = some_or (bytes_eq v w) (is_among ws w) (number_among (k + 1) ws w) k (has_number (k + 1) ws w)

all_among : (number : Word → Option ℕ) (ms : List Module) (ws : List Word) → AreNumbers ms number → list_all (is_among (names_of ms)) ws ≡ list_all (is_known number) ws
all_among number ms [] h = refl
all_among number ms (w ∷ ws) h =
    ap (λ b. b && list_all (is_among (names_of ms)) ws) (sym (has_number 0 (names_of ms) w) ∙ sym (ap is_some (h w)))
    ∙ ap (λ b. is_known number w && b) (all_among number ms ws h)

abbrev first_beyond : Bool → List Module → Module → List Module → Option Word
first_beyond b ms m rest = if b then first_importer_beyond (names_of ms) rest else Some (name_of m)

pub gathering_more : (number : Word → Option ℕ) (ms rest : List Module) (m : Module) (needs : List (List ℕ)) (ns : List ℕ) → AreNumbers ms number
    → IsGathering number ms (m ∷ rest) needs → true ≡ list_all (λ w. is_some (number w)) (imports_of m) → AreNumbersOf number (imports_of m) ns
    → IsGathering number ms rest (needs ++ ns ∷ [])
gathering_more number ms rest m needs ns numbers h known found = record {
  needed = λ more hs. subst (AreNeeds number ms) (sym (append_assoc needs (ns ∷ []) more)) (h.needed (ns ∷ more) (found, hs));
  known = ap (λ b. first_beyond b ms m rest) (known ∙ sym (all_among number ms (imports_of m) numbers)) ∙ h.known;
}

pub gathering_unknown : (number : Word → Option ℕ) (ms rest : List Module) (m : Module) (needs : List (List ℕ)) → AreNumbers ms number
    → first_repeated [] (names_of ms) ≡ None → IsGathering number ms (m ∷ rest) needs → false ≡ list_all (λ w. is_some (number w)) (imports_of m)
    → plan_fault ms ≡ Some (of_kind kind.ImportUnknown (name_of m))
gathering_unknown number ms rest m needs numbers distinct h unknown =
    fault_unknown ms (name_of m) distinct
    (sym h.known ∙ sym (ap (λ b. first_beyond b ms m rest) (unknown ∙ sym (all_among number ms (imports_of m) numbers))))

pub gathering_all : (number : Word → Option ℕ) (ms : List Module) (needs : List (List ℕ)) → AreNumbers ms number → IsGathering number ms [] needs
    → AreNeeds (number_in ms) ms needs
gathering_all number ms needs numbers h =
    subst (λ f. AreNeeds f ms needs) (λ i w. numbers w i) (subst (AreNeeds number ms) (append-nil needs) (h.needed [] tt))
