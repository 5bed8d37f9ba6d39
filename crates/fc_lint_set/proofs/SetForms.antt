-- The modules of a set before the first that has a fault of names, and that one.
use Rattle.std.proofs.Common.{◌≡◌, ◌∙◌, ℕ, ◌+◌, ◌≤◌, zero, suc, List, [], ◌∷◌, ◌++◌, append_assoc, append-nil, arith, drop, length, slice_get, Some, Result, Ok, Err, refl, ap, subst}
use Rattle.std.proofs.lemmas.List.{drop_more}
use Rattle.std.proofs.lemmas.Option.{get_or_from_slice_get, slice_get_within}
use Rattle.fc_syntax.specs.Tree.{Module}
use Rattle.fc_model.specs.Faulting.{F, and_then}
use Rattle.fc_model.specs.Headers.{name_of, ndecls_in}
use Rattle.fc_model.specs.Kinding.{Modules, decls_at}
use Rattle.fc_model.specs.Linting.{Done, done, In, declarations_judged, exports_judged, form_before, in_module, module_judged, modules_judged, nameless_forms, offers_of}
use Rattle.fc_model.specs.Nameless.{NModule}
use Rattle.fc_model.specs.Resolution.{Offers, offers_all, resolved_among, resolved_or_fault}
use Rattle.fc_model.proofs.Offered.{offers_of_more}
use Rattle.fc_model.proofs.ResolvedMore.{OffersMore, resolved_more}
use Rattle.fc_lint_set.specs.Sets.{AllNamed, ResolveBehind, names_among}

-- a module, and what is behind it
judged_past : (ns : List NModule) (m : Module) (ms : List Module) → module_judged ns m ≡ Ok done → modules_judged ns (m ∷ ms) ≡ modules_judged ns ms
judged_past ns m ms h = ap (λ r. in_module (name_of m) r (modules_judged ns ms)) h

judged_here : (ns : List NModule) (m : Module) (ms : List Module) (f : F) → module_judged ns m ≡ Err f → modules_judged ns (m ∷ ms) ≡ Err (In (name_of m) f)
judged_here ns m ms f h = ap (λ r. in_module (name_of m) r (modules_judged ns ms)) h

-- a module with a fault of names has it as its first
unnamed : (ns : List NModule) (m : Module) (f : F) → resolved_or_fault m ≡ Err f → module_judged ns m ≡ Err f
unnamed ns m f h =
    ap (λ r. and_then r (λ n. and_then (exports_judged n) (λ _. and_then (resolved_among (offers_of ns) m) (λ _. declarations_judged (decls_at ns) (ndecls_in n))))) h

-- one that has a form is judged by what is behind its names
named : (ns : List NModule) (m : Module) (n : NModule) → resolved_or_fault m ≡ Ok n
    → module_judged ns m ≡ and_then (exports_judged n) (λ _. and_then (resolved_among (offers_of ns) m) (λ _. declarations_judged (decls_at ns) (ndecls_in n)))
named ns m n h =
    ap (λ r. and_then r (λ n. and_then (exports_judged n) (λ _. and_then (resolved_among (offers_of ns) m) (λ _. declarations_judged (decls_at ns) (ndecls_in n))))) h

-- the module of a number has this form
abbrev HasForm : List Module → ℕ → NModule → Type 0
HasForm ms i n = (m : Module) × (slice_get ms i ≡ Some m) × (resolved_or_fault m ≡ Ok n)

no_form : {n : NModule} (i : ℕ) → slice_get [] i ≡ Some n → ⊥
no_form i h = cc

form_first : (m : Module) (ms : List Module) (i : ℕ) (n : NModule) (r : Result NModule F) → resolved_or_fault m ≡ r → ((j : ℕ) → slice_get (nameless_forms ms) j ≡ Some n → HasForm ms j n)
    → slice_get (form_before r (nameless_forms ms)) i ≡ Some n → HasForm (m ∷ ms) i n
form_first m ms i n (Err f) e rest h = absurd (no_form i h)
form_first m ms zero n (Ok k) e rest h = let same : k ≡ n = cc in (m, refl, e ∙ ap (λ x. Ok x) same)
form_first m ms (suc i) n (Ok k) e rest h = rest i h

-- the module at the place of a form has that form
form_at : (ms : List Module) (i : ℕ) (n : NModule) → slice_get (nameless_forms ms) i ≡ Some n → HasForm ms i n
form_at [] i n h = absurd (no_form i h)
form_at (m ∷ ms) i n h = form_first m ms i n (resolved_or_fault m) refl (λ j g. form_at ms j n g) h

-- there are no more forms than modules
within_one : (r : Result NModule F) (ns : List NModule) (k : ℕ) → length ns ≤ k → length (form_before r ns) ≤ suc k
within_one (Ok n) ns k h = omega arith
within_one (Err f) ns k h = omega arith

pub forms_within : (ms : List Module) → length (nameless_forms ms) ≤ length ms
forms_within [] = omega arith
forms_within (m ∷ ms) = within_one (resolved_or_fault m) (nameless_forms ms) (length ms) (forms_within ms)

-- what is left of a list begins with the item that is reached
left_at : {X : Type 0} (xs : List X) (i : ℕ) (x : X) → slice_get xs i ≡ Some x → drop i xs ≡ x ∷ drop (i + 1) xs
left_at xs i x h = drop_more xs i x (slice_get_within xs i x h) ∙ ap (λ y. y ∷ drop (i + 1) xs) (get_or_from_slice_get xs i x x h)

-- what is judged of a module behind its own names, against what modules have for others and what they declare
abbrev pub behind_names : List NModule → Module → NModule → Result Done F
behind_names ns m n = and_then (exports_judged n) (λ _. and_then (resolved_among (offers_of ns) m) (λ _. declarations_judged (decls_at ns) (ndecls_in n)))

-- the same, where this is known of the names of imports
abbrev pub behind_known : Result Done F → Modules → NModule → Result Done F
behind_known names ds n = and_then (exports_judged n) (λ _. and_then names (λ _. declarations_judged ds (ndecls_in n)))

seen_once : (r : Result NModule F) (rest : Result Done F) → and_then {Y = Done} (and_then {Y = Done} r (λ _. Ok done)) (λ _. rest) ≡ and_then {Y = Done} r (λ _. rest)
seen_once (Ok n) rest = refl
seen_once (Err f) rest = refl

pub known_behind : (ns : List NModule) (m : Module) (n : NModule) (names : Result Done F) → names ≡ names_among (offers_of ns) m → behind_known names (decls_at ns) n ≡ behind_names ns m n
known_behind ns m n names is =
    let rest : Result Done F = declarations_judged (decls_at ns) (ndecls_in n) in
    ap (λ r. and_then (exports_judged n) (λ _. and_then r (λ _. rest))) is
    ∙ ap (λ r. and_then (exports_judged n) (λ _. r)) (seen_once (resolved_among (offers_of ns) m) rest)

judged_at : (ns : List NModule) (ms : List Module) (i : ℕ) (m : Module) (n : NModule) (r : Result Done F) → slice_get ms i ≡ Some m → slice_get (nameless_forms ms) i ≡ Some n → behind_names ns m n ≡ r → module_judged ns m ≡ r
judged_at ns ms i m n r here form h =
    let f = form_at ms i n form in
    let same : f.0 ≡ m = cc (f.1, here) in
    named ns m n (subst (λ k. resolved_or_fault k ≡ Ok n) same f.2) ∙ h

-- a module that has a form, and in which every premise holds, is passed
pub form_passed : (ns : List NModule) (ms : List Module) (i : ℕ) (m : Module) (n : NModule) → slice_get ms i ≡ Some m → slice_get (nameless_forms ms) i ≡ Some n → behind_names ns m n ≡ Ok done
    → modules_judged ns (drop i ms) ≡ modules_judged ns (drop (i + 1) ms)
form_passed ns ms i m n here form h = ap (modules_judged ns) (left_at ms i m here) ∙ judged_past ns m (drop (i + 1) ms) (judged_at ns ms i m n (Ok done) here form h)

-- one in which a premise fails is told
pub form_refused : (ns : List NModule) (ms : List Module) (i : ℕ) (m : Module) (n : NModule) (f : F) → slice_get ms i ≡ Some m → slice_get (nameless_forms ms) i ≡ Some n → behind_names ns m n ≡ Err f
    → modules_judged ns (drop i ms) ≡ Err (In (name_of m) f)
form_refused ns ms i m n f here form h = ap (modules_judged ns) (left_at ms i m here) ∙ judged_here ns m (drop (i + 1) ms) f (judged_at ns ms i m n (Err f) here form h)

-- one that has a fault of names is told
pub unnamed_refused : (ns : List NModule) (ms : List Module) (i : ℕ) (m : Module) (f : F) → slice_get ms i ≡ Some m → resolved_or_fault m ≡ Err f → modules_judged ns (drop i ms) ≡ Err (In (name_of m) f)
unnamed_refused ns ms i m f here h = ap (modules_judged ns) (left_at ms i m here) ∙ judged_here ns m (drop (i + 1) ms) f (unnamed ns m f h)

-- before a module that has none there is no other
pub form_last : (found : List NModule) (m : Module) (ms : List Module) (f : F) → resolved_or_fault m ≡ Err f → found ++ nameless_forms (m ∷ ms) ≡ found
form_last found m ms f h = ap (λ r. found ++ form_before r (nameless_forms ms)) h ∙ append-nil found

named_first : (ns : List NModule) (m : Module) (ms : List Module) → names_among (offers_of ns) m ≡ Ok done → AllNamed ns ms → AllNamed ns (m ∷ ms)
named_first ns m ms here rest zero k h = let same : m ≡ k = cc in subst (λ x. names_among (offers_of ns) x ≡ Ok done) same here
named_first ns m ms here rest (suc i) k h = rest i k h

-- MODULES THAT NAME OF THOSE BEFORE THEM WHAT THESE HAVE FOR OTHERS

all_offered : (offers : Offers) → OffersMore offers offers_all
all_offered offers = record { types = λ m w h. refl; terms = λ m w h. refl; coercions = λ m w h. refl }

-- they have these forms, and so they name what all have for others
pub resolved_all : (ns : List NModule) (ms : List Module) (ks : List NModule) → ResolveBehind ns ms ks → (nameless_forms ms ≡ ks) × AllNamed (ns ++ ks) ms
resolved_all ns [] [] h = (refl, λ i m g. cc)
resolved_all ns [] (k ∷ ks) h = absurd h
resolved_all ns (m ∷ ms) [] h = absurd h
resolved_all ns (m ∷ ms) (k ∷ ks) h =
    let later = resolved_all (ns ++ k ∷ []) ms ks h.1 in
    let all : (ns ++ k ∷ []) ++ ks ≡ ns ++ (k ∷ ks) = append_assoc ns (k ∷ []) ks in
    let own : resolved_or_fault m ≡ Ok k = resolved_more (offers_of ns) offers_all (all_offered (offers_of ns)) m k h.0 in
    let here : resolved_among (offers_of (ns ++ (k ∷ ks))) m ≡ Ok k = resolved_more (offers_of ns) (offers_of (ns ++ (k ∷ ks))) (offers_of_more ns (k ∷ ks)) m k h.0 in
    (ap (λ r. form_before r (nameless_forms ms)) own ∙ ap (λ xs. k ∷ xs) later.0, named_first (ns ++ (k ∷ ks)) m ms (ap (λ r. and_then r (λ _. Ok done)) here) (subst (λ xs. AllNamed xs ms) all later.1))

pub resolved_count : (ns : List NModule) (ms : List Module) (ks : List NModule) → ResolveBehind ns ms ks → length ks ≡ length ms
resolved_count ns [] [] h = refl
resolved_count ns [] (k ∷ ks) h = absurd h
resolved_count ns (m ∷ ms) [] h = absurd h
resolved_count ns (m ∷ ms) (k ∷ ks) h = ap suc (resolved_count (ns ++ k ∷ []) ms ks h.1)
