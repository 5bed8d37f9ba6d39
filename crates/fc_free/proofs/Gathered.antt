-- Names that are gathered, each once.
use Rattle.std.proofs.Common.{◌≡◌, ◌<◌, ◌+◌, ℕ, refl, sym, ap, ◌∙◌, Bool, true, false, not, ◌&&◌, ◌||◌, if◌then◌else◌, List, [], ◌∷◌, ◌++◌, append_assoc, append-nil, map, drop, get_or, length, Option, Some, None}
use Rattle.std.specs.List.{filter, list_any}
use Rattle.std.specs.Option.{option_eq, option_map}
use Rattle.std.specs.Str.{bytes_eq}
use Rattle.std.specs.Cmp.Lexicographic.{nat_list_eq_equiv}
use Rattle.std.proofs.lemmas.List.{map_push}
use Rattle.std.proofs.lemmas.List.Elements.{filter_agree}
use Rattle.indexmap.specs.IndexSet.{insert_key}
use Rattle.fc_syntax.specs.declared.ty.Name.{Name}
use Rattle.fc_model.specs.Kinding.{same_name, same_word}
use Rattle.fc_model.proofs.Lists.{drop_item}
use Rattle.fc_model.proofs.Sameness.{same_name_eq}
use Rattle.fc_free.specs.Free.{each_once, is_among}
use Rattle.fc_free.specs.Keys.{named}
use Rattle.fc_free.specs.declared.once.Key.{Key}
use Rattle.fc_free.specs.contracts.once.KeyPartialEq.TheImpl as of_keys
use denote.Ref.{Bor}
use Rattle.fc_free.proofs.Among.{among_both}
use Rattle.fc_free.proofs.Kept.{filter_both}

-- KEYS

words_same : (v w : Option (Bor (List ℕ))) → option_eq (λ x y. bytes_eq x.now y.now) v w ≡ same_word (option_map (λ x. x.now) w) (option_map (λ x. x.now) v)
words_same None None = refl
words_same None (Some w) = refl
words_same (Some v) None = refl
words_same (Some v) (Some w) = nat_list_eq_equiv.symm v.now w.now

-- keys are equal where they stand for the same name
key_same : (k l : Key) → of_keys.eq-value.it k l ≡ same_name (named l) (named k)
key_same k l =
    ap (λ b. b && bytes_eq k.text.now l.text.now) (words_same k.module l.module)
    ∙ ap (λ b. same_word (named l).module (named k).module && b) (nat_list_eq_equiv.symm k.text.now l.text.now)

either_holds : (a b : Bool) → a || b ≡ (if a then true else b)
either_holds true b = refl
either_holds false b = refl

pub known_is : (k : Key) (ks : List Key) → list_any (of_keys.eq-value.it k) ks ≡ is_among (named k) (map named ks)
known_is k [] = refl
known_is k (l ∷ ls) =
    either_holds (of_keys.eq-value.it k l) (list_any (of_keys.eq-value.it k) ls)
    ∙ ap (λ b. if b then true else list_any (of_keys.eq-value.it k) ls) (key_same k l) ∙ ap (λ b. if same_name (named l) (named k) then true else b) (known_is k ls)

-- NAMES

-- a name behind others, where it is not among them, and so several one after the other
abbrev pub with_name : List Name → Name → List Name
with_name known n = if is_among n known then known else known ++ n ∷ []

abbrev pub gathered : List Name → List Name → List Name
gathered known [] = known
gathered known (n ∷ ns) = gathered (with_name known n) ns

gathered_is : (known ns : List Name) → gathered known ns ≡ known ++ filter (λ m. not (is_among m known)) (each_once ns)
gathered_is known [] = sym (append-nil known)
gathered_is known (n ∷ ns) = first (is_among n known) refl (λ m. gathered_is m ns)
  where
    others : List Name
    others = each_once ns

    kept_before : (m : Name) → is_among n known ≡ true → not (is_among m known) ≡ (if not (same_name n m) then not (is_among m known) else false)
    kept_before m here = by (same_name n m) refl
      where
        by : (b : Bool) → same_name n m ≡ b → not (is_among m known) ≡ (if not b then not (is_among m known) else false)
        by true same = ap not (ap (λ x. is_among x known) (sym (same_name_eq n m same)) ∙ here)
        by false same = refl

    kept_now : (m : Name) → not (is_among m (known ++ n ∷ [])) ≡ (if not (same_name n m) then not (is_among m known) else false)
    kept_now m = ap not (among_both m known (n ∷ [])) ∙ by (same_name n m) (is_among m known)
      where
        by : (a b : Bool) → not (if b then true else (if a then true else false)) ≡ (if not a then not b else false)
        by true true = refl
        by true false = refl
        by false true = refl
        by false false = refl

    first : (b : Bool) → is_among n known ≡ b → ((m : List Name) → gathered m ns ≡ m ++ filter (λ k. not (is_among k m)) others)
        → gathered (if b then known else known ++ n ∷ []) ns
        ≡ known ++ (if not b then n ∷ filter (λ m. not (is_among m known)) (filter (λ m. not (same_name n m)) others) else filter (λ m. not (is_among m known)) (filter (λ m. not (same_name n m)) others))
    first true here rest =
        rest known
        ∙ ap (λ ms. known ++ ms)
        (filter_agree (λ m. not (is_among m known)) (λ m. if not (same_name n m) then not (is_among m known) else false) (λ m. kept_before m here) others
        ∙ sym (filter_both (λ m. not (is_among m known)) (λ m. not (same_name n m)) others))
    first false new rest =
        rest (known ++ n ∷ []) ∙ append_assoc known (n ∷ []) (filter (λ m. not (is_among m (known ++ n ∷ []))) others)
        ∙ ap (λ ms. known ++ n ∷ ms)
        (filter_agree (λ m. not (is_among m (known ++ n ∷ []))) (λ m. if not (same_name n m) then not (is_among m known) else false) kept_now others
        ∙ sym (filter_both (λ m. not (is_among m known)) (λ m. not (same_name n m)) others))

pub gathered_once : (ns : List Name) → gathered [] ns ≡ each_once ns
gathered_once ns = gathered_is [] ns ∙ all (each_once ns)
  where
    all : (ms : List Name) → filter (λ m. not (is_among m [])) ms ≡ ms
    all [] = refl
    all (m ∷ ms) = ap (λ xs. m ∷ xs) (all ms)

-- A LOOP

-- a key is new where its name is not among those of the keys before
pub known_before : (k : Key) (keys : List Key) (n : Name) (all : List Name) (new : Bool) → all ≡ map named keys → named k ≡ n → new ≡ not (list_any (of_keys.eq-value.it k) keys) → is_among n all ≡ not new
known_before k keys n all new are is says =
    ap (λ m. is_among m all) (sym is) ∙ ap (is_among (named k)) are ∙ sym (known_is k keys) ∙ twice (list_any (of_keys.eq-value.it k) keys) ∙ ap not (sym says)
  where
    twice : (b : Bool) → b ≡ not (not b)
    twice true = refl
    twice false = refl

key_put_in : (k : Key) (keys : List Key) → with_name (map named keys) (named k) ≡ map named (insert_key of_keys.eq-value.it keys k)
key_put_in k keys =
    ap (λ b. if b then map named keys else map named keys ++ named k ∷ []) (sym (known_is k keys)) ∙ both (list_any (of_keys.eq-value.it k) keys)
  where
    both : (b : Bool) → (if b then map named keys else map named keys ++ named k ∷ []) ≡ map named (if b then keys else keys ++ k ∷ [])
    both true = refl
    both false = sym (map_push named keys k)

-- one name more
pub gathered_step : (names : List (Bor Name)) (i : ℕ) (x : Bor Name) (k : Key) (keys next_keys : List Key) (all next whole : List Name)
    → (all ≡ map named keys) × (gathered all (map (λ n. n.now) (drop i names)) ≡ whole) → i < length names → x ≡ get_or names i x → named k ≡ x.now → next_keys ≡ insert_key of_keys.eq-value.it keys k
    → next ≡ with_name all x.now → (next ≡ map named next_keys) × (gathered next (map (λ n. n.now) (drop (i + 1) names)) ≡ whole)
gathered_step names i x k keys next_keys all next whole so_far within is name put more = (
  more ∙ ap (with_name all) (sym name) ∙ ap (λ ns. with_name ns (named k)) so_far.0 ∙ key_put_in k keys ∙ ap (map named) (sym put),
  ap (λ ns. gathered ns (map (λ n. n.now) (drop (i + 1) names))) more ∙ sym (ap (λ xs. gathered all (map (λ n. n.now) xs)) (drop_item names i x within is)) ∙ so_far.1,
)
