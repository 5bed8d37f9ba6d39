-- Words that are new: where every word around a binder is taken, the first candidate is free, and behind the binder one word more is taken.
use Rattle.std.proofs.Common.{◌≡◌, ◌+◌, ℕ, Bool, true, false, ◌||◌, List, ◌∷◌, Option, Some, None, if◌then◌else◌, bytes_eq, is_some, option_map, refl, sym, ap, subst, arith}
use Rattle.std.proofs.Math.Path.{fun_ext}
use Rattle.fc_syntax.specs.Tree.{Word, Binder}
use Rattle.fc_model.specs.Resolution.{Top, Locals, Value, Found, IsValue, IsJoin, Nowhere, Words, WordSet, found_term, index_of, past_value, plus, with_coercion, with_term, with_type}
use Rattle.fc_model.specs.Worded.{WBinder}
use Rattle.fc_used_words.specs.Standing.{more_coercions, more_terms, more_types}
use Rattle.fc_naming.specs.declared.taken.Space.{Space}
use Rattle.fc_naming.specs.Named.{IsLower, IsWordFor, TakesWord, value_takes, type_takes, coercion_takes}
use Rattle.fc_naming.specs.Taken.{is_somewhere, words_around, words_of}

-- A WORD THAT IS KEPT

pub kept_word : {taken : WordSet} {w v : Word} → v ≡ w → IsLower w → taken w ≡ false → IsWordFor taken w v
kept_word {taken = taken} {w = w} is lower free =
    subst (λ (u : Word). IsWordFor taken w u) (sym is) (record { free = free; lower = lower; chosen = λ low. record { number = 0; is = refl; free = free; first = λ j below. absurd (omega arith) } })

-- where space and word are those of a binder
pub word_of_binder : (taken : Words) {a b : Space} {w u v : Word} → a ≡ b → w ≡ u → IsWordFor (words_of a taken) w v → IsWordFor (words_of b taken) u v
word_of_binder taken {b = b} {w = w} {v = v} e f c =
    subst (λ (x : Word). IsWordFor (words_of b taken) x v) f (subst (λ (x : Space). IsWordFor (words_of x taken) w v) e c)

-- BEHIND A BINDER

some_here : (b : Bool) (o : Option ℕ) → is_some (if b then Some 0 else option_map (λ i. i + 1) o) ≡ (if b then true else is_some o)
some_here true o = refl
some_here false None = refl
some_here false (Some i) = refl

value_here : (b c : Bool) (f : Found) → (is_somewhere (if b then IsValue 0 else past_value f) || c) ≡ (if b then true else is_somewhere f || c)
value_here true c f = refl
value_here false c (IsValue i) = refl
value_here false c (IsJoin i) = refl
value_here false c Nowhere = refl

types_behind : (ws : List Word) (v : Word) → (λ w. is_some (index_of (v ∷ ws) w)) ≡ plus v (λ w. is_some (index_of ws w))
types_behind ws v = fun_ext (λ w. some_here (bytes_eq v w) (index_of ws w))

around_type : (top : Top) (s : Locals) (v : Word) → words_around top (with_type v s) ≡ more_types v (words_around top s)
around_type top s v = ap (λ (ws : WordSet). record (words_around top s) { types = ws }) (types_behind s.types v)

around_coercion : (top : Top) (s : Locals) (v : Word) → words_around top (with_coercion v s) ≡ more_coercions v (words_around top s)
around_coercion top s v = ap (λ (ws : WordSet). record (words_around top s) { coercions = ws }) (types_behind s.coercions v)

pub around_value : (top : Top) (s : Locals) (v : Word) → words_around top (with_term (Value v) s) ≡ more_terms v (words_around top s)
around_value top s v = ap (λ (ws : WordSet). record (words_around top s) { terms = ws }) (fun_ext (λ w. value_here (bytes_eq v w) (top.terms w) (found_term s.terms w)))

around_behind : {top : Top} {s t : Locals} {c : WBinder} {b : Binder} {more : Words} → TakesWord top s (words_around top s) c b t more → more ≡ words_around top t
around_behind {top = top} {s = s} (value_takes {v = v} free low p) = sym (around_value top s v)
around_behind {top = top} {s = s} (type_takes {v = v} free low) = sym (around_type top s v)
around_behind {top = top} {s = s} (coercion_takes {v = v} free low p q) = sym (around_coercion top s v)

-- a binder that takes a word which is new
pub new_takes : {top : Top} {s t : Locals} {c : WBinder} {b : Binder} {more : Words} → TakesWord top s (words_around top s) c b t more → TakesWord top s (words_around top s) c b t (words_around top t)
new_takes {top = top} {s = s} {t = t} {c = c} {b = b} d = subst (λ (ws : Words). TakesWord top s (words_around top s) c b t ws) (around_behind d) d
