-- Where names that stand below binders with words and binders without are found again, and which words they use.
use Rattle.std.specs.Prelude.{◌≡◌, ℕ, zero, suc, true, List, Option, Some, None, Ok, if◌then◌else◌, slice_get}
use Rattle.std.specs.Str.{bytes_eq}
use Rattle.fc_syntax.specs.declared.ty.Name.{Name}
use Rattle.fc_syntax.specs.Tree.{Word}
use Rattle.fc_model.specs.Resolution.{Top, Locals, TermWord, IsValue, IsJoin, Nowhere, Words, WordSet, declared_name, found_term, index_of, plus}
use Rattle.fc_scope.specs.WordsAt.{join_word, value_word}
use Rattle.fc_used_words.specs.Scoped.{Saying}

-- the module that is written with a name, which is none for a name of the module itself
abbrev pub outside : Word → Option Word → Option Word
outside own None = None
outside own (Some m) = if bytes_eq m own then None else Some m

-- a name as it is written in the module `own`
abbrev pub short : Word → Name → Name
short own n = record { «module» = outside own n.module; text = n.text }

-- it holds of a distance beyond so many binders, if it is beyond
abbrev pub Beyond : (ℕ → Type 0) → ℕ → ℕ → Type 0
Beyond P zero i = P i
Beyond P (suc many) zero = Unit {0}
Beyond P (suc many) (suc i) = Beyond P many i

-- a distance reaches a word of the set, by which it is found again
abbrev pub FindsType : WordSet → List Word → ℕ → Type 0
FindsType set ws i = (w : Word) × (slice_get ws i ≡ Some w) × (index_of ws w ≡ Some i) × (set w ≡ true)

abbrev pub FindsValue : WordSet → List TermWord → ℕ → Type 0
FindsValue set xs i = (w : Word) × (value_word xs i ≡ Some w) × (found_term xs w ≡ IsValue i) × (set w ≡ true)

abbrev pub FindsJoin : WordSet → List TermWord → ℕ → Type 0
FindsJoin set xs i = (w : Word) × (join_word xs i ≡ Some w) × (found_term xs w ≡ IsJoin i) × (set w ≡ true)

-- a name of a declaration is known as it is written
abbrev pub IsDeclared : Top → WordSet → (Word → WordSet) → Name → Type 0
IsDeclared top words offered n = declared_name top words offered (outside top.own n.module) n.text ≡ Ok n

-- a definition is known as it is written, and one of the module has a word of the set and the word of no binder
abbrev pub FindsDefinition : Top → WordSet → Locals → Name → Type 0
FindsDefinition top set s n = IsDeclared top top.terms top.offers.terms n × (outside top.own n.module ≡ None → (found_term s.terms n.text ≡ Nowhere) × (set n.text ≡ true))

-- each name is found again by a word of these sets, below binders with words and then some without
abbrev pub is_found_by : Top → Words → Locals → Saying
is_found_by top ws s = record {
  type_at = Beyond (FindsType ws.types s.types);
  value_at = Beyond (FindsValue ws.terms s.terms);
  join_at = Beyond (FindsJoin ws.terms s.terms);
  coercion_at = Beyond (FindsType ws.coercions s.coercions);
  type_name = IsDeclared top top.types top.offers.types;
  axiom_name = IsDeclared top top.coercions top.offers.coercions;
  constructor = IsDeclared top top.terms top.offers.terms;
  definition = FindsDefinition top ws.terms s;
}

abbrev pub every_word : Words
every_word = record { types = λ w. true; terms = λ w. true; coercions = λ w. true }

abbrev pub is_found : Top → Locals → Saying
is_found top s = is_found_by top every_word s

-- the words that reach these binders, and those of the module's own definitions, are all in these sets
abbrev pub is_kept : Word → Words → Locals → Saying
is_kept own ws s = record {
  type_at = Beyond (λ i. (w : Word) → slice_get s.types i ≡ Some w → ws.types w ≡ true);
  value_at = Beyond (λ i. (w : Word) → value_word s.terms i ≡ Some w → ws.terms w ≡ true);
  join_at = Beyond (λ i. (w : Word) → join_word s.terms i ≡ Some w → ws.terms w ≡ true);
  coercion_at = Beyond (λ i. (w : Word) → slice_get s.coercions i ≡ Some w → ws.coercions w ≡ true);
  type_name = λ n. Unit {0};
  axiom_name = λ n. Unit {0};
  constructor = λ n. Unit {0};
  definition = λ n. outside own n.module ≡ None → ws.terms n.text ≡ true;
}

-- one word more in a set
abbrev pub more_types : Word → Words → Words
more_types v ws = record ws { types = plus v ws.types }

abbrev pub more_terms : Word → Words → Words
more_terms v ws = record ws { terms = plus v ws.terms }

abbrev pub more_coercions : Word → Words → Words
more_coercions v ws = record ws { coercions = plus v ws.coercions }

-- what is in the first sets is in the second
pub record AreWithin (ws more : Words) : Type 0 where
  pub types : (w : Word) → ws.types w ≡ true → more.types w ≡ true
  pub terms : (w : Word) → ws.terms w ≡ true → more.terms w ≡ true
  pub coercions : (w : Word) → ws.coercions w ≡ true → more.coercions w ≡ true
