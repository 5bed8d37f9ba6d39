-- What a table of places has, while modules are put in.
use Rattle.std.specs.Prelude.{ℕ, Bool, if◌then◌else◌, List, Option, None}
use Rattle.std.specs.Str.{bytes_eq}
use Rattle.indexmap.specs.IndexMap.{IndexMap}
use Rattle.indexmap.specs.IndexSet.{IndexSet, contains_by}
use Rattle.fc_syntax.specs.Tree.{Word}
use Rattle.fc_model.specs.Calling.{first_of}
use Rattle.fc_model.specs.Nameless.{NModule}
use Rattle.fc_definition_places.specs.Places.{place_at, place_from}
use Rattle.fc_definition_places.specs.declared.keys.DefinitionPlace.{DefinitionPlace}
use Rattle.fc_definition_places.specs.declared.keys.WordKey.{WordKey}
use denote.Ref.{Bor}

-- whether a set has a word
abbrev pub has_word : {S : Type 0} → IndexSet (Bor (List ℕ)) S → Word → Bool
has_word words m = contains_by (λ k. bytes_eq m k.now) words

-- what is found in the module of the first word, where that is the other word
abbrev pub in_module : {X : Type 0} → Word → Word → Option X → Option X
in_module n m found = if bytes_eq n m then found else None

-- what a table has, before what modules define whose words are new; the first of them has the number k
abbrev pub place_before : {S R : Type 0} → IndexSet (Bor (List ℕ)) S → IndexMap WordKey DefinitionPlace R → ℕ → List NModule → Word → Word → Option (ℕ × ℕ)
place_before words table k ms m w = first_of (place_at table m w) (if has_word words m then None else place_from k ms m w)
