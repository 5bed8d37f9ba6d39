-- Look-ups of words in tables.
use Rattle.std.specs.Prelude.{ℕ, Bool, ◌&&◌, List, [], Option, Some, None, Result, Ok, Err}
use Rattle.std.specs.Str.{bytes_eq}
use Rattle.indexmap.specs.IndexMap.{IndexMap, get_by}
use Rattle.indexmap.specs.IndexSet.{IndexSet, contains_by}
use Rattle.fc_syntax.specs.Tree.{Word}
use Rattle.fc_syntax.specs.declared.fault.FaultKind.TheVariants.{Unbound}
use Rattle.fc_model.specs.Faulting.{F, At}
use Rattle.fc_types.specs.declared.keys.WordKey.{WordKey}
use denote.Ref.{Bor}

-- what a table has at a word of a module
abbrev pub at : {V S : Type 0} → IndexMap WordKey V S → Word → Word → Option V
at table m w = get_by (λ k. bytes_eq m k.module.now && bytes_eq w k.word.now) table

-- the same where a module is named
abbrev pub at_place : {V S : Type 0} → IndexMap WordKey V S → Option Word → Word → Option V
at_place table None w = None
at_place table (Some m) w = at table m w

-- whether a set has a word
abbrev pub has_word : {S : Type 0} → IndexSet (Bor (List ℕ)) S → Word → Bool
has_word words m = contains_by (λ k. bytes_eq m k.now) words

-- what is found, or the fault of a word that is not in scope
abbrev pub found : {X : Type 0} → Option X → Result X F
found (Some t) = Ok t
found None = Err (At Unbound None [])
