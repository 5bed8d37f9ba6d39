-- Definitions by their numbers among the declarations of a module.
use Rattle.std.specs.Prelude.{◌≡◌, ℕ, ◌+◌, Bool, false, map, List, [], ◌∷◌, ◌++◌, Option, Some, None, if◌then◌else◌}
use Rattle.std.specs.List.{filter, filter_map}
use Rattle.std.specs.Option.{option_map_or}
use Rattle.std.specs.Str.{bytes_eq}
use Rattle.indexmap.specs.IndexMap.{IndexMap, get_by}
use Rattle.fc_syntax.specs.declared.ty.Name.{Name}
use Rattle.fc_syntax.specs.Tree.{Word}
use Rattle.fc_model.specs.Kinding.{same_word}
use Rattle.fc_model.specs.Nameless.{NDecl, NData, NNew, NFamily, NAxiom, NDef, NWrap, NModule, NModuleOf}
use Rattle.fc_graph.specs.Graphs.{AreMarked, is_marked}
use Rattle.fc_reaching.specs.Reaching.{decls_in, defined_words, names_in}
use denote.Ref.{Bor}

-- what a table has at a word
abbrev pub at : {V S : Type 0} → IndexMap (Bor (List ℕ)) V S → Word → Option V
at table w = get_by (λ k. bytes_eq w k.now) table

-- the number of the first definition of a word among declarations, of which the first has the number k
abbrev pub number_from : ℕ → List NDecl → Word → Option ℕ
number_from k [] w = None
number_from k (NData n ps cs ∷ ds) w = number_from (k + 1) ds w
number_from k (NNew n ps t con ∷ ds) w = number_from (k + 1) ds w
number_from k (NFamily n ps j ∷ ds) w = number_from (k + 1) ds w
number_from k (NAxiom n ps t u ∷ ds) w = number_from (k + 1) ds w
number_from k (NDef n t e ∷ ds) w = if bytes_eq n w then Some k else number_from (k + 1) ds w
number_from k (NWrap n t e ∷ ds) w = if bytes_eq n w then Some k else number_from (k + 1) ds w

-- the number of the definition that a name means to a module of this word
abbrev pub number_meant : Word → (Word → Option ℕ) → Name → Option ℕ
number_meant own number n = if same_word (Some own) n.module then number n.text else None

-- the word of a module
abbrev pub word_of : NModule → Word
word_of (NModuleOf w imports exports hidden ds) = w

-- the numbers of a module's definitions by their words
abbrev pub number_in : NModule → Word → Option ℕ
number_in m = number_from 0 (decls_in m)

-- the number of the definition that a name means to a module
abbrev pub meant_in : NModule → Name → Option ℕ
meant_in m = number_meant (word_of m) (number_in m)

-- the numbers of the definitions that names mean stand behind those that were there
pub record AddsNames (meant : Name → Option ℕ) (names : List Name) (old new : List ℕ) : Type 0 where
  pub added : new ≡ old ++ filter_map meant names

-- the names that the right side of a declaration mentions
abbrev pub names_of_decl : NDecl → List Name
names_of_decl (NData n ps cs) = []
names_of_decl (NNew n ps t con) = []
names_of_decl (NFamily n ps k) = []
names_of_decl (NAxiom n ps t u) = []
names_of_decl (NDef n t e) = names_in e
names_of_decl (NWrap n t e) = names_in e

-- for each declaration the numbers of the definitions that its right side mentions
abbrev pub mention_graph : (Name → Option ℕ) → List NDecl → List (List ℕ)
mention_graph meant ds = map (λ d. filter_map meant (names_of_decl d)) ds

-- the definition of a word is marked
abbrev pub has_mark : (Word → Option ℕ) → List Bool → Word → Bool
has_mark number marks w = option_map_or (is_marked marks) (number w) false

-- the words of the definitions of which some are marked: those that the definition of a number leads to
pub record AreFound (meant : Name → Option ℕ) (number : Word → Option ℕ) (ds : List NDecl) (from : ℕ) (ws : List Word) : Type 0 where
  pub marks : List Bool
  pub marked : AreMarked (mention_graph meant ds) from marks
  pub words : ws ≡ filter (has_mark number marks) (defined_words ds)
