-- The words that a binder must not take.
use Rattle.std.specs.Prelude.{Bool, true, false, ◌||◌, is_some}
use Rattle.fc_syntax.specs.Tree.{Word, BValue, BType, BCo}
use Rattle.fc_model.specs.Resolution.{Top, Locals, Found, IsValue, IsJoin, Nowhere, Words, WordSet, found_term, index_of}
use Rattle.fc_model.specs.Worded.{WBinder}
use Rattle.fc_used_words.specs.Standing.{more_types, more_terms, more_coercions}
use Rattle.fc_naming.specs.declared.taken.Space.{Space}
use Rattle.fc_naming.specs.declared.taken.Space.TheVariants as space

-- a value or a join point
abbrev pub is_somewhere : Found → Bool
is_somewhere (IsValue i) = true
is_somewhere (IsJoin i) = true
is_somewhere Nowhere = false

-- every word in scope, and every word of the module's own terms
abbrev pub words_around : Top → Locals → Words
words_around top s = record {
  types = λ w. is_some (index_of s.types w);
  terms = λ w. is_somewhere (found_term s.terms w) || top.terms w;
  coercions = λ w. is_some (index_of s.coercions w);
}

-- THE SPACE OF A BINDER

-- those of a space
abbrev pub words_of : Space → Words → WordSet
words_of space.Types ws = ws.types
words_of space.Terms ws = ws.terms
words_of space.Coercions ws = ws.coercions

-- one more
abbrev pub more_words : Space → Word → Words → Words
more_words space.Types v ws = more_types v ws
more_words space.Terms v ws = more_terms v ws
more_words space.Coercions v ws = more_coercions v ws

-- what a binder binds, and the word that it was read with
abbrev pub space_of : WBinder → Space
space_of (BValue w t) = space.Terms
space_of (BType w k) = space.Types
space_of (BCo w r t u) = space.Coercions

abbrev pub hint_of : WBinder → Word
hint_of (BValue w t) = w
hint_of (BType w k) = w
hint_of (BCo w r t u) = w
