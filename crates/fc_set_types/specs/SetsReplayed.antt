-- The modules of a set, in build order, replayed one after the other among what is told of those before.
use Rattle.std.specs.Prelude.{◌≡◌, All, Bool, true, false, ◌&&◌, ◌||◌, if◌then◌else◌, List, [], ◌∷◌, map, Option, Some, None}
use Rattle.std.specs.List.{list_all}
use Rattle.std.specs.Str.{bytes_eq}
use Rattle.fc_syntax.specs.declared.ty.Name.{Name}
use Rattle.fc_syntax.specs.Tree.{Word}
use Rattle.fc_log.specs.declared.log.Entry.{Entry}
use Rattle.fc_model.specs.Declaring.{ndeclared_words}
use Rattle.fc_model.specs.Headers.{ndecls_in}
use Rattle.fc_model.specs.Kinding.{decls_at}
use Rattle.fc_model.specs.LintingRules.{ModuleHolds}
use Rattle.fc_model.specs.Nameless.{NDecl, NData, NNew, NFamily, NAxiom, NDef, NWrap, NModule, NModuleOf}
use Rattle.fc_model.specs.Planning.{is_among}
use Rattle.fc_model.specs.Resolution.{no_word, plus_all}
use Rattle.fc_model.specs.ResolutionRules.{AreDistinct}
use Rattle.fc_model.specs.TypingLaws.{HasDistinctTypes}
use Rattle.fc_headers.specs.NamelessHeaders.{form_written_among, modules_in_decls}
use Rattle.fc_reaching.specs.Numbering.{word_of}
use Rattle.fc_reaching.specs.Reaching.{defined_words}
use Rattle.fc_rows.specs.Dropping.{is_offered}
use Rattle.fc_rows.specs.Replaying.{Replays}
use Rattle.fc_rows.specs.Telling.{reached_by_imports, told_module}
use Rattle.fc_replay_types.specs.ReplaysKept.{OffersAlike, Stands}
use Rattle.fc_views.specs.Views.{names_in_decls}

-- WHAT IS READ

-- a module of these has this name
abbrev pub is_one_of : List NModule → Word → Bool
is_one_of xs w = is_among (map word_of xs) w

abbrev pub is_import : NModule → Word → Bool
is_import (NModuleOf m imports exports hidden ds) w = is_among imports w

-- what a module may mention: itself, and of the modules before it those that it imports
abbrev pub may_mention : List NModule → NModule → Word → Bool
may_mention before n w = bytes_eq (word_of n) w || (is_import n w && is_one_of before w)

-- the first of these modules that has this name offers the word
abbrev pub is_offered_by : List NModule → Word → Word → Bool
is_offered_by [] m w = false
is_offered_by (x ∷ xs) m w = if bytes_eq (word_of x) m then is_offered x w else is_offered_by xs m w

-- the definitions that the right sides of a module may mention: its own, and those that modules before it offer
abbrev pub may_use_of : List NModule → Word → Option Word → Word → Bool
may_use_of before own None w = true
may_use_of before own (Some m) w = bytes_eq own m || is_offered_by before m w

abbrev pub may_use : List NModule → NModule → Name → Bool
may_use before n x = may_use_of before (word_of n) x.module x.text

-- A module lints in its set, behind the modules before it. Of these the last built comes first. That it holds against all is Lint of the set. That
-- its words are distinct, and that it mentions itself and its imports alone, and of these what they offer, is from the resolution of its names. That its
-- name is new, and that its imports are before it, is from the build order.
pub record LintsBehind (all before : List NModule) (n : NModule) : Type 0 where
  pub holds : ModuleHolds (decls_at all) n
  pub types : HasDistinctTypes n
  pub definitions : AreDistinct no_word (defined_words (ndecls_in n))
  pub new : is_one_of before (word_of n) ≡ false
  pub mentions : list_all (may_mention before n) (modules_in_decls (ndecls_in n)) ≡ true
  pub uses : list_all (may_use before n) (names_in_decls (ndecls_in n)) ≡ true

-- so do all of these, each behind those before it
pub data LintInOrder (all : List NModule) : List NModule → List NModule → Type 0 where
  none_lint : {before : List NModule} → LintInOrder all before []
  one_lints : {before : List NModule} {n : NModule} {ns : List NModule} → LintsBehind all before n → LintInOrder all (n ∷ before) ns → LintInOrder all before (n ∷ ns)

-- WHAT IS MADE OF IT

-- A module under a header of its own or under another, as it is written: it imports what it did, and otherwise what it mentions, and hides what it did, or
-- what it declares.
pub data IsHeadedFrom : NModule → NModule → Type 0 where
  headed : {m : Word} {imports exports hidden further more : List Word} {ds : List NDecl} → list_all (is_among further) imports ≡ true
      → list_all (λ w. is_among imports w || is_among (modules_in_decls ds) w) further ≡ true
      → list_all (λ w. is_among hidden w || plus_all (ndeclared_words ds) no_word w) more ≡ true
      → IsHeadedFrom (NModuleOf m imports exports hidden ds) (NModuleOf m further exports more ds)

-- Modules are what logs leave of others, each headed anew, one after the other, each among what is told of those before it that its imports reach. Truth values
-- say which of its right sides are told then. Of those before it the last built comes first.
pub data ReplayedInOrder : List NModule → List (List Entry) → List NModule → List NModule → Type 0 where
  none_replayed : {before : List NModule} → ReplayedInOrder before [] [] []
  one_replayed : {before : List NModule} {es : List Entry} {n left k : NModule} {rest : List (List Entry)} {ns ks : List NModule} (told : List Bool)
      → Replays (reached_by_imports n before) es n left → IsHeadedFrom left k → ReplayedInOrder (told_module told k ∷ before) rest ns ks
      → ReplayedInOrder before (es ∷ rest) (n ∷ ns) (k ∷ ks)

-- its declarations of types: data types, newtypes, families and axioms
abbrev pub type_declarations : List NDecl → List NDecl
type_declarations [] = []
type_declarations (NData n ps cs ∷ ds) = NData n ps cs ∷ type_declarations ds
type_declarations (NNew n ps t con ∷ ds) = NNew n ps t con ∷ type_declarations ds
type_declarations (NFamily n ps k ∷ ds) = NFamily n ps k ∷ type_declarations ds
type_declarations (NAxiom n ps t u ∷ ds) = NAxiom n ps t u ∷ type_declarations ds
type_declarations (NDef n t e ∷ ds) = type_declarations ds
type_declarations (NWrap n t e ∷ ds) = type_declarations ds

-- A module stands among what it is replayed among, and so does what is left of it, which offers what the module did at the same types, and has the same
-- declarations of types.
pub record IsKept (xs : List NModule) (n k : NModule) : Type 0 where
  pub stood : Stands xs n
  pub stands : Stands xs k
  pub offers : OffersAlike n k
  pub declares : type_declarations (ndecls_in k) ≡ type_declarations (ndecls_in n)

-- so it is for each of the modules of a set
abbrev pub AreKept : {before : List NModule} {es : List (List Entry)} {ns ks : List NModule} → ReplayedInOrder before es ns ks → Type 0
AreKept none_replayed = Unit {0}
AreKept (one_replayed {before = before} {n = n} {left = left} told replays heads rest) = IsKept (reached_by_imports n before) n left × AreKept rest

-- THE LAWS

-- modules that lint in order are kept, and those that are written hold against all that are written
abbrev pub ReplayedSetsKeepLint : Type 0
ReplayedSetsKeepLint = (es : List (List Entry)) (ns ks : List NModule) → LintInOrder ns [] ns → (replayed : ReplayedInOrder [] es ns ks)
    → AreKept replayed × All (ModuleHolds (decls_at ks)) ks

-- a module is headed from itself
abbrev pub TheSameAreHeaded : Type 0
TheSameAreHeaded = (n : NModule) → IsHeadedFrom n n

-- so is the form that is written of it, among modules of any names
abbrev pub WrittenAreHeaded : Type 0
WrittenAreHeaded = (order : List Word) (n : NModule) → IsHeadedFrom n (form_written_among order n)
