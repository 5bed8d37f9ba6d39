-- What the steps of a log keep of a module among its imports.
use Rattle.std.specs.Prelude.{◌≡◌, All, false, true, List}
use Rattle.std.specs.Str.{bytes_eq}
use Rattle.fc_syntax.specs.Tree.{Word}
use Rattle.fc_log.specs.declared.log.Entry.{Entry}
use Rattle.fc_model.specs.Headers.{ndecls_in}
use Rattle.fc_model.specs.Nameless.{NDecl, NModule, NModuleOf}
use Rattle.fc_model.specs.Resolution.{no_word}
use Rattle.fc_model.specs.ResolutionRules.{AreDistinct}
use Rattle.fc_model.specs.Typing.{def_type}
use Rattle.fc_reaching.specs.Numbering.{word_of}
use Rattle.fc_reaching.specs.Reaching.{defined_words}
use Rattle.fc_rows.specs.Dropping.{is_offered}
use Rattle.fc_rows.specs.Replaying.{Replays}
use Rattle.fc_row_types.specs.DefinitionsDropped.{mention_kept}
use Rattle.fc_row_types.specs.LintKept.{LintsWith}

-- the right sides of a module mention no definition of the module of this word
abbrev pub MentionsNothingOf : Word → NModule → Type 0
MentionsNothingOf m x = mention_kept (λ w. false) m (ndecls_in x) ≡ true

-- A module stands among the modules of its imports: it lints with them, the words of its definitions are distinct, none of them has its name, and they
-- mention none of its definitions.
pub record Stands (xs : List NModule) (n : NModule) : Type 0 where
  pub lints : LintsWith xs n
  pub distinct : AreDistinct no_word (defined_words (ndecls_in n))
  pub others : All (λ x. bytes_eq (word_of x) (word_of n) ≡ false) xs
  pub apart : All (MentionsNothingOf (word_of n)) xs

-- the module with other declarations, under the same header
abbrev pub with_declarations : List NDecl → NModule → NModule
with_declarations es (NModuleOf m imports exports hidden ds) = NModuleOf m imports exports hidden es

-- under the same header, with each definition that others may use at its old type
pub record OffersAlike (n k : NModule) : Type 0 where
  pub header : k ≡ with_declarations (ndecls_in k) n
  pub types : (w : Word) → is_offered n w ≡ true → def_type (ndecls_in k) w ≡ def_type (ndecls_in n) w

-- what the steps of a log make of a module that stands among its imports stands among them, and offers what the module did at the same types
abbrev pub ReplaysKeepLint : Type 0
ReplaysKeepLint = (xs : List NModule) (es : List Entry) (n k : NModule) → Stands xs n → Replays xs es n k → Stands xs k × OffersAlike n k
