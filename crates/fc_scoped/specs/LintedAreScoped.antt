-- What lints is scoped.
use Rattle.std.specs.Prelude.{◌≡◌, true, List}
use Rattle.std.specs.List.{list_all}
use Rattle.fc_model.specs.Declaring.{ncoercion_words, nterm_words, ntype_words, nwords_by}
use Rattle.fc_model.specs.Kinding.{decls_at, decls_of_module}
use Rattle.fc_model.specs.LintingRules.{ModuleHolds}
use Rattle.fc_model.specs.Nameless.{NModule, NModuleOf}
use Rattle.fc_model.specs.Resolution.{no_word, plus, plus_all}
use Rattle.fc_model.specs.ResolutionRules.{AreDistinct}
use Rattle.fc_headers.specs.NamelessHeaders.{modules_in_decls}
use Rattle.fc_used_words.specs.Scoped.{IsScoped}

-- the words that a module declares in each space are distinct
abbrev pub HasDistinctWords : NModule → Type 0
HasDistinctWords (NModuleOf m imports exports hidden ds) =
    AreDistinct no_word (nwords_by ntype_words ds) × AreDistinct no_word (nwords_by nterm_words ds) × AreDistinct no_word (nwords_by ncoercion_words ds)

-- a module mentions itself and modules that it imports, and no other
abbrev pub ImportsWhatItMentions : NModule → Type 0
ImportsWhatItMentions (NModuleOf m imports exports hidden ds) = list_all (plus_all imports (plus m no_word)) (modules_in_decls ds) ≡ true

-- the module is the one of its name in a set
abbrev pub IsAmong : List NModule → NModule → Type 0
IsAmong ns (NModuleOf m imports exports hidden ds) = decls_of_module ns m ≡ ds

abbrev pub LintedAreScoped : Type 0
LintedAreScoped = (ns : List NModule) (n : NModule) → IsAmong ns n → HasDistinctWords n → ImportsWhatItMentions n → ModuleHolds (decls_at ns) n → IsScoped n
