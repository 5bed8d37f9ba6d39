-- When modules lint as a set, by their nameless forms: where each tells others all that it declares.
use Rattle.std.specs.Prelude.{◌≡◌, All, true, List}
use Rattle.std.specs.List.{list_all}
use Rattle.fc_syntax.specs.Tree.{Module}
use Rattle.fc_model.specs.Declaring.{ndeclared_words}
use Rattle.fc_model.specs.Kinding.{decls_at}
use Rattle.fc_model.specs.Linting.{SetLints}
use Rattle.fc_model.specs.LintingRules.{ModuleHolds}
use Rattle.fc_model.specs.Nameless.{NModule, NModuleOf}
use Rattle.fc_model.specs.Resolution.{no_word, plus_all}
use Rattle.fc_resolved_names.specs.ResolvedNames.{ImportsOthers}
use Rattle.fc_set_rules.specs.FormsDecide.{AllResolve}

-- each word that a module declares is one that it exports or hides, as under the header that is written
abbrev pub TellsAll : NModule → Type 0
TellsAll (NModuleOf m imports exports hidden ds) = list_all (plus_all hidden (plus_all exports no_word)) (ndeclared_words ds) ≡ true

-- Named modules lint as a set, if each has a nameless form that does not import itself, that tells all that it declares, and that holds against all of these forms.
abbrev pub WrittenSetsLint : Type 0
WrittenSetsLint = (ns : List NModule) (ms : List Module) → AllResolve ms ns → All ImportsOthers ns → All TellsAll ns → All (ModuleHolds (decls_at ns)) ns → SetLints ms
