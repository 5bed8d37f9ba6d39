-- Modules of a set and their nameless forms, under the headers that were read and under those that are written.
use Rattle.std.proofs.Common.{◌≡◌, All, List, map, refl}
use Rattle.std.proofs.lemmas.List.Elements.{All-nil, All-cons, All-head, All-tail}
use Rattle.fc_syntax.specs.Tree.{Module}
use Rattle.fc_model.specs.Headers.{name_of}
use Rattle.fc_model.specs.Linting.{SetLints, nameless_forms}
use Rattle.fc_model.specs.Nameless.{NModule}
use Rattle.fc_model.specs.ResolutionRules.{Resolves, resolves_module}
use Rattle.fc_model.proofs.ResolvedModulesAre.{module_is_resolved}
use Rattle.fc_reaching.specs.Numbering.{word_of}
use Rattle.fc_resolved_names.specs.ResolvedNames.{ImportsOthers}
use Rattle.fc_set_rules.specs.FormsDecide.{AllResolve, none_resolve, one_resolves}
use Rattle.fc_set_rules.specs.SetRules.{AllHold, no_modules, one_module}
use Rattle.fc_set_rules.proofs.SetsAre.{all_hold}
use Rattle.fc_replayed_sets.proofs.Ordered.{NamesOthers}

-- MODULES AND THEIR FORMS

all_resolve : {ns ks : List NModule} {ms : List Module} → AllHold ns ms ks → AllResolve ms ks
all_resolve no_modules = none_resolve
all_resolve (one_module holds rest) = one_resolves holds.resolves (all_resolve rest)

-- each module of a set that lints has a nameless form
pub set_resolves : (ms : List Module) → SetLints ms → AllResolve ms (nameless_forms ms)
set_resolves ms lint = all_resolve (all_hold (nameless_forms ms) ms lint)

pub resolved_forms : {ms : List Module} {ns : List NModule} → AllResolve ms ns → nameless_forms ms ≡ ns
resolved_forms none_resolve = refl
resolved_forms (one_resolves resolves rest) = rw (module_is_resolved resolves, resolved_forms rest) refl

-- the nameless form of a module has its name
pub form_name : {m : Module} {n : NModule} → Resolves m n → name_of m ≡ word_of n
form_name (resolves_module rules) = refl

pub form_names : {ms : List Module} {ns : List NModule} → AllResolve ms ns → map name_of ms ≡ map word_of ns
form_names none_resolve = refl
form_names (one_resolves resolves rest) = rw (form_name resolves, form_names rest) refl

-- what each form has of its module
module _ (P : Module → Type 0) (Q : NModule → Type 0) (gives : (m : Module) (n : NModule) → Resolves m n → P m → Q n) where
  pub each_form : {ms : List Module} {ns : List NModule} → AllResolve ms ns → All P ms → All Q ns
  each_form none_resolve all = All-nil Q
  each_form (one_resolves {m = m} {n = n} {ms = ms} {ns = ns} resolves rest) all = All-cons Q n ns (gives m n resolves (All-head P m ms all)) (each_form rest (All-tail P m ms all))

-- its imports are those of the module
form_imports : (m : Module) (n : NModule) → Resolves m n → NamesOthers m → ImportsOthers n
form_imports m n (resolves_module rules) others = others

pub all_import_others : {ms : List Module} {ns : List NModule} → AllResolve ms ns → All NamesOthers ms → All ImportsOthers ns
all_import_others resolve others = each_form NamesOthers ImportsOthers form_imports resolve others
