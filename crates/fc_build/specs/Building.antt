-- What a build does for an accepted set, and what stands after it.
use Rattle.std.specs.Prelude.{◌≡◌, ⊤, ℕ, List, [], ◌∷◌, map, Option, Some}
use Rattle.std.specs.List.{All}
use Rattle.fc_files.specs.Outside.{FileMap, Told}
use Rattle.fc_syntax.specs.Tree.{Module}
use Rattle.fc_model.specs.Canonical.{canonical}
use Rattle.fc_model.specs.Grammar.{Interface}
use Rattle.fc_model.specs.Headers.{name_of}
use Rattle.fc_model.specs.InterfaceTexts.{interface_text}
use Rattle.fc_model.specs.Linting.{nameless_forms}
use Rattle.fc_model.specs.Nameless.{NModule}
use Rattle.fc_model.specs.Texts.{Spells, SpellsInterface}
use Rattle.fc_log.specs.Texts.{SpellsLog, log_text}
use Rattle.fc_log.specs.declared.log.Log.{Log}
use Rattle.fc_product.specs.Interfaces.{IsInterfaceFor, TellsInterface}
use Rattle.fc_replayed_sets.specs.Faithful.{AreFaithful}
use Rattle.fc_replayed_sets.specs.Replays.{AreOptimised, AreReplays, NoneIsLarger, Telling}
use Rattle.fc_words.specs.Asking.{Order, Building, Explaining, Linting}
use Rattle.fc_words.specs.declared.Tuning.{Tuning}
use Rattle.fc_build.specs.Product.{Step, built_step, core_name, explained_step, interface_name, linted_step, log_name}

-- WHAT IS WRITTEN

-- This is the step of a build for a module that has this nameless form and this log: its files are the canonical texts of the module, of its interface and of
-- the log, which spell these.
pub record IsBuilt (tuning : Tuning) (prefix : List ℕ) (form : NModule) (log : Log) (m : Module) (s : Step) : Type 0 where
  pub interface : Interface
  pub tells : IsInterfaceFor tuning.grow form m interface
  pub core_spells : Spells (canonical m) m
  pub interface_spells : SpellsInterface (interface_text interface) interface
  pub log_spells : SpellsLog (log_text log) log
  pub is : s ≡ built_step prefix m interface log

-- the steps of a build of modules, one after the other, each with its nameless form and its log
pub data AreBuilt (tuning : Tuning) (prefix : List ℕ) : List NModule → List Log → List Module → List Step → Type 0 where
  none_built : AreBuilt tuning prefix [] [] [] []
  one_built : {form : NModule} {l : Log} {m : Module} {s : Step} {forms : List NModule} {ls : List Log} {ms : List Module} {steps : List Step} → IsBuilt tuning prefix form l m s
      → AreBuilt tuning prefix forms ls ms steps → AreBuilt tuning prefix (form ∷ forms) (l ∷ ls) (m ∷ ms) (s ∷ steps)

-- What comes of modules that were read, in the order in which they are built: there are logs, and modules that are their replays, optimised, no larger than what was read, and faithful
-- to it.
pub record Outcome (Tells : Telling) (read : List Module) : Type 0 where
  pub written : List Module
  pub logs : List Log
  pub replayed : AreReplays (map name_of read) Tells [] logs (nameless_forms read) (nameless_forms written)
  pub optimised : AreOptimised replayed
  pub no_larger : NoneIsLarger (nameless_forms read) (nameless_forms written)
  pub faithful : AreFaithful read written

-- a build writes these modules, their interfaces and the logs; later modules are told what the interfaces tell
pub record IsBuild (tuning : Tuning) (prefix : List ℕ) (read : List Module) (steps : List Step) : Type 0 where
  pub outcome : Outcome (TellsInterface tuning.grow) read
  pub are : AreBuilt tuning prefix (nameless_forms outcome.written) outcome.logs outcome.written steps

-- an explanation puts the texts of the logs of a build, which spell these
pub record IsExplanation (tuning : Tuning) (read : List Module) (steps : List Step) : Type 0 where
  pub outcome : Outcome (TellsInterface tuning.grow) read
  pub spell : All (λ l. SpellsLog (log_text l) l) outcome.logs
  pub are : steps ≡ map explained_step outcome.logs

-- the steps that an order asks for, of modules in the order in which they are built
abbrev pub AreSteps : Order → List Module → List Step → Type 0
AreSteps (Building tuning prefix) ms steps = IsBuild tuning prefix ms steps
AreSteps (Explaining tuning) ms steps = IsExplanation tuning ms steps
AreSteps Linting ms steps = steps ≡ map linted_step ms

-- the orders that only read files
abbrev pub IsReading : Order → Type 0
IsReading (Building tuning prefix) = ⊥
IsReading (Explaining tuning) = ⊤
IsReading Linting = ⊤

-- WHAT STANDS

-- names hold the canonical texts of modules, one after the other, which spell these
pub data HoldModules : List (Option (List ℕ)) → List Module → Type 0 where
  no_modules : HoldModules [] []
  one_module : {entries : List (Option (List ℕ))} {m : Module} {ms : List Module} → Spells (canonical m) m → HoldModules entries ms
      → HoldModules (Some (canonical m) ∷ entries) (m ∷ ms)

-- names hold the texts of interfaces of modules, one after the other, which spell these
pub data HoldInterfaces (grow : ℕ) : List (Option (List ℕ)) → List NModule → List Module → Type 0 where
  no_interfaces : HoldInterfaces grow [] [] []
  one_interface : {entries : List (Option (List ℕ))} {form : NModule} {forms : List NModule} {m : Module} {ms : List Module} (i : Interface)
      → IsInterfaceFor grow form m i → SpellsInterface (interface_text i) i → HoldInterfaces grow entries forms ms
      → HoldInterfaces grow (Some (interface_text i) ∷ entries) (form ∷ forms) (m ∷ ms)

-- names hold the texts of logs, one after the other, which spell these
pub data HoldLogs : List (Option (List ℕ)) → List Log → Type 0 where
  no_logs : HoldLogs [] []
  one_log : {entries : List (Option (List ℕ))} {l : Log} {ls : List Log} → SpellsLog (log_text l) l → HoldLogs entries ls → HoldLogs (Some (log_text l) ∷ entries) (l ∷ ls)

-- after a build, the names of the cores hold the modules written, those of the interfaces their interfaces, and those of the logs the logs
pub record Stand (tuning : Tuning) (prefix : List ℕ) (written : List Module) (told : List Log) (files : FileMap) : Type 0 where
  pub cores : HoldModules (map (λ w. files (core_name prefix w)) written) written
  pub interfaces : HoldInterfaces tuning.grow (map (λ w. files (interface_name prefix w)) written) (nameless_forms written) written
  pub logs : HoldLogs (map (λ w. files (log_name prefix w)) written) told

-- what is left when all steps are done; an explanation and Lint leave the files as they were
abbrev pub Leaves : (order : Order) (read : List Module) (steps : List Step) → AreSteps order read steps → Option FileMap → Option FileMap → Type 0
Leaves (Building tuning prefix) read steps are held held' = Told held held' (λ m m'. Stand tuning prefix are.outcome.written are.outcome.logs m')
Leaves (Explaining tuning) read steps are held held' = held' ≡ held
Leaves Linting read steps are held held' = held' ≡ held
