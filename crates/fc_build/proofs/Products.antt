-- What is done for the modules of an accepted set is a build of them, in the order in which they are built.
use Rattle.std.proofs.Common.{◌≡◌, ◌∙◌, ℕ, All, List, [], ◌∷◌, map, refl, sym, ap, subst}
use Rattle.std.proofs.lemmas.List.Elements.{All-cons, All-nil}
use Rattle.fc_syntax.specs.Tree.{Word, Module}
use Rattle.fc_formed.specs.FormedTrees.{IsFormedModule}
use Rattle.fc_iface.proofs.ReadInterface.{interface_spells}
use Rattle.fc_log.specs.Texts.{SpellsLog, log_text}
use Rattle.fc_log.specs.declared.log.Log.{Log}
use Rattle.fc_log.proofs.ReadBack.{reads_back}
use Rattle.fc_model.specs.Formed.{IsFormed, IsInterfaceFormed}
use Rattle.fc_model.specs.Grammar.{Interface}
use Rattle.fc_model.specs.Headers.{name_of}
use Rattle.fc_model.specs.Linting.{SetLints, nameless_forms}
use Rattle.fc_model.specs.Nameless.{NModule}
use Rattle.fc_model.specs.NamelessView.{nmodules_of}
use Rattle.fc_load.specs.Loading.{IsWithinReadLimits}
use Rattle.fc_model.specs.Planning.{build_order}
use Rattle.fc_model.specs.ResolutionRules.{Resolves}
use Rattle.fc_printer.proofs.ReadBack.{canonical_spells}
use Rattle.fc_product.specs.Interfaces.{TellsInterface, told_in}
use Rattle.fc_product.specs.Products.{IsMade}
use Rattle.fc_reaching.specs.Numbering.{word_of}
use Rattle.fc_replayed_sets.specs.Replays.{AreOptimised, AreReplays, Telling, TellsAnything, no_replays, one_replay}
use Rattle.fc_replayed_sets.proofs.Forms.{each_form, form_names, resolved_forms, set_resolves}
use Rattle.fc_replayed_sets.proofs.Ordered.{order_keeps, picked}
use Rattle.fc_replayed_sets.proofs.NoneLarger.{none_is_larger}
use Rattle.fc_replayed_sets.proofs.ReplayedSets.{read_are_formed, replayed_sets_are_faithful, replays_can_be_written}
use Rattle.fc_resolved_sizes.proofs.WithinLimits.{read_are_within_limits}
use Rattle.fc_rows.specs.ResultLimits.{IsWithinLimits}
use Rattle.fc_rows.specs.Telling.{told_module}
use Rattle.fc_set_rules.specs.FormsDecide.{AllResolve, none_resolve, one_resolves}
use Rattle.fc_words.specs.declared.Tuning.{Tuning}
use Rattle.fc_words.specs.Asking.{Order, Building, Explaining, Linting}
use Rattle.fc_build.specs.Building.{AreBuilt, AreSteps, IsBuilt, Outcome, none_built, one_built}
use Rattle.fc_build.specs.Judging.{IsReadySet, modules_in}
use Rattle.fc_build.specs.Product.{Step, built_step, explained_step, linted_step}
use Rattle.fc_build.specs.SetSteps.{AllAreMade, AreStepsMade, AreStepsOf, CanBeBuiltInOrder, none_made, one_made}
use Rattle.fc_build.specs.declared.judge.Set.{Set}
use Rattle.fc_build.proofs.InterfacesWritten.{written_is_formed}

-- WHAT IS WRITTEN OF A MODULE

module _ (tuning : Tuning) (prefix : List ℕ) (order : List Word) where
  made_is_built : {before : List NModule} {n : NModule} {m : Module} {i : Interface} {l : Log} {s : Step} → (is : IsMade tuning.grow order before n m i l) → s ≡ built_step prefix m i l
      → IsBuilt tuning prefix is.form l m s
  made_is_built {m = m} {i = i} {l = l} is step = record {
    interface = i;
    tells = is.tells;
    core_spells = canonical_spells m is.formed;
    interface_spells = interface_spells i (subst IsInterfaceFormed (sym is.tells.is) (written_is_formed tuning.grow is.tells.recursive m is.formed));
    log_spells = reads_back l is.replay.formed;
    is = step;
  }

tells_interface : {grow : ℕ} {order : List Word} {before : List NModule} {n : NModule} {m : Module} {i : Interface} {l : Log} → (is : IsMade grow order before n m i l)
    → TellsInterface grow is.form (told_in i)
tells_interface {m = m} {i = i} is = record { of_module = m; resolves = is.resolves; interface = i; tells = is.tells; is = refl }

-- MODULES THAT ARE MADE

-- modules that are made, with their forms and their logs
record Made (grow : ℕ) (order : List Word) (before ns : List NModule) : Type 0 where
  modules : List Module
  forms : List NModule
  logs : List Log
  resolve : AllResolve modules forms
  replays : AreReplays order (TellsInterface grow) before logs ns forms
  optimised : AreOptimised replays

nothing_made : (grow : ℕ) (order : List Word) (before : List NModule) → Made grow order before []
nothing_made grow order before = record { modules = []; forms = []; logs = []; resolve = none_resolve; replays = no_replays; optimised = tt }

one_more_made : {grow : ℕ} {order : List Word} {before : List NModule} {n : NModule} {ns : List NModule} {m : Module} {i : Interface} {l : Log} → (is : IsMade grow order before n m i l)
    → Made grow order (told_module (told_in i) is.form ∷ before) ns → Made grow order before (n ∷ ns)
one_more_made {m = m} {i = i} {l = l} is rest = record {
  modules = m ∷ rest.modules;
  forms = is.form ∷ rest.forms;
  logs = l ∷ rest.logs;
  resolve = one_resolves is.resolves rest.resolve;
  replays = one_replay (told_in i) is.replay (tells_interface is) rest.replays;
  optimised = (is.optimised, rest.optimised);
}

all_made : {asked : Order} {grow : ℕ} {order : List Word} {before ns : List NModule} {steps : List Step} → AreStepsMade asked grow order before ns steps → Made grow order before ns
all_made {grow = grow} {order = order} {before = before} none_made = nothing_made grow order before
all_made (one_made is step rest) = one_more_made is (all_made rest)

-- the steps of a build of them
all_built : (tuning : Tuning) (prefix : List ℕ) {order : List Word} {before ns : List NModule} {steps : List Step} → (made : AreStepsMade (Building tuning prefix) tuning.grow order before ns steps)
    → AreBuilt tuning prefix (all_made made).forms (all_made made).logs (all_made made).modules steps
unfolding all_made nothing_made one_more_made
all_built tuning prefix none_made = none_built
all_built tuning prefix {order = order} (one_made is step rest) = one_built (made_is_built tuning prefix order is step) (all_built tuning prefix rest)

-- and those of an explanation
all_spell : (tuning : Tuning) {order : List Word} {before ns : List NModule} {steps : List Step} → (made : AreStepsMade (Explaining tuning) tuning.grow order before ns steps)
    → All (λ l. SpellsLog (log_text l) l) (all_made made).logs
unfolding all_made nothing_made one_more_made
all_spell tuning none_made = All-nil (λ l. SpellsLog (log_text l) l)
all_spell tuning (one_made {l = l} is step rest) = All-cons (λ l. SpellsLog (log_text l) l) l (all_made rest).logs (reads_back l is.replay.formed) (all_spell tuning rest)

all_explained : (tuning : Tuning) {order : List Word} {before ns : List NModule} {steps : List Step} → (made : AreStepsMade (Explaining tuning) tuning.grow order before ns steps)
    → steps ≡ map explained_step (all_made made).logs
unfolding all_made nothing_made one_more_made
all_explained tuning none_made = refl
all_explained tuning (one_made {l = l} is step rest) = rw (step, all_explained tuning rest) refl

-- WHAT COMES OF A SET

tell_anything : {order : List Word} {Tells : Telling} {before : List NModule} {ls : List Log} {ns ks : List NModule} → AreReplays order Tells before ls ns ks → AreReplays order TellsAnything before ls ns ks
tell_anything no_replays = no_replays
tell_anything (one_replay told is tells rest) = one_replay told is tt (tell_anything rest)

outcome : (grow : ℕ) (ms : List Module) → SetLints (build_order ms) → All IsFormed (build_order ms) → Made grow (map name_of (build_order ms)) [] (nameless_forms (build_order ms))
    → Outcome (TellsInterface grow) (build_order ms)
outcome grow ms lint formed made =
    let read = nameless_forms (build_order ms) in
    let order = map name_of (build_order ms) in
    let both = subst (λ fs. (r : AreReplays order (TellsInterface grow) [] made.logs read fs) × AreOptimised r) (sym (resolved_forms made.resolve)) (made.replays, made.optimised) in
    record {
      written = made.modules;
      logs = made.logs;
      replayed = both.0;
      optimised = both.1;
      no_larger = none_is_larger both.0;
      faithful = replayed_sets_are_faithful ms lint formed made.logs made.forms (tell_anything made.replays) made.modules made.resolve;
    }

-- the names of a set
names_read : (set : Set) → IsReadySet set → map word_of (nmodules_of set.forms.items) ≡ map name_of (build_order (modules_in set))
names_read set ready = ap (map word_of) ready.forms ∙ sym (form_names (set_resolves (build_order (modules_in set)) ready.ready.lints))

made_of_set : (asked : Order) (grow : ℕ) (set : Set) (steps : List Step) → IsReadySet set → AllAreMade asked grow (nmodules_of set.forms.items) steps
    → AreStepsMade asked grow (map name_of (build_order (modules_in set))) [] (nameless_forms (build_order (modules_in set))) steps
made_of_set asked grow set steps ready are =
    subst (λ ns. AreStepsMade asked grow (map name_of (build_order (modules_in set))) [] ns steps) ready.forms
    (subst (λ order. AreStepsMade asked grow order [] (nmodules_of set.forms.items) steps) (names_read set ready) are)

-- what is read is within the limits on results
read_is_within : (m : Module) (n : NModule) → Resolves m n → IsWithinReadLimits m → IsWithinLimits n
read_is_within m n resolves within = read_are_within_limits m n within.shallow within.small resolves

-- all modules of a set that is ready can be built
pub set_can_be_built : (set : Set) → IsReadySet set → CanBeBuiltInOrder (map word_of (nmodules_of set.forms.items)) [] (nmodules_of set.forms.items)
set_can_be_built set ready =
    let ms = modules_in set in
    let formed = order_keeps IsFormed ms ready.ready.formed in
    let forms : CanBeBuiltInOrder (map name_of (build_order ms)) [] (nameless_forms (build_order ms)) = record {
      formed = read_are_formed (build_order ms) ready.ready.lints formed;
      within = each_form IsWithinReadLimits IsWithinLimits read_is_within (set_resolves (build_order ms) ready.ready.lints) (order_keeps IsWithinReadLimits ms ready.ready.within);
      told = All-nil IsFormedModule;
      writable = replays_can_be_written ms ready.ready.lints formed;
    } in
    subst (λ order. CanBeBuiltInOrder order [] (nmodules_of set.forms.items)) (sym (names_read set ready))
    (subst (CanBeBuiltInOrder (map name_of (build_order ms)) []) (sym ready.forms) forms)

pub steps_are : (order : Order) (set : Set) (steps : List Step) → IsReadySet set → AreStepsOf order set steps → AreSteps order (build_order (modules_in set)) steps
unfolding outcome
steps_are (Building tuning prefix) set steps ready are =
    let ms = modules_in set in
    let made = made_of_set (Building tuning prefix) tuning.grow set steps ready are in
    let all = all_made made in record {
      outcome = outcome tuning.grow ms ready.ready.lints (order_keeps IsFormed ms ready.ready.formed) all;
      are = subst (λ fs. AreBuilt tuning prefix fs all.logs all.modules steps) (sym (resolved_forms all.resolve)) (all_built tuning prefix made);
    }
steps_are (Explaining tuning) set steps ready are =
    let ms = modules_in set in
    let made = made_of_set (Explaining tuning) tuning.grow set steps ready are in record {
      outcome = outcome tuning.grow ms ready.ready.lints (order_keeps IsFormed ms ready.ready.formed) (all_made made);
      spell = all_spell tuning made;
      are = all_explained tuning made;
    }
steps_are Linting set steps ready is = is ∙ ap (map linted_step) (picked (modules_in set) set.order (build_order (modules_in set)) ready.order)
