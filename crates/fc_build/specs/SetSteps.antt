-- What is done for an accepted set, by its modules, their order and their nameless forms.
use Rattle.std.specs.Prelude.{◌≡◌, All, ℕ, List, [], ◌∷◌, map, slice_get}
use Rattle.std.specs.List.{filter_map}
use Rattle.fc_formed.specs.FormedTrees.{IsFormedModule}
use Rattle.fc_log.specs.declared.log.Log.{Log}
use Rattle.fc_model.specs.Grammar.{Interface}
use Rattle.fc_model.specs.Nameless.{NModule}
use Rattle.fc_model.specs.NamelessView.{nmodules_of}
use Rattle.fc_product.specs.Interfaces.{told_in}
use Rattle.fc_product.specs.Products.{IsMade}
use Rattle.fc_reaching.specs.Numbering.{word_of}
use Rattle.fc_replayed_sets.specs.Faithful.{CanBeWritten}
use Rattle.fc_replayed_sets.specs.Replays.{AreReplays, TellsAnything}
use Rattle.fc_rows.specs.ResultLimits.{IsWithinLimits}
use Rattle.fc_rows.specs.Telling.{told_module}
use Rattle.fc_syntax.specs.Tree.{Word, Module}
use Rattle.fc_words.specs.Asking.{Order, Building, Explaining, Linting}
use Rattle.fc_build.specs.Judging.{modules_in}
use Rattle.fc_build.specs.Product.{Step, built_step, explained_step, linted_step}
use Rattle.fc_build.specs.declared.judge.Set.{Set}

-- modules can be built, one after the other, behind others: all are of the text form, those to be built are within the limits on results, and whatever logs leave of them can be written
pub record CanBeBuiltInOrder (order : List Word) (before ns : List NModule) : Type 0 where
  pub formed : All IsFormedModule ns
  pub within : All IsWithinLimits ns
  pub told : All IsFormedModule before
  pub writable : (ls : List Log) (ks : List NModule) → AreReplays order TellsAnything before ls ns ks → All CanBeWritten ks

-- what is done with a module that is made, its interface and its log
abbrev pub step_made : Order → Module → Interface → Log → Step
step_made (Building tuning prefix) m i l = built_step prefix m i l
step_made (Explaining tuning) m i l = explained_step l
step_made Linting m i l = linted_step m

-- The steps of modules that are made one after the other; each stands before those behind it, as it is told. Of those before them the last built comes first.
pub data AreStepsMade (asked : Order) (grow : ℕ) (order : List Word) : List NModule → List NModule → List Step → Type 0 where
  none_made : {before : List NModule} → AreStepsMade asked grow order before [] []
  one_made : {before : List NModule} {n : NModule} {ns : List NModule} {m : Module} {i : Interface} {l : Log} {s : Step} {steps : List Step} → (is : IsMade grow order before n m i l)
      → s ≡ step_made asked m i l → AreStepsMade asked grow order (told_module (told_in i) is.form ∷ before) ns steps → AreStepsMade asked grow order before (n ∷ ns) (s ∷ steps)

-- those of all modules of these nameless forms
abbrev pub AllAreMade : Order → ℕ → List NModule → List Step → Type 0
AllAreMade asked grow ns steps = AreStepsMade asked grow (map word_of ns) [] ns steps

-- the steps that an order asks for
abbrev pub AreStepsOf : Order → Set → List Step → Type 0
AreStepsOf (Building tuning prefix) set steps = AllAreMade (Building tuning prefix) tuning.grow (nmodules_of set.forms.items) steps
AreStepsOf (Explaining tuning) set steps = AllAreMade (Explaining tuning) tuning.grow (nmodules_of set.forms.items) steps
AreStepsOf Linting set steps = steps ≡ map linted_step (filter_map (slice_get (modules_in set)) set.order)
