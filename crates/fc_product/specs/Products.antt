-- What a build makes of a module of a set.
use Rattle.std.specs.Prelude.{◌≡◌, All, ℕ, List, ◌∷◌}
use Rattle.fc_syntax.specs.Tree.{Word, Module}
use Rattle.fc_syntax.specs.View.{module_of}
use Rattle.fc_formed.specs.FormedTrees.{IsFormedModule}
use Rattle.fc_lattice.specs.View.{as_interface}
use Rattle.fc_log.specs.declared.log.Log.{Log}
use Rattle.fc_model.specs.Formed.{IsFormed}
use Rattle.fc_model.specs.Grammar.{Interface}
use Rattle.fc_model.specs.Nameless.{NModule}
use Rattle.fc_model.specs.NamelessView.{nmodule_of}
use Rattle.fc_model.specs.ResolutionRules.{Resolves}
use Rattle.fc_phases.specs.Optimising.{Optimises}
use Rattle.fc_rows.specs.ResultLimits.{IsWithinLimits}
use Rattle.fc_rows.specs.Telling.{reached_by_imports, told_module}
use Rattle.fc_replayed_sets.specs.Faithful.{CanBeWritten}
use Rattle.fc_replayed_sets.specs.Replays.{IsReplay}
use Rattle.fc_product.specs.Interfaces.{IsInterfaceFor, told_in}
use Rattle.fc_product.specs.declared.making.Product.{Product}

-- Modules can be built among others: it and these are of the text form, it is within the limits on results, and whatever its log, what it leaves can be written.
pub record CanBeBuilt (order : List Word) (before : List NModule) (read : NModule) : Type 0 where
  pub formed : All IsFormedModule (read ∷ before)
  pub within : IsWithinLimits read
  pub writable : (l : Log) (k : NModule) → IsReplay order before l read k → CanBeWritten k

-- A named module with its interface and its log is a replay of one that was read. No shrinking and no commuting row applies to what stands where a simplify phase ends.
pub record IsMade (grow : ℕ) (order : List Word) (before : List NModule) (read : NModule) (m : Module) (i : Interface) (l : Log) : Type 0 where
  pub form : NModule
  pub replay : IsReplay order before l read form
  pub optimised : Optimises (reached_by_imports read before) l.entries read replay.left
  pub resolves : Resolves m form
  pub formed : IsFormed m
  pub tells : IsInterfaceFor grow form m i

-- what the code makes of it, and what later modules are told
pub record IsProduct (grow : ℕ) (order : List Word) (before : List NModule) (read : NModule) (p : Product) : Type 0 where
  pub made : IsMade grow order before read (module_of p.«module») (as_interface p.interface) p.log
  pub told : nmodule_of p.told ≡ told_module (told_in (as_interface p.interface)) made.form
