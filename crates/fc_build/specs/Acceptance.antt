-- When a list of files is accepted, and what its first fault is.
use Rattle.std.specs.Prelude.{◌≡◌, ◌≤◌, ◌⊎◌, ℕ, List, Option, Some, None, length, Err, slice_get}
use Rattle.fc_syntax.specs.Limits.{standard_limits}
use Rattle.fc_syntax.specs.Tree.{Word, Module}
use Rattle.fc_syntax.specs.declared.fault.Fault.{Fault}
use Rattle.fc_syntax.specs.declared.fault.FaultKind.{FaultKind}
use Rattle.fc_syntax.specs.declared.fault.FaultKind.TheVariants as kind
use Rattle.fc_syntax.specs.declared.fault.Place.TheVariants as place
use Rattle.fc_model.specs.Faulting.{At}
use Rattle.fc_model.specs.Linting.{In, SetLints, set_judged}
use Rattle.fc_model.specs.Planning.{PlanFault, build_order, of_file, plan_fault}
use Rattle.fc_load.specs.Answers.{IsAmong}
use Rattle.fc_load.specs.Loading.{AllReadTo, FaultOfReading, Holding, nothing_read}

-- There are no more files than a set may have modules; they hold modules within the limits, of which nothing is wrong with the set as a whole, and
-- every premise of Lint holds of each in the order in which they are built.
pub record Accepted (files : List (List ℕ)) (held : Holding) (ms : List Module) : Type 0 where
  pub few : length files ≤ standard_limits.modules
  pub read : AllReadTo held nothing_read files ms
  pub planned : plan_fault ms ≡ None
  pub lints : SetLints (build_order ms)

-- a premise that fails in a module: the declaration, where it stands in one, and the part numbers on the way to the piece
abbrev pub of_module : Word → FaultKind → Option Word → List ℕ → Fault
of_module m k def path = record { kind = k; «module» = m; def = def; path = place.Parts path }

-- The first fault of modules that were read: what is wrong with the set as a whole; else the first premise of Lint that fails.
pub data FaultOfSet (ms : List Module) (f : Fault) : Type 0 where
  unplanned : (p : PlanFault) → plan_fault ms ≡ Some p → f ≡ of_file p.kind p.name place.Nowhere → FaultOfSet ms f
  unlinted : (m : Word) (k : FaultKind) (def : Option Word) (path : List ℕ) → plan_fault ms ≡ None → set_judged (build_order ms) ≡ Err (In m (At k def path))
      → f ≡ of_module m k def path → FaultOfSet ms f

-- Whatever the names hold, there are no more files than a set may have modules, they hold a module each, and nothing is wrong with the set as a whole.
pub record IsSetOf (files : List (List ℕ)) (ms : List Module) : Type 0 where
  pub few : length files ≤ standard_limits.modules
  pub as_many : length ms ≡ length files
  pub planned : plan_fault ms ≡ None

-- Whatever the names hold, a fault is that of a file too many, or has the name of one of the files, or is one of as many modules as there are files.
pub data IsFaultOfFiles (files : List (List ℕ)) (f : Fault) : Type 0 where
  of_one_too_many : (file : List ℕ) → slice_get files standard_limits.modules ≡ Some file → f ≡ of_file kind.TooManyModules file place.Nowhere → IsFaultOfFiles files f
  of_a_file : length files ≤ standard_limits.modules → IsAmong files f.«module» → IsFaultOfFiles files f
  of_the_set : (ms : List Module) → length files ≤ standard_limits.modules → length ms ≡ length files → FaultOfSet ms f → IsFaultOfFiles files f

-- The first fault of a list of files: a file too many, told before any is read; else the first fault of reading; else the first fault of the modules.
pub data FirstFault (files : List (List ℕ)) (held : Holding) (f : Fault) : Type 0 where
  too_many : (file : List ℕ) → slice_get files standard_limits.modules ≡ Some file → f ≡ of_file kind.TooManyModules file place.Nowhere → FirstFault files held f
  unread : length files ≤ standard_limits.modules → FaultOfReading held f nothing_read files → FirstFault files held f
  faulty : (ms : List Module) → length files ≤ standard_limits.modules → AllReadTo held nothing_read files ms → FaultOfSet ms f → FirstFault files held f

-- Files have an accepted set or a first fault, at most one of each, and never both.
pub record HaveOneAnswer (files : List (List ℕ)) (held : Holding) : Type 0 where
  pub an_answer : ((ms : List Module) × Accepted files held ms) ⊎ ((f : Fault) × FirstFault files held f)
  pub one_set : (ms ns : List Module) → Accepted files held ms → Accepted files held ns → ms ≡ ns
  pub one_fault : (f g : Fault) → FirstFault files held f → FirstFault files held g → f ≡ g
  pub not_both : (ms : List Module) (f : Fault) → Accepted files held ms → FirstFault files held f → ⊥
