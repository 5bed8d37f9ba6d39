-- What the judge of a list of files answers.
use Rattle.std.specs.Prelude.{◌≡◌, ◌≤◌, ⊤, ℕ, List, length, map, slice_get, Some, None}
use Rattle.std.specs.List.{All}
use Rattle.fc_files.specs.Outside.{FileMap}
use Rattle.fc_syntax.specs.Limits.{standard_limits}
use Rattle.fc_syntax.specs.Tree.{Module}
use Rattle.fc_syntax.specs.View.{module_of}
use Rattle.fc_model.specs.Formed.{IsFormed}
use Rattle.fc_model.specs.Linting.{SetLints, nameless_forms}
use Rattle.fc_model.specs.NamelessView.{nmodules_of}
use Rattle.fc_model.specs.Planning.{build_order, plan_fault}
use Rattle.fc_load.specs.Loading.{IsWithinReadLimits}
use Rattle.fc_load.specs.Answers.{IsAmong, IsReached}
use Rattle.fc_build.specs.Acceptance.{Accepted, FaultOfSet, FirstFault, IsFaultOfFiles, IsSetOf}
use Rattle.fc_build.specs.declared.judge.Judged.{Judged}
use Rattle.fc_build.specs.declared.judge.Judged.TheVariants as judged
use Rattle.fc_build.specs.declared.judge.Set.{Set}

-- the modules of an accepted set, in the order of the files
abbrev pub modules_in : Set → List Module
modules_in s = map module_of s.modules.items

-- what the answer says of modules that were read
abbrev pub JudgesSet : List Module → Judged → Type 0
JudgesSet ms (judged.Accepted s) = (modules_in s ≡ ms) × (plan_fault ms ≡ None) × SetLints (build_order ms)
JudgesSet ms (judged.Refused f) = FaultOfSet ms f
JudgesSet ms (judged.ReadFault name) = ⊥
JudgesSet ms judged.Memory = ⊤

-- of what the names of a list of files hold
abbrev pub Judges : List (List ℕ) → FileMap → Judged → Type 0
Judges files held (judged.Accepted s) = Accepted files held (modules_in s)
Judges files held (judged.Refused f) = FirstFault files held f
Judges files held (judged.ReadFault name) = IsReached held files name.now
Judges files held judged.Memory = ⊤

-- whatever the names hold
abbrev pub IsOfFiles : List (List ℕ) → Judged → Type 0
IsOfFiles files (judged.Accepted s) = IsSetOf files (modules_in s)
IsOfFiles files (judged.Refused f) = IsFaultOfFiles files f
IsOfFiles files (judged.ReadFault name) = (length files ≤ standard_limits.modules) × IsAmong files name.now
IsOfFiles files judged.Memory = ⊤

-- the modules of a set have words of their forms, are within the limits on what is read, and lint in the order in which they are built
pub record IsReady (ms : List Module) : Type 0 where
  pub formed : All IsFormed ms
  pub within : All IsWithinReadLimits ms
  pub lints : SetLints (build_order ms)

-- an accepted set is ready, its order is the one in which its modules are built, and its nameless forms are those of the modules in that order
pub record IsReadySet (s : Set) : Type 0 where
  pub ready : IsReady (modules_in s)
  pub order : map (slice_get (modules_in s)) s.order ≡ map Some (build_order (modules_in s))
  pub forms : nmodules_of s.forms.items ≡ nameless_forms (build_order (modules_in s))

abbrev pub IsReadyAnswer : Judged → Type 0
IsReadyAnswer (judged.Accepted s) = IsReadySet s
IsReadyAnswer (judged.Refused f) = ⊤
IsReadyAnswer (judged.ReadFault name) = ⊤
IsReadyAnswer judged.Memory = ⊤

-- the read of a file failed
abbrev pub IsReadFault : Judged → Type 0
IsReadFault (judged.Accepted s) = ⊥
IsReadFault (judged.Refused f) = ⊥
IsReadFault (judged.ReadFault name) = ⊤
IsReadFault judged.Memory = ⊥
