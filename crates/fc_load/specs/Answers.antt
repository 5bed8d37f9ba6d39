-- What the reading of files answers.
use Rattle.std.specs.Prelude.{◌≡◌, ⊤, ℕ, List, ◌∷◌, ◌++◌, Some, length, map, slice_get}
use Rattle.std.specs.List.{All}
use Rattle.fc_files.specs.Outside.{FileMap}
use Rattle.fc_syntax.specs.Tree.{Module}
use Rattle.fc_syntax.specs.View.{module_of}
use Rattle.fc_model.specs.Formed.{IsFormed}
use Rattle.fc_load.specs.Loading.{AllReadTo, FaultOfReading, IsWithinReadLimits, nothing_read}
use Rattle.fc_load.specs.declared.loading.Loaded.{Loaded}
use Rattle.fc_load.specs.declared.loading.Loaded.TheVariants as loaded

-- the files before this one hold modules, behind what has been read
pub record IsReached (held : FileMap) (files : List (List ℕ)) (name : List ℕ) : Type 0 where
  pub before : List (List ℕ)
  pub rest : List (List ℕ)
  pub is : files ≡ before ++ (name ∷ rest)
  pub modules : List Module
  pub read : AllReadTo held nothing_read before modules

-- of what the names of a list of files hold
abbrev pub Loads : FileMap → List (List ℕ) → Loaded → Type 0
Loads held files (loaded.Modules ms) = AllReadTo held nothing_read files (map module_of ms.items)
Loads held files (loaded.Refused f) = FaultOfReading held f nothing_read files
Loads held files (loaded.ReadFault name) = IsReached held files name.now
Loads held files loaded.Memory = ⊤

-- the modules that were read have words of their forms
abbrev pub AreFormed : Loaded → Type 0
AreFormed (loaded.Modules ms) = All IsFormed (map module_of ms.items)
AreFormed (loaded.Refused f) = ⊤
AreFormed (loaded.ReadFault name) = ⊤
AreFormed loaded.Memory = ⊤

-- the modules that were read are within the limits on what is read
abbrev pub AreWithinLimits : Loaded → Type 0
AreWithinLimits (loaded.Modules ms) = All IsWithinReadLimits (map module_of ms.items)
AreWithinLimits (loaded.Refused f) = ⊤
AreWithinLimits (loaded.ReadFault name) = ⊤
AreWithinLimits loaded.Memory = ⊤

-- this is one of the files
abbrev pub IsAmong : List (List ℕ) → List ℕ → Type 0
IsAmong files name = (i : ℕ) × (slice_get files i ≡ Some name)

-- whatever the names hold: there is a module for each, or one of them has the fault, or its read failed
abbrev pub IsOfFiles : List (List ℕ) → Loaded → Type 0
IsOfFiles files (loaded.Modules ms) = length (map module_of ms.items) ≡ length files
IsOfFiles files (loaded.Refused f) = IsAmong files f.«module»
IsOfFiles files (loaded.ReadFault name) = IsAmong files name.now
IsOfFiles files loaded.Memory = ⊤
