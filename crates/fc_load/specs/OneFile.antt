-- What the reading of one file answers.
use Rattle.std.specs.Prelude.{◌≡◌, ⊤, ℕ, List}
use Rattle.fc_files.specs.Outside.{FileMap}
use Rattle.fc_syntax.specs.Tree.{Module}
use Rattle.fc_syntax.specs.View.{module_of}
use Rattle.fc_model.specs.FileForms.{ModuleFile}
use Rattle.fc_model.specs.Formed.{IsFormed}
use Rattle.fc_model.specs.ReadFaults.{ReadsTo}
use Rattle.fc_load.specs.Amounts.{amount_of}
use Rattle.fc_load.specs.Loading.{Amount, FaultOfBytes, FaultOfEntry, FileReadsTo, IsWithinReadLimits, room_for_size, with_file}
use Rattle.fc_load.specs.declared.one_file.LoadedFile.{LoadedFile}
use Rattle.fc_load.specs.declared.one_file.LoadedFile.TheVariants as one

-- of the bytes of a file, of which there are no more than there may be
abbrev pub LoadsBytes : Amount → List ℕ → List ℕ → LoadedFile → Type 0
LoadsBytes read file bytes (one.Module m after) = ReadsTo ModuleFile (room_for_size read) bytes (module_of m) × (amount_of after ≡ with_file read bytes (module_of m))
LoadsBytes read file bytes (one.Refused f) = FaultOfBytes read file bytes f
LoadsBytes read file bytes one.ReadFault = ⊥
LoadsBytes read file bytes one.Memory = ⊤

-- a file holds this module, behind what has been read, and so much has been read with it
pub record GoesOn (held : FileMap) (read : Amount) (file : List ℕ) (m : Module) (after : Amount) : Type 0 where
  pub bytes : List ℕ
  pub reads : FileReadsTo held read file bytes m
  pub behind : after ≡ with_file read bytes m

-- of what the name of a file holds
abbrev pub LoadsOne : FileMap → Amount → List ℕ → LoadedFile → Type 0
LoadsOne held read file (one.Module m after) = GoesOn held read file (module_of m) (amount_of after)
LoadsOne held read file (one.Refused f) = FaultOfEntry read file (held file) f
LoadsOne held read file one.ReadFault = ⊤
LoadsOne held read file one.Memory = ⊤

-- the module that was read has words of their forms
abbrev pub IsFormedOne : LoadedFile → Type 0
IsFormedOne (one.Module m after) = IsFormed (module_of m)
IsFormedOne (one.Refused f) = ⊤
IsFormedOne one.ReadFault = ⊤
IsFormedOne one.Memory = ⊤

-- the module that was read is within the limits on what is read
abbrev pub IsWithinOne : LoadedFile → Type 0
IsWithinOne (one.Module m after) = IsWithinReadLimits (module_of m)
IsWithinOne (one.Refused f) = ⊤
IsWithinOne one.ReadFault = ⊤
IsWithinOne one.Memory = ⊤

-- a fault has the name of the file, whatever that holds
abbrev pub IsOfFile : List ℕ → LoadedFile → Type 0
IsOfFile file (one.Module m after) = ⊤
IsOfFile file (one.Refused f) = f.«module» ≡ file
IsOfFile file one.ReadFault = ⊤
IsOfFile file one.Memory = ⊤
