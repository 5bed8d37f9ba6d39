-- What files hold, read one after the other as the modules of a set, and the first fault of reading.
use Rattle.std.specs.Prelude.{◌≡◌, ◌≤◌, ◌<◌, ◌+◌, ◌-◌, ℕ, List, [], ◌∷◌, Option, Some, None, length, min}
use Rattle.std.specs.List.{All}
use Rattle.fc_syntax.specs.Limits.{standard_limits}
use Rattle.fc_syntax.specs.Measures.{depth_of, size_of}
use Rattle.fc_syntax.specs.Tokens.{ByteFault}
use Rattle.fc_syntax.specs.Tree.{Module}
use Rattle.fc_syntax.specs.declared.fault.Fault.{Fault}
use Rattle.fc_syntax.specs.declared.fault.FaultKind.TheVariants as kind
use Rattle.fc_syntax.specs.declared.fault.Place.TheVariants as place
use Rattle.fc_model.specs.FileForms.{ModuleFile}
use Rattle.fc_model.specs.Headers.{decls_in}
use Rattle.fc_model.specs.Planning.{of_file}
use Rattle.fc_model.specs.ReadFaults.{FirstReadFault, ReadsTo}

-- what each name holds; `None` where there is no such file
abbrev pub Holding : Type 0
Holding = List ℕ → Option (List ℕ)

-- WHAT IS READ

-- how much has been read so far: bytes, and the size of declarations
pub record Amount : Type 0 where
  pub bytes : ℕ
  pub size : ℕ

abbrev pub nothing_read : Amount
nothing_read = record { bytes = 0; size = 0 }

-- the most bytes that the next file may have: those of a file, and those that are left of the set
abbrev pub room_for_bytes : Amount → ℕ
room_for_bytes read = min standard_limits.file_bytes (standard_limits.set_bytes - read.bytes)

-- the most size that its declarations may have together
abbrev pub room_for_size : Amount → ℕ
room_for_size read = standard_limits.size - read.size

abbrev pub with_file : Amount → List ℕ → Module → Amount
with_file read bytes m = record { bytes = read.bytes + length bytes; size = read.size + size_of m }

-- a file holds a module within the limits, behind what has been read
pub record FileReadsTo (held : Holding) (read : Amount) (file bytes : List ℕ) (m : Module) : Type 0 where
  pub holds : held file ≡ Some bytes
  pub short : length bytes ≤ room_for_bytes read
  pub reads : ReadsTo ModuleFile (room_for_size read) bytes m

-- files hold these modules, one after the other
pub data AllReadTo (held : Holding) : Amount → List (List ℕ) → List Module → Type 0 where
  no_files : {read : Amount} → AllReadTo held read [] []
  one_file : {read : Amount} {file bytes : List ℕ} {m : Module} {files : List (List ℕ)} {ms : List Module} → FileReadsTo held read file bytes m
      → AllReadTo held (with_file read bytes m) files ms → AllReadTo held read (file ∷ files) (m ∷ ms)

-- whatever was read before: no declaration is deeper than one may be, and all together are no larger than those of a whole set
pub record IsWithinReadLimits (m : Module) : Type 0 where
  pub shallow : All (λ d. depth_of d ≤ standard_limits.depth) (decls_in m)
  pub small : size_of m ≤ standard_limits.size

-- THE FIRST FAULT

-- The first fault of a file that holds these bytes, behind what has been read: there are more than there may be, which stands at the byte
-- that is one too many; else they have a first fault of reading.
pub data FaultOfBytes (read : Amount) (file bytes : List ℕ) (f : Fault) : Type 0 where
  too_long : room_for_bytes read < length bytes → f ≡ of_file kind.TooLong file (place.Byte (room_for_bytes read)) → FaultOfBytes read file bytes f
  unread : (fault : ByteFault) → length bytes ≤ room_for_bytes read → FirstReadFault ModuleFile (room_for_size read) bytes fault
      → f ≡ of_file fault.kind file (place.Byte fault.at) → FaultOfBytes read file bytes f

-- the first fault of a file, which is missing where its name holds nothing
abbrev pub FaultOfEntry : Amount → List ℕ → Option (List ℕ) → Fault → Type 0
FaultOfEntry read file None f = f ≡ of_file kind.Missing file place.Nowhere
FaultOfEntry read file (Some bytes) f = FaultOfBytes read file bytes f

-- the first fault of reading files one after the other
pub data FaultOfReading (held : Holding) (f : Fault) : Amount → List (List ℕ) → Type 0 where
  in_first : {read : Amount} {file : List ℕ} {files : List (List ℕ)} → FaultOfEntry read file (held file) f → FaultOfReading held f read (file ∷ files)
  in_later : {read : Amount} {file bytes : List ℕ} {m : Module} {files : List (List ℕ)} → FileReadsTo held read file bytes m
      → FaultOfReading held f (with_file read bytes m) files → FaultOfReading held f read (file ∷ files)
