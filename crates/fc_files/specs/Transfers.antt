-- What reads and writes of whole pieces make of the bytes that readers and writers tell.
use Rattle.std.specs.Prelude.{◌≤◌, ℕ, List, length, take, Option, Some, IfSome, ⊤}
use Rattle.std.specs.Io.KnownBytes.{Appends}
use Rattle.fc_files.specs.declared.ReadAnswer.{ReadAnswer}
use Rattle.fc_files.specs.declared.ReadAnswer.TheVariants as read
use Rattle.fc_files.specs.Outside.{Reads}

-- known bytes grow by a part from the front of the piece, which may be nothing or all of it
abbrev pub AppendsPart : Option (List ℕ) → Option (List ℕ) → List ℕ → Type 0
AppendsPart old new piece = (n : ℕ) × (n ≤ length piece) × Appends old new (take n piece)

-- bytes, or that they are too many, are told only where a file was opened, and of what that file had left
abbrev pub IsFromFile : {F : Type 0} → (F → Option (List ℕ)) → ℕ → ReadAnswer → Type 0
IsFromFile {F = F} remaining most (read.Ok bytes) = (file : F) × IfSome (remaining file) (λ left. Reads (Some left) most (read.Ok bytes))
IsFromFile {F = F} remaining most read.TooLong = (file : F) × IfSome (remaining file) (λ left. Reads (Some left) most read.TooLong)
IsFromFile remaining most _ = ⊤

-- a file was opened, and what it holds grew by the bytes
abbrev pub IsInFile : {F : Type 0} → (F → Option (List ℕ)) → List ℕ → Type 0
IsInFile {F = F} contents bytes = (old : F) × (new : F) × Appends (contents old) (contents new) bytes
