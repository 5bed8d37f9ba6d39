-- Every text has an answer of its reader.
use Rattle.std.specs.Prelude.{◌≤◌, ◌⊎◌, ℕ, List, length}
use Rattle.fc_syntax.specs.Limits.{standard_limits}
use Rattle.fc_syntax.specs.Tokens.{ByteFault}
use Rattle.fc_model.specs.FileForms.{FileForm, File}
use Rattle.fc_model.specs.ReadFaults.{FirstReadFault, ReadsTo}

-- bytes of at most the limit of a file spell a file of this form within the limits, or they have a first fault, where there is so much room for declarations
abbrev pub HasAnAnswer : FileForm → Type 0
HasAnAnswer f = (room : ℕ) (bytes : List ℕ) → length bytes ≤ standard_limits.file_bytes
    → ((m : File f) × ReadsTo f room bytes m) ⊎ ((e : ByteFault) × FirstReadFault f room bytes e)
