-- What a refusal of the reader says, when what it reads is formed, and that a text has one reading.
use Rattle.std.specs.Prelude.{◌≡◌, ℕ, ⊤, List, None}
use Rattle.fc_syntax.specs.declared.fault.Fault.{Fault}
use Rattle.fc_syntax.specs.declared.fault.Place.TheVariants as place
use Rattle.fc_syntax.specs.declared.fault.Refusal.{Refusal}
use Rattle.fc_syntax.specs.declared.fault.Refusal.TheVariants as refusal
use Rattle.fc_syntax.specs.Tokens.{ByteFault}
use Rattle.fc_model.specs.FileForms.{FileForm, ModuleFile, InterfaceFile, File, whole_part}
use Rattle.fc_model.specs.Formed.{IsFormed, IsInterfaceFormed}
use Rattle.fc_model.specs.Texts.{SpellsPart}
use Rattle.fc_model.specs.ReadFaults.{FirstReadFault, ReadsTo}

-- the fault is the first of the file's bytes, where there is so much room for declarations, and has its name and its byte
pub record IsFaultOf (f : FileForm) (room : ℕ) (file bytes : List ℕ) (e : Fault) : Type 0 where
  pub at : ℕ
  pub of_file : e.module ≡ file
  pub of_no_declaration : e.def ≡ None
  pub at_byte : e.path ≡ place.Byte at
  pub first : FirstReadFault f room bytes (record { kind = e.kind; at = at })

-- out of memory tells nothing of the file
abbrev pub IsReadRefusalOf : FileForm → ℕ → List ℕ → List ℕ → Refusal → Type 0
IsReadRefusalOf f room file bytes (refusal.Fault e) = IsFaultOf f room file bytes e
IsReadRefusalOf f room file bytes refusal.Memory = ⊤

-- the same of a module
abbrev pub IsReadRefusal : ℕ → List ℕ → List ℕ → Refusal → Type 0
IsReadRefusal = IsReadRefusalOf ModuleFile

-- what a file spells is formed
abbrev pub IsFileFormed : (f : FileForm) → File f → Type 0
IsFileFormed ModuleFile m = IsFormed m
IsFileFormed InterfaceFile i = IsInterfaceFormed i

-- bytes spell at most one file of a form, and where there is a first fault they spell none within the limits, whatever room there is
abbrev pub SpellsOne : FileForm → Type 0
SpellsOne f =
    ((bytes : List ℕ) (m n : File f) → SpellsPart (whole_part f) bytes m → SpellsPart (whole_part f) bytes n → m ≡ n)
    × ((room : ℕ) (bytes : List ℕ) (e : ByteFault) (m : File f) → FirstReadFault f room bytes e → ReadsTo f room bytes m → ⊥)

-- bytes have at most one first fault as a file of a form, whatever room there is
abbrev pub HasOneFirstFault : FileForm → Type 0
HasOneFirstFault f = (room : ℕ) (bytes : List ℕ) (e g : ByteFault) → FirstReadFault f room bytes e → FirstReadFault f room bytes g → e ≡ g
