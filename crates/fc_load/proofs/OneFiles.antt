-- What a refusal of the reader comes to, behind what has been read.
use Rattle.std.proofs.Common.{◌≡◌, ◌≤◌, ℕ, List, length, subst}
use Rattle.fc_syntax.specs.declared.fault.Fault.{Fault}
use Rattle.fc_syntax.specs.declared.fault.Refusal.{Refusal}
use Rattle.fc_syntax.specs.declared.fault.Refusal.TheVariants as refusal
use Rattle.fc_model.specs.FileForms.{ModuleFile}
use Rattle.fc_reader.specs.Refusals.{IsFaultOf, IsReadRefusal}
use Rattle.fc_load.specs.Loading.{Amount, FaultOfBytes, room_for_bytes, room_for_size, unread}

-- what the reader refuses has a first fault of reading
pub unread_by : (read : Amount) (file bytes : List ℕ) (f : Fault) → length bytes ≤ room_for_bytes read → IsFaultOf ModuleFile (room_for_size read) file bytes f → FaultOfBytes read file bytes f
unread_by read file bytes f short fault =
    unread (record { kind = f.kind; at = fault.at }) short fault.first
    (λ i. record { kind = f.kind; «module» = fault.of_file i; def = fault.of_no_declaration i; path = fault.at_byte i })

-- what the reader answers, where it is a fault
pub unread_as : (read : Amount) (file bytes : List ℕ) (r : Refusal) (f : Fault) → r ≡ refusal.Fault f → length bytes ≤ room_for_bytes read → IsReadRefusal (room_for_size read) file bytes r → FaultOfBytes read file bytes f
unread_as read file bytes r f e short refused = unread_by read file bytes f short (subst (IsReadRefusal (room_for_size read) file bytes) e refused)
