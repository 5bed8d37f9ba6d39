use Rattle.std.proofs.Common.{subst, sym}
use Rattle.fc_reader.specs.Refusals.{IsReadRefusal}
use Rattle.fc_load.specs.Amounts.{amount_of}
use Rattle.fc_load.specs.Loading.{FaultOfBytes, room_for_size}
use Rattle.fc_load.proofs.OneFiles.{unread_as}
use Rattle.fc_load.proofs.one_file.load_bytes.Goals as goal

pub returns-in-Err-Fault-clause-answer : goal.returns-in-Err-Fault-clause-answer
returns-in-Err-Fault-clause-answer c =
    let read = amount_of c.args.read in
    let file = c.args.file.now in
    let r = c.in-Err-Fault.field-0 in
    let told : IsReadRefusal (room_for_size read) file c.args.bytes.items r =
    subst (λ room. IsReadRefusal room file c.args.bytes.items r) c.size_left.ensures
    (subst (λ b. IsReadRefusal c.size_left.result file b r) c.deref.ensures.value c.in-Err-Fault.ensures.fault) in
    subst (FaultOfBytes read file c.args.bytes.items) (sym c.in-Err-Fault.fault-is)
    (unread_as read file c.args.bytes.items r c.in-Err-Fault.fault c.in-Err-Fault.field-0-is c.requires told)
