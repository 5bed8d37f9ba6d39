use Rattle.fc_model.specs.FileForms.{InterfaceFile}
use Rattle.fc_reader.proofs.Readings.{token_fault}
use Rattle.fc_read_interface.proofs.read_interface.Goals as goal

pub returns-in-Err-clause-fault : goal.returns-in-Err-clause-fault
returns-in-Err-clause-fault c = token_fault InterfaceFile c.args.room c.args.file.now c.args.bytes.now c.in-Err.error c.refusal_of.result c.in-Err.ensures.fault c.refusal_of.ensures
