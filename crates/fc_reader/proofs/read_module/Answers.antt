use Rattle.fc_model.specs.FileForms.{ModuleFile}
use Rattle.fc_reader.proofs.Readings.{token_fault}
use Rattle.fc_reader.proofs.read_module.Goals as goal

pub returns-in-Err-clause-fault : goal.returns-in-Err-clause-fault
returns-in-Err-clause-fault c = token_fault ModuleFile c.args.room c.args.file.now c.args.bytes.now c.in-Err.error c.refusal_of.result c.in-Err.ensures.fault c.refusal_of.ensures
