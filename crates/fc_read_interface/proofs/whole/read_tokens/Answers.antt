use Rattle.fc_lattice.specs.View.{as_interface}
use Rattle.fc_model.specs.FileForms.{InterfaceFile}
use Rattle.fc_reader.proofs.Readings.{cut_so, reads_to}
use Rattle.fc_read_interface.proofs.whole.read_tokens.Goals as goal

pub halted-requires-clause-cut : goal.halted-requires-clause-cut
halted-requires-clause-cut c = cut_so c.args.bytes.now c.args.tokens.now c.args.terminals.now c.up_to_deep_bracket-deep.result.0.now c.up_to_deep_bracket-deep.result.1 c.requires.classed c.up_to_deep_bracket-deep.ensures

pub returns-in-Err-clause-fault : goal.returns-in-Err-clause-fault
returns-in-Err-clause-fault c = c.halted.ensures InterfaceFile c.args.room c.in-Err.ensures.fault

pub returns-in-Ok-clause-found : goal.returns-in-Ok-clause-found
returns-in-Ok-clause-found c =
    reads_to InterfaceFile c.args.room c.args.bytes.now c.args.tokens.now c.up_to_deep_bracket-deep.result.0.now c.up_to_deep_bracket-deep.result.1 (as_interface c.in-Ok.interface) c.requires.short
    (record { lexed = c.requires.lexed; cut = cut_so c.args.bytes.now c.args.tokens.now c.args.terminals.now c.up_to_deep_bracket-deep.result.0.now c.up_to_deep_bracket-deep.result.1 c.requires.classed c.up_to_deep_bracket-deep.ensures })
    c.in-Ok.ensures.found c.in-Ok.ensures.within
