use Rattle.fc_model.specs.FileForms.{InterfaceFile}
use Rattle.fc_model.specs.Grammar.{AnInterface}
use Rattle.fc_model.specs.Texts.{BeginsWith}
use Rattle.fc_read_parts.specs.Seen.{ahead}
use Rattle.fc_reader.specs.declared.limits.Halt.TheVariants as halt
use Rattle.fc_reader.specs.Halting.{Halts}
use Rattle.fc_reader.proofs.Halts.{body_halts, header_halts}
use Rattle.fc_reader.proofs.Steps.{err_is}
use Rattle.fc_read_interface.proofs.Wholes.{whole_made}
use Rattle.fc_read_interface.proofs.form.read_interface_form.Goals as goal

pub returns-in_err-header-clause-halt : goal.returns-in_err-header-clause-halt
returns-in_err-header-clause-halt c =
    let s = c.in_err-header.field-0.0 in
    err_is (Halts InterfaceFile c.args.room (BeginsWith InterfaceFile) AnInterface (ahead c.args.tokens.now)) _ (halt.Stop s) c.from_residual.ensures.1
    (header_halts InterfaceFile c.args.room (ahead c.args.tokens.now) s c.in_err-header.ensures.fault)

pub returns-in_err-body-clause-halt : goal.returns-in_err-body-clause-halt
returns-in_err-body-clause-halt c =
    let h = c.in_err-body.field-0.0 in
    err_is (Halts InterfaceFile c.args.room (BeginsWith InterfaceFile) AnInterface (ahead c.args.tokens.now)) _ h c.from_residual-in_err-body.ensures.1
    (body_halts InterfaceFile c.args.room (ahead c.args.tokens.now) h c.in_ok-header.ensures.read c.in_err-body.ensures.halt)

pub returns-clause-read : goal.returns-clause-read
returns-clause-read c =
    whole_made (ahead c.args.tokens.now) (ahead c.read_header.new.tokens) (ahead c.read_body.new.tokens) c.in_ok-header.header.name c.in_ok-header.header.imports c.in_ok-header.header.exports c.in_ok-body.body.hidden
    c.in_ok-body.body.items _ c.in_ok-header.ensures.read c.in_ok-body.ensures.read c.joined.ensures
