use Rattle.fc_model.specs.FileForms.{ModuleFile}
use Rattle.fc_model.specs.Grammar.{AModule}
use Rattle.fc_model.specs.Texts.{BeginsWith}
use Rattle.fc_read_parts.specs.Seen.{ahead}
use Rattle.fc_reader.specs.declared.limits.Halt.TheVariants as halt
use Rattle.fc_reader.specs.Halting.{Halts}
use Rattle.fc_reader.proofs.Halts.{body_halts, header_halts, whole_read}
use Rattle.fc_reader.proofs.Steps.{err_is}
use Rattle.fc_reader.proofs.header.read_module_form.Goals as goal

pub returns-in_err-header-clause-halt : goal.returns-in_err-header-clause-halt
returns-in_err-header-clause-halt c =
    let s = c.in_err-header.field-0.0 in
    err_is (Halts ModuleFile c.args.room (BeginsWith ModuleFile) AModule (ahead c.args.tokens.now)) _ (halt.Stop s) c.from_residual.ensures.1 (header_halts ModuleFile c.args.room (ahead c.args.tokens.now) s c.in_err-header.ensures.fault)

pub returns-in_err-body-clause-halt : goal.returns-in_err-body-clause-halt
returns-in_err-body-clause-halt c =
    let h = c.in_err-body.field-0.0 in
    err_is (Halts ModuleFile c.args.room (BeginsWith ModuleFile) AModule (ahead c.args.tokens.now)) _ h c.from_residual-in_err-body.ensures.1
    (body_halts ModuleFile c.args.room (ahead c.args.tokens.now) h c.in_ok-header.ensures.read c.in_err-body.ensures.halt)

pub returns-clause-read : goal.returns-clause-read
returns-clause-read c = whole_read ModuleFile (ahead c.args.tokens.now) c.in_ok-header.ensures.read c.in_ok-body.ensures.read c.joined.ensures
