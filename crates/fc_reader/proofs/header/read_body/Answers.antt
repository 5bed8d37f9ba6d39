use Rattle.std.proofs.Common.{refl}
use Rattle.fc_model.specs.FileForms.{ModuleFile}
use Rattle.fc_model.specs.Grammar.{ABody}
use Rattle.fc_model.specs.Texts.{SomeBodyAt}
use Rattle.fc_read_parts.specs.Seen.{ahead}
use Rattle.fc_reader.specs.declared.limits.Halt.TheVariants as halt
use Rattle.fc_reader.specs.Halting.{Halts}
use Rattle.fc_reader.proofs.Halts.{hidden_halts, hidden_names_stop, plain_halts, plain_read}
use Rattle.fc_reader.proofs.Steps.{err_is}
use Rattle.fc_reader.proofs.header.read_body.Goals as goal

pub returns-in_err-hidden-clause-halt : goal.returns-in_err-hidden-clause-halt
returns-in_err-hidden-clause-halt c =
    let s = c.in_err-hidden.field-0.0 in
    err_is (Halts ModuleFile c.args.room (SomeBodyAt ModuleFile) ABody (ahead c.args.tokens.now)) _ (halt.Stop s) c.from_residual.ensures.1
    (hidden_names_stop ModuleFile c.args.room s (c.if-opens_hidden.ensures.hidden refl) c.in_err-hidden.ensures.fault)

pub returns-in_err-decls-clause-halt : goal.returns-in_err-decls-clause-halt
returns-in_err-decls-clause-halt c =
    let h = c.in_err-decls.field-0.0 in
    err_is (Halts ModuleFile c.args.room (SomeBodyAt ModuleFile) ABody (ahead c.args.tokens.now)) _ h c.from_residual-in_err-decls.ensures.1
    (hidden_halts ModuleFile c.args.room h (c.if-opens_hidden.ensures.hidden refl) c.in_ok-hidden.ensures.read c.in_err-decls.ensures.halt)

pub returns-in_err-decls-2-clause-halt : goal.returns-in_err-decls-2-clause-halt
returns-in_err-decls-2-clause-halt c =
    let h = c.in_err-decls-2.field-0.0 in
    err_is (Halts ModuleFile c.args.room (SomeBodyAt ModuleFile) ABody (ahead c.args.tokens.now)) _ h c.from_residual-in_err-decls-2.ensures.1
    (plain_halts ModuleFile c.args.room h (c.if-opens_hidden.ensures.plain refl) c.in_err-decls-2.ensures.halt)

pub returns-clause-read : goal.returns-clause-read
returns-clause-read c = plain_read ModuleFile (c.if-opens_hidden.ensures.plain refl) c.new-hidden.ensures c.in_ok-decls-2.ensures.read
