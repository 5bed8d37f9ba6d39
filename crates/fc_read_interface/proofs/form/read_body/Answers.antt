use Rattle.std.proofs.Common.{refl}
use Rattle.fc_model.specs.FileForms.{InterfaceFile}
use Rattle.fc_model.specs.Grammar.{AnInterfaceBody}
use Rattle.fc_model.specs.Texts.{SomeBodyAt}
use Rattle.fc_read_parts.specs.Seen.{ahead}
use Rattle.fc_reader.specs.declared.limits.Halt.TheVariants as halt
use Rattle.fc_reader.specs.Halting.{Halts}
use Rattle.fc_reader.proofs.Halts.{hidden_halts, hidden_names_stop, plain_halts}
use Rattle.fc_reader.proofs.Steps.{err_is}
use Rattle.fc_read_interface.proofs.Wholes.{hidden_made, plain_made}
use Rattle.fc_read_interface.proofs.form.read_body.Goals as goal

pub returns-in_err-hidden-clause-halt : goal.returns-in_err-hidden-clause-halt
returns-in_err-hidden-clause-halt c =
    let s = c.in_err-hidden.field-0.0 in
    err_is (Halts InterfaceFile c.args.room (SomeBodyAt InterfaceFile) AnInterfaceBody (ahead c.args.tokens.now)) _ (halt.Stop s) c.from_residual.ensures.1
    (hidden_names_stop InterfaceFile c.args.room s (c.if-opens_hidden.ensures.hidden refl) c.in_err-hidden.ensures.fault)

pub returns-in_err-items-clause-halt : goal.returns-in_err-items-clause-halt
returns-in_err-items-clause-halt c =
    let h = c.in_err-items.field-0.0 in
    err_is (Halts InterfaceFile c.args.room (SomeBodyAt InterfaceFile) AnInterfaceBody (ahead c.args.tokens.now)) _ h c.from_residual-in_err-items.ensures.1
    (hidden_halts InterfaceFile c.args.room h (c.if-opens_hidden.ensures.hidden refl) c.in_ok-hidden.ensures.read c.in_err-items.ensures.halt)

pub returns-then-opens_hidden-clause-read : goal.returns-then-opens_hidden-clause-read
returns-then-opens_hidden-clause-read c =
    hidden_made _ _ _ _ _ c.in_ok-items.items (c.if-opens_hidden.ensures.hidden refl) c.in_ok-hidden.ensures.read c.in_ok-items.ensures.read

pub returns-in_err-items-2-clause-halt : goal.returns-in_err-items-2-clause-halt
returns-in_err-items-2-clause-halt c =
    let h = c.in_err-items-2.field-0.0 in
    err_is (Halts InterfaceFile c.args.room (SomeBodyAt InterfaceFile) AnInterfaceBody (ahead c.args.tokens.now)) _ h c.from_residual-in_err-items-2.ensures.1
    (plain_halts InterfaceFile c.args.room h (c.if-opens_hidden.ensures.plain refl) c.in_err-items-2.ensures.halt)

pub returns-clause-read : goal.returns-clause-read
returns-clause-read c = plain_made _ _ _ _ c.in_ok-items-2.items (c.if-opens_hidden.ensures.plain refl) c.new-hidden.ensures c.in_ok-items-2.ensures.read
