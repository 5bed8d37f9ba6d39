use Rattle.std.proofs.Common.{arith, subst}
use Rattle.fc_model.specs.FileForms.{InterfaceFile}
use Rattle.fc_model.specs.Grammar.{AnInterface}
use Rattle.fc_model.specs.Texts.{BeginsWith}
use Rattle.fc_lattice.specs.View.{as_interface}
use Rattle.fc_read_parts.specs.Reading.{Takes}
use Rattle.fc_read_parts.specs.Seen.{ahead, seen_all}
use Rattle.fc_reader.specs.Halting.{Halts, RefusesFile}
use Rattle.fc_reader.proofs.Ends.{refused, refused_behind, whole}
use Rattle.fc_reader.proofs.Steps.{err_is}
use Rattle.fc_read_interface.proofs.whole.read_whole.Goals as goal

pub returns-in_err-interface-clause-fault : goal.returns-in_err-interface-clause-fault
returns-in_err-interface-clause-fault c =
    let h = c.in_err-interface.field-0.0 in
    err_is (RefusesFile InterfaceFile c.args.room (seen_all c.args.tokens.now)) _ h c.from_residual.ensures.1
    (refused InterfaceFile c.args.room (seen_all c.args.tokens.now) h
    (subst (λ ts. Halts InterfaceFile c.args.room (BeginsWith InterfaceFile) AnInterface ts h) c.new-rest.ensures c.in_err-interface.ensures.halt))

pub returns-then-left-gt0-clause-fault : goal.returns-then-left-gt0-clause-fault
returns-then-left-gt0-clause-fault c =
    let rest = ahead c.read_interface_form.new.tokens in
    refused_behind InterfaceFile c.args.room rest (subst (λ ts. Takes AnInterface ts (as_interface c.in_ok-interface.interface) rest) c.new-rest.ensures c.in_ok-interface.ensures.read)
    c.left-left.ensures c.if-left-gt0.true c.in_ok-interface.ensures.within

pub returns-clause-found : goal.returns-clause-found
returns-clause-found c =
    let rest = ahead c.read_interface_form.new.tokens in
    whole InterfaceFile (seen_all c.args.tokens.now) rest (subst (λ ts. Takes AnInterface ts (as_interface c.in_ok-interface.interface) rest) c.new-rest.ensures c.in_ok-interface.ensures.read)
    (omega (arith, c.left-left.ensures, c.if-left-gt0.false))
