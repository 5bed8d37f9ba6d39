use Rattle.std.proofs.Common.{◌≡◌, ap, sym, ◌∙◌}
use Rattle.fc_syntax.specs.declared.fault.FaultKind.TheVariants as fault
use Rattle.fc_log.specs.Grammar.{AtStart, reads}
use Rattle.fc_log.specs.Reading.{tokens_in}
use Rattle.fc_log.specs.Seen.{seen_all}
use Rattle.fc_log.specs.Texts.{of_byte, cuts_of}
use Rattle.fc_log.proofs.FormedStands.{spells_formed}
use Rattle.fc_log.proofs.Faults.{told}
use Rattle.fc_log.proofs.whole.read.Goals as goal

pub returns-in-Some-clause-fault : goal.returns-in-Some-clause-fault
returns-in-Some-clause-fault c = told c.args.file.now c.args.bytes.now (record { kind = fault.BadByte; at = c.in-Some.at }) _ (of_byte (sym c.in-Some.ensures)) c.refusal_at.ensures

pub returns-in-Ok-clause-formed : goal.returns-in-Ok-clause-formed
returns-in-Ok-clause-formed c =
    let pieces : seen_all c.as_slice.result.now ≡ cuts_of c.args.bytes.now = ap seen_all c.as_slice.ensures ∙ c.in_ok-pieces.ensures in
    spells_formed c.args.bytes.now c.in-Ok.log (ap (λ cs. reads AtStart (tokens_in cs)) (sym pieces) ∙ c.in-Ok.ensures.found)
