use Rattle.std.proofs.Common.{◌≡◌, ap, subst, ◌∙◌, refl}
use Rattle.fc_syntax.specs.declared.fault.FaultKind.TheVariants as fault
use Rattle.fc_log.specs.declared.tokens.Stop.TheVariants as stop
use Rattle.fc_log.specs.Grammar.{AtStart, reads}
use Rattle.fc_log.specs.Reading.{Tells, StopsAt, tokens_in}
use Rattle.fc_log.specs.Seen.{seen_all}
use Rattle.fc_read_parts.specs.Refusing.{IsRefusalAt}
use Rattle.fc_log.specs.Texts.{answer_kind, byte_of, cuts_of, log_tokens_of, stuck_at}
use Rattle.fc_log.proofs.Faults.{answer_fault, form_fault, told}
use Rattle.fc_log.proofs.whole.stopped.Goals as goal

pub returns-in-Form : goal.returns-in-Form
returns-in-Form c =
    let b = c.args.bytes.now in
    let left = c.in-Form.left in
    let h : Tells (reads AtStart (tokens_in (seen_all c.args.pieces.now))) (stop.Form left) = subst (λ s. StopsAt AtStart (tokens_in (seen_all c.args.pieces.now)) s) c.in-Form.is c.requires.stops in
    let rest : seen_all c.last_pieces-rest.result.now ≡ stuck_at left (cuts_of b) = c.last_pieces-rest.ensures ∙ ap (stuck_at left) c.requires.pieces in
    told c.args.file.now b (record { kind = fault.BadForm; at = byte_of b (stuck_at left (cuts_of b)) }) _
    (form_fault b left (reads AtStart (log_tokens_of b)) c.requires.clean refl (subst (λ cs. Tells (reads AtStart (tokens_in cs)) (stop.Form left)) c.requires.pieces h))
    (subst (λ n. IsRefusalAt c.args.file.now fault.BadForm n c.refusal_at.result) (c.byte_of_first.ensures ∙ ap (byte_of b) rest) c.refusal_at.ensures)

pub returns-in-Answer : goal.returns-in-Answer
returns-in-Answer c =
    let b = c.args.bytes.now in
    let left = c.in-Answer.left in
    let h : Tells (reads AtStart (tokens_in (seen_all c.args.pieces.now))) (stop.Answer left) = subst (λ s. StopsAt AtStart (tokens_in (seen_all c.args.pieces.now)) s) c.in-Answer.is c.requires.stops in
    let rest : seen_all c.last_pieces-rest-in-Answer.result.now ≡ stuck_at left (cuts_of b) = c.last_pieces-rest-in-Answer.ensures ∙ ap (stuck_at left) c.requires.pieces in
    told c.args.file.now b (record { kind = answer_kind (tokens_in (stuck_at left (cuts_of b))); at = byte_of b (stuck_at left (cuts_of b)) }) _
    (answer_fault b left (reads AtStart (log_tokens_of b)) c.requires.clean refl (subst (λ cs. Tells (reads AtStart (tokens_in cs)) (stop.Answer left)) c.requires.pieces h))
    (subst (λ n. IsRefusalAt c.args.file.now (answer_kind (tokens_in (stuck_at left (cuts_of b)))) n c.refusal_at-in-Answer.result) (c.byte_of_first-in-Answer.ensures ∙ ap (byte_of b) rest)
    (subst (λ k. IsRefusalAt c.args.file.now k c.byte_of_first-in-Answer.result c.refusal_at-in-Answer.result) (c.answer_fault.ensures ∙ ap (λ cs. answer_kind (tokens_in cs)) rest) c.refusal_at-in-Answer.ensures))
