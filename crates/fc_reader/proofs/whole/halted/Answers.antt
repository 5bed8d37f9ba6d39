use Rattle.fc_reader.proofs.Readings.{bracket_fault, counts_fault, depth_fault, form_fault}
use Rattle.fc_reader.proofs.whole.halted.Goals as goal

pub returns-then-at_bracket : goal.returns-then-at_bracket
returns-then-at_bracket c = λ f room h.
    bracket_fault f room c.args.file.now c.args.bytes.now c.args.tokens.now c.args.part.now c.args.deep c.in-Form.left c.byte_of_token-at.result c.refusal_at.result
    (record { lexed = c.requires.lexed; cut = c.requires.cut }) c.ends_at_bracket-at_bracket.result c.ends_at_bracket-at_bracket.ensures c.if-at_bracket.true
    (rw c.in-Form.is at (rw c.in-Stop.is at h)) (rw c.saturating_sub.ensures at c.byte_of_token-at.ensures) c.refusal_at.ensures

pub returns-else-at_bracket : goal.returns-else-at_bracket
returns-else-at_bracket c = λ f room h.
    form_fault f room c.args.file.now c.args.bytes.now c.args.tokens.now c.args.part.now c.args.deep c.in-Form.left c.byte_of_token-at-in-Form.result c.refusal_at-in-Form.result
    (record { lexed = c.requires.lexed; cut = c.requires.cut }) c.ends_at_bracket-at_bracket.result c.ends_at_bracket-at_bracket.ensures c.if-at_bracket.false
    (rw c.in-Form.is at (rw c.in-Stop.is at h)) (rw c.saturating_sub-in-Form.ensures at c.byte_of_token-at-in-Form.ensures) c.refusal_at-in-Form.ensures

pub returns-in-Depth : goal.returns-in-Depth
returns-in-Depth c = λ f room h.
    depth_fault f room c.args.file.now c.args.bytes.now c.args.tokens.now c.args.part.now c.args.deep c.in-Depth.left c.byte_of_token-at-in-Depth.result c.refusal_at-in-Depth.result
    (record { lexed = c.requires.lexed; cut = c.requires.cut }) (rw c.in-Depth.is at h) (rw c.saturating_sub-in-Depth.ensures at c.byte_of_token-at-in-Depth.ensures) c.refusal_at-in-Depth.ensures

pub returns-in-Counts : goal.returns-in-Counts
returns-in-Counts c = λ f room h.
    counts_fault f room c.args.file.now c.args.bytes.now c.args.tokens.now c.args.part.now c.args.deep c.in-Counts.left c.byte_of_token-at-in-Counts.result c.refusal_at-in-Counts.result
    (record { lexed = c.requires.lexed; cut = c.requires.cut }) (rw c.in-Counts.is at h) (rw c.saturating_sub-in-Counts.ensures at c.byte_of_token-at-in-Counts.ensures) c.refusal_at-in-Counts.ensures
