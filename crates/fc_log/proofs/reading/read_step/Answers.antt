use Rattle.std.proofs.Common.{◌∙◌, List}
use Rattle.std.specs.Option.{option_copied}
use Rattle.fc_syntax.specs.Tree.{Word}
use Rattle.fc_log.specs.declared.log.Entry.{Entry}
use Rattle.fc_log.specs.Grammar.{BehindStep, step_at}
use Rattle.fc_log.specs.Reading.{StopsAt, ahead, place_read}
use Rattle.fc_log.proofs.Stops.{err_is, stops_on}
use Rattle.fc_log.proofs.reading.read_step.Goals as goal

pub returns-in_err-def-clause-fault : goal.returns-in_err-def-clause-fault
returns-in_err-def-clause-fault c =
    let e = c.in_err-def.field-0.0 in
    err_is (λ f. (m : Word) (es : List Entry) → StopsAt (BehindStep m es) (ahead c.args.tokens.now) f) _ e c.from_residual-in_err-def.ensures.1
    (λ m es. stops_on e (c.in_ok-row.ensures.read m es) (c.in_err-def.ensures.fault m es))

pub returns-in_err-path-clause-fault : goal.returns-in_err-path-clause-fault
returns-in_err-path-clause-fault c =
    let e = c.in_err-path.field-0.0 in
    err_is (λ f. (m : Word) (es : List Entry) → StopsAt (BehindStep m es) (ahead c.args.tokens.now) f) _ e c.from_residual-in_err-path.ensures.1
    (λ m es. stops_on e (c.in_ok-row.ensures.read m es ∙ c.in_ok-def.ensures.read m es) (c.in_err-path.ensures.fault m es _))

pub returns-in_err-answer-clause-fault : goal.returns-in_err-answer-clause-fault
returns-in_err-answer-clause-fault c =
    let e = c.in_err-answer.field-0.0 in
    let d = option_copied c.in_ok-def.def in
    err_is (λ f. (m : Word) (es : List Entry) → StopsAt (BehindStep m es) (ahead c.args.tokens.now) f) _ e c.from_residual-in_err-answer.ensures.1
    (λ m es. stops_on e (c.in_ok-row.ensures.read m es ∙ (c.in_ok-def.ensures.read m es ∙ c.in_ok-path.ensures.read m es d)) (c.in_err-answer.ensures.fault m es d (place_read (option_copied c.in_ok-path.path))))

pub returns-in_err-read_line_end-clause-fault : goal.returns-in_err-read_line_end-clause-fault
returns-in_err-read_line_end-clause-fault c =
    let e = c.in_err-read_line_end.field-0.0 in
    let d = option_copied c.in_ok-def.def in
    let p = place_read (option_copied c.in_ok-path.path) in
    err_is (λ f. (m : Word) (es : List Entry) → StopsAt (BehindStep m es) (ahead c.args.tokens.now) f) _ e c.from_residual-in_err-read_line_end.ensures.1
    (λ m es. stops_on e (c.in_ok-row.ensures.read m es ∙ (c.in_ok-def.ensures.read m es ∙ (c.in_ok-path.ensures.read m es d ∙ c.in_ok-answer.ensures.read m es d p))) (c.in_err-read_line_end.ensures.fault m es (step_at c.in_ok-row.row d p c.in_ok-answer.answer)))
