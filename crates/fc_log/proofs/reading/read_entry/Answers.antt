use Rattle.std.proofs.Common.{List, ap, ◌∙◌}
use Rattle.fc_syntax.specs.Tree.{Word}
use Rattle.fc_log.specs.declared.log.Entry.{Entry}
use Rattle.fc_log.specs.Grammar.{AtLine, reads}
use Rattle.fc_log.specs.Reading.{StopsAt, ahead, in_line}
use Rattle.fc_log.proofs.Stops.{err_is, stops_on}
use Rattle.fc_log.proofs.reading.read_entry.Goals as goal

pub returns-in_err-read_mark-in-Mark-clause-fault : goal.returns-in_err-read_mark-in-Mark-clause-fault
returns-in_err-read_mark-in-Mark-clause-fault c =
    let e = c.in_err-read_mark-in-Mark.field-0.0 in
    err_is (λ f. (m : Word) (es : List Entry) → StopsAt (AtLine m es) (ahead c.args.tokens.now) f) _ e c.from_residual-in_err-read_mark-in-Mark.ensures.1
    (λ m es. stops_on e (c.in_ok-read_line.ensures.read m es ∙ ap (λ l. reads (in_line m es l) (ahead c.read_line.new.tokens)) c.in-Mark.is) (c.in_err-read_mark-in-Mark.ensures.fault m es))

pub returns-in_err-read_step-in-Step-clause-fault : goal.returns-in_err-read_step-in-Step-clause-fault
returns-in_err-read_step-in-Step-clause-fault c =
    let e = c.in_err-read_step-in-Step.field-0.0 in
    err_is (λ f. (m : Word) (es : List Entry) → StopsAt (AtLine m es) (ahead c.args.tokens.now) f) _ e c.from_residual-in_err-read_step-in-Step.ensures.1
    (λ m es. stops_on e (c.in_ok-read_line.ensures.read m es ∙ ap (λ l. reads (in_line m es l) (ahead c.read_line.new.tokens)) c.in-Step.is) (c.in_err-read_step-in-Step.ensures.fault m es))
