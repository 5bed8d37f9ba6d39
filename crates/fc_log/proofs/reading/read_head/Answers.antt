use Rattle.std.proofs.Common.{◌∙◌}
use Rattle.fc_log.specs.Grammar.{AtStart}
use Rattle.fc_log.specs.Reading.{StopsAt, ahead}
use Rattle.fc_log.proofs.Stops.{err_is, stops_on}
use Rattle.fc_log.proofs.reading.read_head.Goals as goal

pub returns-in_err-read_head_end-clause-fault : goal.returns-in_err-read_head_end-clause-fault
returns-in_err-read_head_end-clause-fault c =
    let e = c.in_err-read_head_end.field-0.0 in
    err_is (StopsAt AtStart (ahead c.args.tokens.now)) _ e c.from_residual-in_err-read_head_end.ensures.1
    (stops_on e (c.in_ok-read_log_word.ensures.read ∙ (c.in_ok-read_version.ensures.read ∙ c.in_ok-module.ensures.read)) (c.in_err-read_head_end.ensures.fault c.in_ok-module.module.now))
