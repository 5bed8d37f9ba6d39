use Rattle.std.proofs.Common.{ap, sym, ◌∙◌}
use Rattle.fc_log.specs.Grammar.{AtStart, reads}
use Rattle.fc_log.specs.Reading.{StopsAt, tokens_in}
use Rattle.fc_log.specs.Seen.{seen_all}
use Rattle.fc_log.proofs.Stops.{err_is, stops_on}
use Rattle.fc_log.proofs.whole.read_pieces.Goals as goal

pub returns-in_err-entries-clause-fault : goal.returns-in_err-entries-clause-fault
returns-in_err-entries-clause-fault c =
    let e = c.in_err-entries.field-0.0 in
    err_is (StopsAt AtStart (tokens_in (seen_all c.args.pieces.now))) _ e c.from_residual-in_err-entries.ensures.1
    (stops_on e (ap (reads AtStart) (sym c.new-tokens.ensures) ∙ c.in_ok-name.ensures.read) (c.in_err-entries.ensures.fault c.in_ok-name.name.now))
