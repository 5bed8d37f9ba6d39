use Rattle.std.proofs.Common.{List}
use Rattle.fc_syntax.specs.Tree.{Word}
use Rattle.fc_log.specs.declared.log.Entry.{Entry}
use Rattle.fc_log.specs.declared.log.Entry.TheVariants as entry
use Rattle.fc_log.specs.Grammar.{BehindMark}
use Rattle.fc_log.specs.Reading.{StopsAt, ahead}
use Rattle.fc_log.proofs.Stops.{err_is, stops_on}
use Rattle.fc_log.proofs.reading.read_mark.Goals as goal

pub returns-in_err-read_line_end-clause-fault : goal.returns-in_err-read_line_end-clause-fault
returns-in_err-read_line_end-clause-fault c =
    let e = c.in_err-read_line_end.field-0.0 in
    err_is (λ f. (m : Word) (es : List Entry) → StopsAt (BehindMark m es) (ahead c.args.tokens.now) f) _ e c.from_residual-in_err-read_line_end.ensures.1
    (λ m es. stops_on e (c.in_ok-phase.ensures.read m es) (c.in_err-read_line_end.ensures.fault m es (entry.Mark c.in_ok-phase.phase)))
