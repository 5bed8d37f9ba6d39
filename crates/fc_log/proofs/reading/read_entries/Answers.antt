use Rattle.std.proofs.Common.{[]}
use Rattle.fc_syntax.specs.Tree.{Word}
use Rattle.fc_log.specs.Grammar.{AtLine}
use Rattle.fc_log.specs.Reading.{StopsAt, ahead}
use Rattle.fc_log.proofs.Stops.{err_is, stops_on}
use Rattle.fc_log.proofs.reading.read_entries.Goals as goal

pub returns-in_err-entry-clause-fault : goal.returns-in_err-entry-clause-fault
returns-in_err-entry-clause-fault c =
    let e = c.in_err-entry.field-0.0 in
    err_is (λ f. (m : Word) → StopsAt (AtLine m []) (ahead c.args.tokens.now) f) _ e c.from_residual.ensures.1
    (λ m. stops_on e (c.each.invariant m) (c.in_err-entry.ensures.fault m c.each.entries))
