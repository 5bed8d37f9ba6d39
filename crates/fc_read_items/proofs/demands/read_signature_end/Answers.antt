use Rattle.std.proofs.Common.{ap, map, refl}
use Rattle.fc_lattice.specs.View.{demand_of}
use Rattle.fc_model.specs.Grammar.{SignatureEnd}
use Rattle.fc_read_parts.specs.Reading.{StopsAt}
use Rattle.fc_read_parts.specs.Seen.{ahead}
use Rattle.fc_read_items.proofs.Others.{err_is}
use Rattle.fc_read_items.proofs.Signatures.{sig_diverges, sig_more, sig_start, sig_stops}
use Rattle.fc_read_items.proofs.demands.read_signature_end.Goals as goal

pub each-init : goal.each-init
each-init c = sig_start _ _ (ap (map demand_of) c.new-args.ensures)

pub returns-then-takes_diverges-clause-read : goal.returns-then-takes_diverges-clause-read
returns-then-takes_diverges-clause-read c =
    sig_diverges _ _ _ _ _ c.each.args c.each.invariant (c.if-closes.ensures.open refl) (c.if-takes_diverges.ensures.taken refl) c.in_ok-read_close.ensures.read

pub returns-in_err-read_demand-clause-fault : goal.returns-in_err-read_demand-clause-fault
returns-in_err-read_demand-clause-fault c =
    let h = c.in_err-read_demand.field-0.0 in
    err_is (StopsAt SignatureEnd (ahead c.args.tokens.now)) _ h c.from_residual-in_err-read_demand.ensures.1
    (sig_stops _ _ _ _ _ h c.each.invariant (c.if-closes.ensures.open refl) (c.if-takes_diverges.ensures.other refl) c.in_err-read_demand.ensures.fault)

pub each-preserved : goal.each-preserved
each-preserved c =
    sig_more _ _ _ _ _ _ _ _ c.each.invariant (c.if-closes.ensures.open refl, c.if-takes_diverges.ensures.other refl) c.in_ok-read_demand.ensures.read c.in_ok-read_demand.ensures.shorter c.in_ok-push.ensures.ok
