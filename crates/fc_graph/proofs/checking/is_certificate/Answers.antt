use Rattle.std.proofs.Common.{below_more, rules}
use Rattle.fc_graph.specs.Certificates.{IsRight}
use Rattle.fc_graph.specs.FindingsView.{said_by}
use Rattle.fc_graph.proofs.checking.is_certificate.Goals as goal

pub loop-number-preserved : goal.loop-number-preserved
loop-number-preserved c =
    let Right = IsRight c.args.graph.now (said_by c.args.findings.now) in
    let here : Right c.loop-number.number = search rules in
    below_more Right c.loop-number.number c.loop-number.invariant here
