use Rattle.std.proofs.Common.{ℕ, ◌<◌}
use Rattle.fc_graph.specs.Certificates.{IsRight}
use Rattle.fc_graph.specs.FindingsView.{said_by}
use Rattle.fc_graph.proofs.checking.is_certificate.Given as goal

abbrev pub invariant-loop-number : goal.invariant-loop-number
invariant-loop-number l = (i : ℕ) → i < l.number → IsRight l.graph (said_by l.findings) i
