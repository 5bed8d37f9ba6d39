use Rattle.std.proofs.Common.{take}
use Rattle.fc_graph.specs.FindingsView.{AreBelow, said_by}
use Rattle.fc_graph.proofs.checking.are_below.Given as goal

abbrev pub invariant-loop-to : goal.invariant-loop-to
invariant-loop-to l = AreBelow l.graph (said_by l.findings) l.from (take l.to-index l.numbers)
