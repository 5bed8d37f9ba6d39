use Rattle.std.proofs.Common.{◌≡◌, map, take}
use Rattle.fc_graph.specs.declared.finding.Finding.{Finding}
use Rattle.fc_graph.proofs.cycles.marks_of.Given as goal

abbrev pub invariant-loop-finding : goal.invariant-loop-finding
invariant-loop-finding l = l.marks.items ≡ map (λ (f : Finding). f.marked) (take l.finding-index l.findings)
