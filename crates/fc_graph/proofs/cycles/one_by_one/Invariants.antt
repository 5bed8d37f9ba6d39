use Rattle.std.proofs.Common.{◌≡◌, ◌<◌, ◌↔◌, ℕ, true, length}
use Rattle.fc_graph.specs.Graphs.{HasPath, is_marked}
use Rattle.fc_graph.proofs.cycles.one_by_one.Given as goal

abbrev pub invariant-loop-number : goal.invariant-loop-number
invariant-loop-number l = record {
  count : length l.marks.items ≡ l.number;
  each : (i : ℕ) → i < l.number → (is_marked l.marks.items i ≡ true) ↔ HasPath l.graph i i;
}
