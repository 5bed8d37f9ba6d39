use Rattle.std.proofs.Common.{drop}
use Rattle.fc_graph.specs.Graphs.{GoesOn}
use Rattle.fc_graph.proofs.reaching.Search.find_all.Given as goal

abbrev pub invariant-loop-number : goal.invariant-loop-number
invariant-loop-number l = GoesOn l.initial.self.marks.items l.initial.self.waiting.items l.numbers l.self.marks.items l.self.waiting.items (drop l.number-index l.numbers)
