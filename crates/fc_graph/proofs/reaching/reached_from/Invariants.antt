use Rattle.std.proofs.Common.{[]}
use Rattle.fc_graph.specs.Graphs.{IsSearched, left_in}
use Rattle.fc_graph.proofs.reaching.reached_from.Given as goal

abbrev pub invariant-loop-number : goal.invariant-loop-number
invariant-loop-number l = IsSearched l.graph l.roots l.search.marks.items l.search.waiting.items []

abbrev pub decreases-loop-number : goal.decreases-loop-number
decreases-loop-number l = left_in l.search.marks.items l.search.waiting.items
