use Rattle.std.proofs.Common.{vec_len}
use Rattle.fc_graph.proofs.components.Search.close.Given as goal

abbrev pub decreases-loop-number : goal.decreases-loop-number
decreases-loop-number l = vec_len l.self.pending
