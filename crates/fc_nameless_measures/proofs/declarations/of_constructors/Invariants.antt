use Rattle.std.proofs.Common.{◌≡◌, ◌+◌, max, drop}
use Rattle.fc_syntax.specs.View.{cons_of}
use Rattle.fc_syntax.specs.Measures.{cons_depth, cons_size}
use Rattle.fc_nameless_measures.proofs.declarations.of_constructors.Given as goal

abbrev pub invariant-loop-x : goal.invariant-loop-x
invariant-loop-x l = (l.all.nodes ≡ 0)
    × (l.all.size + cons_size (cons_of (drop l.x-index l.items)) ≡ cons_size (cons_of l.items))
    × (max l.all.depth (cons_depth (cons_of (drop l.x-index l.items))) ≡ cons_depth (cons_of l.items))
