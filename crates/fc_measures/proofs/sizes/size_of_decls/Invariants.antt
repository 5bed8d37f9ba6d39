use Rattle.std.proofs.Common.{◌≡◌, ◌≤◌, ◌+◌, min, drop}
use Rattle.fc_syntax.specs.View.{decls_of}
use Rattle.fc_syntax.specs.Measures.{decls_size}
use Rattle.fc_measures.proofs.sizes.size_of_decls.Given as goal

abbrev pub invariant-loop-x : goal.invariant-loop-x
invariant-loop-x l = (l.sum ≤ l.most) × (min (decls_size (decls_of l.items)) l.most ≡ min (l.sum + decls_size (decls_of (drop l.x-index l.items))) l.most)
