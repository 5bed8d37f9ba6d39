use Rattle.std.proofs.Common.{◌≡◌, ◌+◌, max, drop}
use Rattle.fc_syntax.specs.View.{decls_of}
use Rattle.fc_syntax.specs.Measures.{decls_nodes, decls_size}
use Rattle.fc_nameless_measures.specs.Depths.{decls_depth}
use Rattle.fc_nameless_measures.proofs.declarations.measures_of_module.Given as goal

abbrev pub invariant-loop-x : goal.invariant-loop-x
invariant-loop-x l = (l.all.nodes + decls_nodes (decls_of (drop l.x-index l.m.decls)) ≡ decls_nodes (decls_of l.m.decls))
    × (l.all.size + decls_size (decls_of (drop l.x-index l.m.decls)) ≡ decls_size (decls_of l.m.decls))
    × (max l.all.depth (decls_depth (decls_of (drop l.x-index l.m.decls))) ≡ decls_depth (decls_of l.m.decls))
