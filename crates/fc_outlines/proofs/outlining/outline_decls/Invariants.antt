use Rattle.std.proofs.Common.{◌≡◌, map, take}
use Rattle.fc_model.specs.NamelessView.{ndecls_of}
use Rattle.fc_outlines.specs.Outlines.{outlined_decl}
use Rattle.fc_outlines.proofs.outlining.outline_decls.Given as goal

abbrev pub invariant-loop-x : goal.invariant-loop-x
invariant-loop-x l = ndecls_of l.all ≡ map outlined_decl (ndecls_of (take l.x-index l.items))
