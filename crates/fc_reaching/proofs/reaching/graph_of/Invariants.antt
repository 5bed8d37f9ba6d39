use Rattle.std.proofs.Common.{◌≡◌, take}
use Rattle.fc_model.specs.NamelessView.{ndecls_of}
use Rattle.fc_reaching.specs.DefinitionsView.{meant_by}
use Rattle.fc_reaching.specs.Numbering.{mention_graph}
use Rattle.fc_reaching.proofs.reaching.graph_of.Given as goal

abbrev pub invariant-loop-decl : goal.invariant-loop-decl
invariant-loop-decl l = l.graph ≡ mention_graph (meant_by l.definitions) (ndecls_of (take l.decl-index l.decls))
