use Rattle.std.proofs.Common.{◌≡◌, drop}
use Rattle.fc_syntax.specs.Tree.{Word}
use Rattle.fc_model.specs.Calling.{first_of}
use Rattle.fc_types.specs.FirstDeclared.{first_constructor, in_module}
use Rattle.fc_types.specs.TableViews.{numbered_at}
use Rattle.fc_types.proofs.tables.add_constructors.Given as goal

abbrev pub invariant-loop-decl : goal.invariant-loop-decl
invariant-loop-decl l = (m w : Word) →
    first_of (numbered_at l.constructors m w) (in_module l.qualifier m (first_constructor l.qualifier (drop l.decl-index l.decls) w)) ≡ first_of (numbered_at l.initial.constructors m w) (in_module l.qualifier m (first_constructor l.qualifier l.decls w))
