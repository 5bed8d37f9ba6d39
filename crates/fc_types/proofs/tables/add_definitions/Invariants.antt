use Rattle.std.proofs.Common.{◌≡◌, drop}
use Rattle.fc_syntax.specs.Tree.{Word}
use Rattle.fc_model.specs.Calling.{first_of}
use Rattle.fc_types.specs.FirstDeclared.{first_definition, in_module}
use Rattle.fc_types.specs.TableViews.{definition_at}
use Rattle.fc_types.proofs.tables.add_definitions.Given as goal

abbrev pub invariant-loop-decl : goal.invariant-loop-decl
invariant-loop-decl l = (m w : Word) →
    first_of (definition_at l.definitions m w) (in_module l.qualifier m (first_definition (drop l.decl-index l.decls) w)) ≡ first_of (definition_at l.initial.definitions m w) (in_module l.qualifier m (first_definition l.decls w))
