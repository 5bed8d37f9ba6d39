use Rattle.std.proofs.Common.{◌≡◌, drop}
use Rattle.fc_syntax.specs.Tree.{Word}
use Rattle.fc_model.specs.Calling.{first_of}
use Rattle.fc_types.specs.FirstDeclared.{first_type_decl, in_module}
use Rattle.fc_types.specs.TableViews.{decl_at}
use Rattle.fc_types.proofs.tables.add_types.Given as goal

abbrev pub invariant-loop-decl : goal.invariant-loop-decl
invariant-loop-decl l = (m w : Word) →
    first_of (decl_at l.types m w) (in_module l.qualifier m (first_type_decl (drop l.decl-index l.decls) w)) ≡ first_of (decl_at l.initial.types m w) (in_module l.qualifier m (first_type_decl l.decls w))
