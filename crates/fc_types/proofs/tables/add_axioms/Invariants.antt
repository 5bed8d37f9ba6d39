use Rattle.std.proofs.Common.{◌≡◌, drop}
use Rattle.fc_syntax.specs.Tree.{Word}
use Rattle.fc_model.specs.Calling.{first_of}
use Rattle.fc_types.specs.FirstDeclared.{first_axiom, in_module}
use Rattle.fc_types.specs.TableViews.{axiom_entry}
use Rattle.fc_types.proofs.tables.add_axioms.Given as goal

abbrev pub invariant-loop-decl : goal.invariant-loop-decl
invariant-loop-decl l = (m w : Word) →
    first_of (axiom_entry l.axioms m w) (in_module l.qualifier m (first_axiom l.qualifier (drop l.decl-index l.decls) w)) ≡ first_of (axiom_entry l.initial.axioms m w) (in_module l.qualifier m (first_axiom l.qualifier l.decls w))
