use Rattle.std.proofs.Common.{Some, None}
use Rattle.fc_model.specs.NamelessView.{ndecl_of}
use Rattle.fc_types.proofs.ByNumber.{value_at}
use Rattle.fc_types.specs.Listed.{axioms_in, own_axiom, own_axioms}
use Rattle.fc_types.proofs.declarations.Declarations.axiom_at.Goals as goal

pub returns-in-None-clause-value : goal.returns-in-None-clause-value
unfolding axioms_in
returns-in-None-clause-value c = value_at (λ a. ndecl_of a.decl.now) c.args.self.now.tables.axioms.entries c.args.number None c.in-None.ensures.entry

pub returns-in-None-clause-own : goal.returns-in-None-clause-own
unfolding own_axioms
returns-in-None-clause-own c = value_at own_axiom c.args.self.now.tables.axioms.entries c.args.number None c.in-None.ensures.entry

pub returns-in-Some-clause-value : goal.returns-in-Some-clause-value
unfolding axioms_in
returns-in-Some-clause-value c =
    value_at (λ a. ndecl_of a.decl.now) c.args.self.now.tables.axioms.entries c.args.number (Some (c.in-Some.field-0-0.now, c.in-Some.axiom.now)) c.in-Some.ensures.entry

pub returns-in-Some-clause-own : goal.returns-in-Some-clause-own
unfolding own_axioms
returns-in-Some-clause-own c =
    value_at own_axiom c.args.self.now.tables.axioms.entries c.args.number (Some (c.in-Some.field-0-0.now, c.in-Some.axiom.now)) c.in-Some.ensures.entry
