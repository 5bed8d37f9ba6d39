use Rattle.std.proofs.Common.{sym, ap, ◌∙◌}
use Rattle.std.specs.Option.{option_and_then}
use Rattle.fc_types.specs.Listed.{own_axiom}
use Rattle.fc_types.specs.TableViews.{axiom_of}
use Rattle.fc_lint_context.proofs.Declared.{axiom_shown, axiom_valid, left_none, right_none}
use Rattle.fc_lint_context.proofs.declared_types.DeclaredTypes.axiom_named.Goals as goal

pub returns-in_err-axiom-clause-view : goal.returns-in_err-axiom-clause-view
returns-in_err-axiom-clause-view c = λ ns r.
    rw c.from_residual-in_err-axiom.ensures (ap (option_and_then (axiom_of c.args.name.now.module)) c.in_err-axiom.ensures.value ∙ c.in_ok-number.ensures.value)

pub returns-in_err-left-clause-view : goal.returns-in_err-left-clause-view
returns-in_err-left-clause-view c = λ ns r.
    rw c.from_residual-in_err-left.ensures
    (ap (option_and_then (axiom_of c.args.name.now.module)) (sym (left_none ns c.args.self.now c.in_ok-number.number r c.in_err-left.ensures)) ∙ c.in_ok-number.ensures.value)

pub returns-in_err-right-clause-view : goal.returns-in_err-right-clause-view
returns-in_err-right-clause-view c = λ ns r.
    rw c.from_residual-in_err-right.ensures
    (ap (option_and_then (axiom_of c.args.name.now.module)) (sym (right_none ns c.args.self.now c.in_ok-number.number r c.in_err-right.ensures)) ∙ c.in_ok-number.ensures.value)

pub returns-clause-view : goal.returns-clause-view
returns-clause-view c = λ ns r. ap (option_and_then (axiom_of c.args.name.now.module)) c.in_ok-axiom.ensures.value ∙ c.in_ok-number.ensures.value

pub returns-clause-valid : goal.returns-clause-valid
returns-clause-valid c = λ ns ks r. axiom_valid ns ks c.args.self.now c.in_ok-number.number _ r (sym c.in_ok-left.ensures) (sym c.in_ok-right.ensures)

pub returns-clause-sides : goal.returns-clause-sides
returns-clause-sides c = λ ns ks r a is.
    axiom_shown ns ks c.args.self.now c.in_ok-number.number c.args.name.now (own_axiom c.in_ok-axiom.axiom) _ a r (sym c.in_ok-left.ensures) (sym c.in_ok-right.ensures) c.in_ok-axiom.ensures.own
    c.in_ok-number.ensures.own is
