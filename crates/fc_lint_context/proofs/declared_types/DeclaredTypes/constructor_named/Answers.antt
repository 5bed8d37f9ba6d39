use Rattle.std.proofs.Common.{sym, ◌∙◌}
use Rattle.fc_lint_context.proofs.Declared.{constructor_none, constructor_valid, constructor_shown}
use Rattle.fc_types.specs.Listed.{own_constructor}
use Rattle.fc_lint_context.proofs.declared_types.DeclaredTypes.constructor_named.Goals as goal

pub returns-in_err-ty-clause-view : goal.returns-in_err-ty-clause-view
returns-in_err-ty-clause-view c = λ ns r.
    rw c.from_residual-in_err-ty.ensures (sym (constructor_none ns c.args.self.now c.in_ok-number.number r c.in_err-ty.ensures) ∙ c.in_ok-number.ensures.value)

pub returns-clause-valid : goal.returns-clause-valid
returns-clause-valid c = λ ns ks r. constructor_valid ns ks c.args.self.now c.in_ok-number.number c.in_ok-ty.ty.now r (sym c.in_ok-ty.ensures)

pub returns-clause-ty : goal.returns-clause-ty
returns-clause-ty c = λ ns ks r.
    constructor_shown ns ks c.args.self.now c.in_ok-number.number c.in_ok-ty.ty.now c.args.name.now (own_constructor c.in_ok-con.con) r (sym c.in_ok-ty.ensures) c.in_ok-con.ensures.own c.in_ok-number.ensures.own
