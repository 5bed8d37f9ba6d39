use Rattle.std.proofs.Common.{◌++◌, ap, refl, reverse}
use Rattle.fc_lint_context.specs.CoercionViews.{proven_of}
use Rattle.fc_lint_context.specs.LocalViews.{numbers_of}
use Rattle.fc_lint_context.proofs.Contexts.{context_behind_binders, valid_behind_binders, entered_kinds}
use Rattle.fc_lint_context.proofs.context.Context.behind_binders.Goals as goal

pub returns-clause-scope : goal.returns-clause-scope
returns-clause-scope c = λ ns bs h. entered_kinds _ _ bs _ c.requires.kinds h.kinds

pub returns-clause-valid : goal.returns-clause-valid
returns-clause-valid c = λ ns bs h g.
    valid_behind_binders ns c.args.self.now _ bs c.args.entered.now h g (entered_kinds _ _ bs _ c.requires.kinds h.kinds) refl c.requires.numbered (ap (λ es. reverse es ++ proven_of c.args.self.now.coercions) c.as_slice.ensures)
    (ap (λ ids. reverse ids ++ numbers_of c.args.self.now.locals) c.as_slice-2.ensures) refl

pub returns-clause-view : goal.returns-clause-view
returns-clause-view c = λ ns bs h g.
    context_behind_binders ns c.args.self.now _ bs c.args.entered.now h g (entered_kinds _ _ bs _ c.requires.kinds h.kinds) (ap (λ es. reverse es ++ proven_of c.args.self.now.coercions) c.as_slice.ensures)
    (ap (λ ids. reverse ids ++ numbers_of c.args.self.now.locals) c.as_slice-2.ensures) refl
