use Rattle.std.proofs.Common.{sym, ap, ◌∙◌, List}
use Rattle.fc_syntax.specs.Tree.{Word}
use Rattle.fc_syntax.specs.View.{binders_of, expr_of}
use Rattle.fc_syntax.specs.declared.expr.Binder as B
use Rattle.fc_model.specs.Grammar.{lambdas}
use Rattle.fc_read_terms.proofs.Lists.{lambdas_last}
use Rattle.fc_read_terms.proofs.trees.lambdas.Goals as goal

pub loop-binder-preserved : goal.loop-binder-preserved
loop-binder-preserved c =
    ap (λ x. lambdas (binders_of c.pop.new.self.items) x) c.in_ok-e.ensures
    ∙ sym (lambdas_last c.pop.new.self.items c.in-Some.binder (expr_of c.loop-binder.e))
    ∙ ap (λ (bs : List (B.Binder Word)). lambdas (binders_of bs) (expr_of c.loop-binder.e)) (sym c.in-Some.ensures.items)
    ∙ c.loop-binder.invariant
