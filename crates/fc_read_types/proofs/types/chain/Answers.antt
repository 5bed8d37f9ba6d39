use Rattle.std.proofs.Common.{sym, ap, ◌∙◌, List}
use Rattle.fc_syntax.specs.Tree.{Word}
use Rattle.fc_syntax.specs.View.{ty_of, tys_of}
use Rattle.fc_syntax.specs.declared.ty.Ty as T
use Rattle.fc_model.specs.Grammar.{functions}
use Rattle.fc_read_types.proofs.Chains.{chain_kept, functions_last}
use Rattle.fc_read_types.proofs.types.chain.Goals as goal

pub loop-from-init : goal.loop-from-init
loop-from-init c =
    sym (functions_last (ty_of c.args.first) c.pop.new.self.items c.in-Some.last)
    ∙ ap (λ (us : List (T.Ty Word)). functions (ty_of c.args.first) (tys_of us)) (sym c.in-Some.ensures.items ∙ c.into_vec-front.ensures)

pub loop-from-preserved : goal.loop-from-preserved
loop-from-preserved c = chain_kept _ _ _ _ c.in-Some-pop.from _ _ c.in-Some-pop.ensures.items c.in_ok-t.ensures c.loop-from.invariant
