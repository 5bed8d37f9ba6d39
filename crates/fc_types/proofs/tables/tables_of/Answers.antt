use Rattle.std.proofs.Common.{take, ◌∷◌, [], ◌++◌, ap, arith, subst, sym, ◌∙◌}
use Rattle.std.proofs.lemmas.List.{take_more}
use Rattle.fc_types.specs.Built.{AreTables}
use Rattle.fc_types.proofs.tables.tables_of.Goals as goal

pub loop-m-preserved : goal.loop-m-preserved
loop-m-preserved c =
    let ms = c.args.modules.now in
    let i = c.loop-m.m-index in
    let m = c.m-item.result in
    subst (λ done. AreTables done c.add_first.new.tables) (sym (take_more ms i m (omega arith) ∙ ap (λ x. take i ms ++ x ∷ []) (sym c.m-item.is))) (c.in_ok-add_first.ensures (take i ms) c.loop-m.invariant)
