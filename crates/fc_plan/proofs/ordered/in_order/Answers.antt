use Rattle.std.proofs.Common.{◌∙◌, ◌+◌, ℕ, ◌++◌, List, drop, map, slice_get, sym, ap}
use Rattle.std.proofs.lemmas.List.{drop_more}
use Rattle.std.specs.List.{filter_map}
use Rattle.fc_syntax.specs.View.{module_of}
use Rattle.fc_plan.specs.Modules.{behind}
use Rattle.fc_plan.proofs.ordered.in_order.Goals as goal

pub loop-number-preserved : goal.loop-number-preserved
loop-number-preserved c =
    let ns = c.args.order.now in
    let i = c.loop-number.number-index in
    let given = slice_get (map module_of c.args.modules.now) in
    c.in_ok-pick.ensures (drop (i + 1) ns) ∙ ap (λ (xs : List ℕ). behind c.loop-number.found.items ++ filter_map given xs) (sym (drop_more ns i 0 c.loop-number-test.true)) ∙ c.loop-number.invariant
