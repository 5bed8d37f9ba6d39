use Rattle.std.proofs.Common.{arith, ◌≡◌, ◌+◌, ◌∷◌, drop, get_or, subst}
use Rattle.std.proofs.lemmas.List.{drop_more}
use Rattle.fc_graph.specs.Graphs.{GoesOn}
use Rattle.fc_graph.proofs.Searching.{goes_on_both}
use Rattle.fc_graph.proofs.reaching.Search.find_all.Goals as goal

pub loop-number-preserved : goal.loop-number-preserved
loop-number-preserved c =
    let rest = drop (c.loop-number.number-index + 1) c.args.numbers.now in
    let here : drop c.loop-number.number-index c.args.numbers.now ≡ get_or c.args.numbers.now c.loop-number.number-index 0 ∷ rest = drop_more c.args.numbers.now c.loop-number.number-index 0 (omega arith) in
    goes_on_both _ _ _ _ _ _ _ _ _ (subst (GoesOn c.args.self.now.marks.items c.args.self.now.waiting.items c.args.numbers.now c.loop-number.self.marks.items c.loop-number.self.waiting.items) here c.loop-number.invariant) (c.in_ok-find.ensures rest)
