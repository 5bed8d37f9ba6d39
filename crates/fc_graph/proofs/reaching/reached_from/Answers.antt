use Rattle.std.proofs.Common.{arith, ◌≡◌, ◌++◌, [], ◌∷◌, length, subst}
use Rattle.std.proofs.lemmas.List.{nil_from_length}
use Rattle.fc_graph.specs.Graphs.{IsSearched}
use Rattle.fc_graph.proofs.Searching.{searched_all, searched_next, searched_none}
use Rattle.fc_graph.proofs.reaching.reached_from.Goals as goal

pub loop-number-init : goal.loop-number-init
loop-number-init c =
    c.in_ok-find_all.ensures.searched c.args.graph.now c.args.roots.now
    (searched_none c.args.graph.now c.args.roots.now _ _ c.in_ok-search.ensures.marks c.in_ok-search.ensures.waiting)

pub loop-number-preserved : goal.loop-number-preserved
loop-number-preserved c =
    let was : c.loop-number.search.waiting.items ≡ c.pop.new.self.items ++ c.in-Some.number ∷ [] = c.in-Some.ensures.items in
    c.in_ok-find_next.ensures.searched c.args.graph.now c.args.roots.now
    (searched_next c.args.graph.now c.args.roots.now _ _ _ (subst (λ ns. IsSearched c.args.graph.now c.args.roots.now c.loop-number.search.marks.items ns []) was c.loop-number.invariant))

pub returns : goal.returns
returns c =
    let none : length c.loop-number.search.waiting.items ≡ 0 = omega (arith, c.loop-number.search.waiting.ok.0, c.in_default.ensures.cases.0) in
    let empty : c.loop-number.search.waiting.items ≡ [] = nil_from_length _ none in
    searched_all c.args.graph.now c.args.roots.now c.loop-number.search.marks.items (subst (λ ns. IsSearched c.args.graph.now c.args.roots.now c.loop-number.search.marks.items ns []) empty c.loop-number.invariant)
