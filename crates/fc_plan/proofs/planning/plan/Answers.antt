use Rattle.std.proofs.Common.{rules, ◌≡◌, Some, None, sym, subst}
use Rattle.fc_plan.specs.Modules.{modules_of, names_of}
use Rattle.fc_plan.specs.Numbering.{AreNeeds, number_in}
use Rattle.fc_plan.specs.Refusing.{Tells}
use Rattle.fc_plan.specs.Turning.{AreUnderway, first_unbuilt, is_marked}
use Rattle.fc_plan.proofs.Turned.{underway_fault}
use Rattle.fc_plan.proofs.planning.plan.Goals as goal

pub returns-in-None-clause-planned : goal.returns-in-None-clause-planned
returns-in-None-clause-planned c =
    let ms = modules_of c.args.modules.now in
    let marks = c.in_ok-turns.turns.built.items in
    let needed : AreNeeds (number_in ms) ms c.in_ok-needs.needs = search rules in
    let turns : AreUnderway c.in_ok-needs.needs marks c.in_ok-turns.turns.order 0 = search rules in
    let left : first_unbuilt (is_marked marks) 0 (names_of ms) ≡ None = search rules in
    underway_fault ms c.in_ok-needs.needs marks c.in_ok-turns.turns.order None c.in_ok-numbers.ensures.distinct c.in_ok-needs.ensures.known needed turns left

pub returns-clause-fault : goal.returns-clause-fault
returns-clause-fault c =
    let ms = modules_of c.args.modules.now in
    let marks = c.in_ok-turns.turns.built.items in
    let needed : AreNeeds (number_in ms) ms c.in_ok-needs.needs = search rules in
    let turns : AreUnderway c.in_ok-needs.needs marks c.in_ok-turns.turns.order 0 = search rules in
    let left : first_unbuilt (is_marked marks) 0 (names_of ms) ≡ Some c.in-Some.name.now = search rules in
    subst (λ p. Tells p c.refusal.result)
    (sym
    (underway_fault ms c.in_ok-needs.needs marks c.in_ok-turns.turns.order (Some c.in-Some.name.now) c.in_ok-numbers.ensures.distinct
    c.in_ok-needs.ensures.known needed turns left))
    c.refusal.ensures
