use Rattle.std.proofs.Common.{arith, rules, ◌≡◌, ◌+◌, ◌∷◌, true, false, drop, is_some, subst, sym}
use Rattle.std.proofs.lemmas.List.{drop_all}
use Rattle.std.specs.List.{list_all}
use Rattle.fc_syntax.specs.View.{module_of}
use Rattle.fc_model.proofs.Lists.{drop_item}
use Rattle.fc_plan.specs.Modules.{modules_of}
use Rattle.fc_plan.specs.Numbering.{AreNumbersOf, at}
use Rattle.fc_plan.specs.Refusing.{Tells}
use Rattle.fc_plan.proofs.Needed.{IsGathering, gathering_all, gathering_more, gathering_unknown}
use Rattle.fc_plan.proofs.needs.needs_of.Goals as goal

pub loop-module-preserved : goal.loop-module-preserved
loop-module-preserved c =
    let m = c.module-item.result in
    let ms = modules_of c.args.modules.now in
    let number = at c.args.numbers.now in
    let rest = drop (c.loop-module.module-index + 1) c.args.modules.now in
    let here : drop c.loop-module.module-index c.args.modules.now ≡ m ∷ rest = drop_item c.args.modules.now c.loop-module.module-index m (omega arith) c.module-item.is in
    let gathering = subst (λ left. IsGathering number ms (modules_of left) c.loop-module.needs) here c.loop-module.invariant in
    let known : true ≡ list_all (λ w. is_some (number w)) m.imports = search rules in
    let found : AreNumbersOf number m.imports c.in-Some.found = search rules in
    subst (IsGathering number ms (modules_of rest)) (sym c.in_ok-push-in-Some.ensures.ok)
    (gathering_more number ms (modules_of rest) (module_of m) c.loop-module.needs c.in-Some.found c.requires.numbers gathering known found)

pub returns-in-None-clause-fault : goal.returns-in-None-clause-fault
returns-in-None-clause-fault c =
    let m = c.module-item.result in
    let ms = modules_of c.args.modules.now in
    let number = at c.args.numbers.now in
    let rest = drop (c.loop-module.module-index + 1) c.args.modules.now in
    let here : drop c.loop-module.module-index c.args.modules.now ≡ m ∷ rest = drop_item c.args.modules.now c.loop-module.module-index m (omega arith) c.module-item.is in
    let gathering = subst (λ left. IsGathering number ms (modules_of left) c.loop-module.needs) here c.loop-module.invariant in
    let known : false ≡ list_all (λ w. is_some (number w)) m.imports = search rules in
    subst (λ p. Tells p c.refusal.result)
    (sym (gathering_unknown number ms (modules_of rest) (module_of m) c.loop-module.needs c.requires.numbers c.requires.distinct gathering known))
    c.refusal.ensures

pub returns-clause-needs : goal.returns-clause-needs
returns-clause-needs c =
    let ms = modules_of c.args.modules.now in
    let number = at c.args.numbers.now in
    gathering_all number ms c.loop-module.needs c.requires.numbers
    (subst (λ left. IsGathering number ms (modules_of left) c.loop-module.needs) (drop_all c.loop-module.module-index c.args.modules.now (omega arith)) c.loop-module.invariant)
