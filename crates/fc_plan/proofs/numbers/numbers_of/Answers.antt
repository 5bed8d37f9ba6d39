use Rattle.std.proofs.Common.{arith, rules, ◌≡◌, ◌+◌, ◌∷◌, true, false, drop, is_some, subst, sym}
use Rattle.fc_syntax.specs.View.{module_of}
use Rattle.fc_model.proofs.Lists.{drop_item}
use Rattle.fc_plan.specs.Modules.{modules_of}
use Rattle.fc_plan.specs.Numbering.{at}
use Rattle.fc_plan.specs.Refusing.{Tells}
use Rattle.fc_plan.proofs.Numbered.{IsNumbering, numbering_more, numbering_repeated, was_free, was_there}
use Rattle.fc_plan.proofs.numbers.numbers_of.Goals as goal

pub loop-number-preserved : goal.loop-number-preserved
loop-number-preserved c =
    let m = c.index-modules-number.result in
    let rest = drop (c.loop-number.number + 1) c.args.modules.now in
    let here : drop c.loop-number.number c.args.modules.now ≡ m ∷ rest = drop_item c.args.modules.now c.loop-number.number m (omega arith) c.index-modules-number.is in
    let numbering = subst (λ ms. IsNumbering (at c.loop-number.numbers) c.loop-number.number (modules_of c.args.modules.now) (modules_of ms)) here c.loop-number.invariant in
    let free : is_some (at c.loop-number.numbers m.name) ≡ false = was_free c.in_ok-add.field-0 (is_some (at c.loop-number.numbers m.name)) c.if-not-branch.false c.in_ok-add.ensures.free in
    numbering_more (at c.loop-number.numbers) (at c.add.new.numbers) c.loop-number.number (modules_of c.args.modules.now) (modules_of rest) (module_of m) numbering free
    (c.in_ok-add.ensures.put (search rules))

pub returns-then-not-branch-clause-fault : goal.returns-then-not-branch-clause-fault
returns-then-not-branch-clause-fault c =
    let m = c.index-modules-number.result in
    let rest = drop (c.loop-number.number + 1) c.args.modules.now in
    let here : drop c.loop-number.number c.args.modules.now ≡ m ∷ rest = drop_item c.args.modules.now c.loop-number.number m (omega arith) c.index-modules-number.is in
    let numbering = subst (λ ms. IsNumbering (at c.loop-number.numbers) c.loop-number.number (modules_of c.args.modules.now) (modules_of ms)) here c.loop-number.invariant in
    let there : is_some (at c.loop-number.numbers m.name) ≡ true = was_there c.in_ok-add.field-0 (is_some (at c.loop-number.numbers m.name)) c.if-not-branch.true c.in_ok-add.ensures.free in
    subst (λ p. Tells p c.refusal.result)
    (sym (numbering_repeated (at c.loop-number.numbers) c.loop-number.number (modules_of c.args.modules.now) (modules_of rest) (module_of m) numbering there))
    c.refusal.ensures
