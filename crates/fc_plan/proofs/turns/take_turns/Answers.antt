use Rattle.std.proofs.Common.{arith, rules, ◌≡◌, ◌+◌, ◌-◌, ◌++◌, ◌<◌, [], ◌∷◌, Some, None, suc, true, length, set, subst, sym, ap, ◌∙◌}
use Rattle.std.proofs.lemmas.List.{length-set, length-replicate}
use Rattle.fc_plan.specs.Turning.{AreUnderway, first_free, is_marked}
use Rattle.fc_plan.proofs.Turned.{underway_more, underway_none, underway_stuck}
use Rattle.fc_plan.proofs.turns.take_turns.Goals as goal

pub loop-turn-init : goal.loop-turn-init
loop-turn-init c = record {
  marks = ap length c.in_ok-turns.ensures.built ∙ length-replicate (length c.args.needs.now) _;
  turns = underway_none c.args.needs.now c.in_ok-turns.turns.built.items c.in_ok-turns.turns.order (length c.args.needs.now) _ c.in_ok-turns.ensures.built c.in_ok-turns.ensures.order (omega arith);
}

pub loop-turn-preserved : goal.loop-turn-preserved
loop-turn-preserved c =
    let needs = c.args.needs.now in
    let marks = c.loop-turn.turns.built.items in
    let order = c.loop-turn.turns.order in
    let n = c.in-Some.number in
    let most = length needs - (c.loop-turn._turn-index + 1) in
    let free : first_free (is_marked marks) 0 needs ≡ Some n = search rules in
    let one : length needs - c.loop-turn._turn-index ≡ suc most = omega arith in
    let set_marks : c.build.new.self.built.items ≡ set marks n true = search rules in
    let set_order : c.build.new.self.order ≡ order ++ n ∷ [] = search rules in
    let low : n < length marks = omega (arith, c.in-Some.ensures.within) in
    let more = underway_more needs marks order most (length needs - c.loop-turn._turn-index) n c.loop-turn.invariant.turns one low free in
    record {
      marks = ap length set_marks ∙ length-set marks n true ∙ c.loop-turn.invariant.marks;
      turns =
          subst (λ bs. AreUnderway needs bs c.build.new.self.order most) (sym set_marks)
          (subst (λ ns. AreUnderway needs (set marks n true) ns most) (sym set_order) more);
    }

pub returns-in-None : goal.returns-in-None
returns-in-None c =
    let needs = c.args.needs.now in
    let marks = c.loop-turn.turns.built.items in
    let free : first_free (is_marked marks) 0 needs ≡ None = search rules in
    underway_stuck needs marks c.loop-turn.turns.order (length needs - c.loop-turn._turn-index) c.loop-turn.invariant.turns free
