use Rattle.std.proofs.Common.{◌≡◌, ◌-◌, length}
use Rattle.fc_plan.specs.Turning.{AreUnderway}
use Rattle.fc_plan.proofs.turns.take_turns.Given as goal

abbrev pub invariant-loop-turn : goal.invariant-loop-turn
invariant-loop-turn l = record {
  marks : length l.turns.built.items ≡ length l.needs;
  turns : AreUnderway l.needs l.turns.built.items l.turns.order (length l.needs - l._turn-index);
}
