use Rattle.std.proofs.Common.{◌≡◌, ◌++◌, drop}
use Rattle.fc_log.specs.Dots.{dotted_text}
use Rattle.fc_log.proofs.printing.put_dotted.Given as goal

abbrev pub invariant-loop-part : goal.invariant-loop-part
invariant-loop-part l = l.to.items ++ dotted_text (drop l.part-index l.parts) ≡ l.fn.to.items ++ dotted_text l.parts
