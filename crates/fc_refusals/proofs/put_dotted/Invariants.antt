use Rattle.std.proofs.Common.{◌≡◌, ◌++◌, drop}
use Rattle.fc_refusals.specs.Lines.{dotted_text}
use Rattle.fc_refusals.proofs.put_dotted.Given as goal

abbrev pub invariant-loop-n : goal.invariant-loop-n
invariant-loop-n l = l.to.items ++ dotted_text (drop l.n-index l.numbers) ≡ l.fn.to.items ++ dotted_text l.numbers
