use Rattle.std.proofs.Common.{◌≡◌, ◌++◌, drop}
use Rattle.fc_model.specs.Headers.{others}
use Rattle.fc_model.specs.WordSets.{set_of}
use Rattle.fc_headers.proofs.written.push_others.Given as goal

abbrev pub invariant-loop-word : goal.invariant-loop-word
invariant-loop-word l = l.out ++ others (set_of l.seen) (drop l.word-index l.words) ≡ l.fn.out ++ others (set_of l.fn.seen) l.words
