use Rattle.std.proofs.Common.{◌≡◌, drop}
use Rattle.std.specs.List.{list_all}
use Rattle.fc_model.specs.WordSets.{set_of}
use Rattle.fc_lint_declarations.proofs.exports.has_all.Given as goal

abbrev pub invariant-loop-word : goal.invariant-loop-word
invariant-loop-word l = list_all (set_of l.declared) l.words ≡ list_all (set_of l.declared) (drop l.word-index l.words)
