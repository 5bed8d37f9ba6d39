use Rattle.std.proofs.Common.{◌≡◌, length}
use Rattle.fc_probe_forms.proofs.reaching.rename_in.Given as goal

abbrev pub invariant-loop-number : goal.invariant-loop-number
invariant-loop-number l = length l.n.decls ≡ length l.initial.n.decls
