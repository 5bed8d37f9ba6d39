use Rattle.std.proofs.Common.{◌≡◌, take}
use Rattle.fc_syntax.specs.View.{exprs_of, args_of, binds_of, joins_of, alts_of}
use Rattle.fc_copies.proofs.nameless.expressions.+copies.Given as goal

abbrev pub invariant-copy_exprs-loop-x : goal.invariant-copy_exprs-loop-x
invariant-copy_exprs-loop-x l = exprs_of l.all ≡ exprs_of (take l.x-index l.items)

abbrev pub invariant-copy_args-loop-x : goal.invariant-copy_args-loop-x
invariant-copy_args-loop-x l = args_of l.all ≡ args_of (take l.x-index l.items)

abbrev pub invariant-copy_binds-loop-x : goal.invariant-copy_binds-loop-x
invariant-copy_binds-loop-x l = binds_of l.all ≡ binds_of (take l.x-index l.items)

abbrev pub invariant-copy_joins-loop-x : goal.invariant-copy_joins-loop-x
invariant-copy_joins-loop-x l = joins_of l.all ≡ joins_of (take l.x-index l.items)

abbrev pub invariant-copy_alts-loop-x : goal.invariant-copy_alts-loop-x
invariant-copy_alts-loop-x l = alts_of l.all ≡ alts_of (take l.x-index l.items)
