use Rattle.std.proofs.Common.{◌≡◌, drop}
use Rattle.fc_model.specs.DeclaredWords.{top_by}
use Rattle.fc_model.specs.NamelessView.{nalts_of, nargs_of, nbinds_of, nexprs_of, njoins_of}
use Rattle.fc_used_words.specs.Around.{counts_of}
use Rattle.fc_scoped.specs.Testing.{alts_scoped, args_scoped, binds_scoped, exprs_scoped, joins_scoped}
use Rattle.fc_scoped.proofs.expressions.+expressions.Given as goal

-- what is still to come is scoped where all are
abbrev pub invariant-args-loop-a : goal.invariant-args-loop-a
invariant-args-loop-a l = args_scoped (top_by l.top) (counts_of l.around) (nargs_of (drop l.a-index l.items)) ≡ args_scoped (top_by l.top) (counts_of l.around) (nargs_of l.items)

abbrev pub invariant-exprs-loop-e : goal.invariant-exprs-loop-e
invariant-exprs-loop-e l = exprs_scoped (top_by l.top) (counts_of l.around) (nexprs_of (drop l.e-index l.items)) ≡ exprs_scoped (top_by l.top) (counts_of l.around) (nexprs_of l.items)

abbrev pub invariant-binds-loop-bind : goal.invariant-binds-loop-bind
invariant-binds-loop-bind l = binds_scoped (top_by l.top) (counts_of l.around) (nbinds_of (drop l.bind-index l.items)) ≡ binds_scoped (top_by l.top) (counts_of l.around) (nbinds_of l.items)

abbrev pub invariant-joins-loop-join : goal.invariant-joins-loop-join
invariant-joins-loop-join l = joins_scoped (top_by l.top) (counts_of l.around) (njoins_of (drop l.join-index l.items)) ≡ joins_scoped (top_by l.top) (counts_of l.around) (njoins_of l.items)

abbrev pub invariant-alts-loop-alt : goal.invariant-alts-loop-alt
invariant-alts-loop-alt l = alts_scoped (top_by l.top) (counts_of l.around) (nalts_of (drop l.alt-index l.items)) ≡ alts_scoped (top_by l.top) (counts_of l.around) (nalts_of l.items)
