use Rattle.std.proofs.Common.{take}
use Rattle.fc_model.specs.NamelessView.{nargs_of, nexprs_of, nbinds_of, njoins_of, nalts_of}
use Rattle.fc_model.specs.DeclaredWords.{words_by_space}
use Rattle.fc_scope.specs.ScopeWords.{locals_of}
use Rattle.fc_used_words.specs.Around.{counts_of}
use Rattle.fc_used_words.specs.Used.{AddsArgs, AddsExprs, AddsBinds, AddsJoins, AddsAlts}
use Rattle.fc_used_words.proofs.used_expressions.+uses.Given as goal

abbrev pub invariant-use_args-loop-arg : goal.invariant-use_args-loop-arg
invariant-use_args-loop-arg l = AddsArgs l.own (locals_of l.scope) (counts_of l.inside) (nargs_of (take l.arg-index l.args)) (words_by_space l.fn.used) (words_by_space l.used)

abbrev pub invariant-use_exprs-loop-e : goal.invariant-use_exprs-loop-e
invariant-use_exprs-loop-e l = AddsExprs l.own (locals_of l.scope) (counts_of l.inside) (nexprs_of (take l.e-index l.es)) (words_by_space l.fn.used) (words_by_space l.used)

abbrev pub invariant-use_binds-loop-bind : goal.invariant-use_binds-loop-bind
invariant-use_binds-loop-bind l = AddsBinds l.own (locals_of l.scope) (counts_of l.inside) (nbinds_of (take l.bind-index l.binds)) (words_by_space l.fn.used) (words_by_space l.used)

abbrev pub invariant-use_joins-loop-join : goal.invariant-use_joins-loop-join
invariant-use_joins-loop-join l = AddsJoins l.own (locals_of l.scope) (counts_of l.inside) (njoins_of (take l.join-index l.joins)) (words_by_space l.fn.used) (words_by_space l.used)

abbrev pub invariant-use_alts-loop-alt : goal.invariant-use_alts-loop-alt
invariant-use_alts-loop-alt l = AddsAlts l.own (locals_of l.scope) (counts_of l.inside) (nalts_of (take l.alt-index l.alts)) (words_by_space l.fn.used) (words_by_space l.used)
