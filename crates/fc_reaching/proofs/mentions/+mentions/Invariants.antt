use Rattle.std.proofs.Common.{take}
use Rattle.fc_model.specs.NamelessView.{nargs_of, nexprs_of, nbinds_of, njoins_of, nalts_of}
use Rattle.fc_reaching.specs.DefinitionsView.{meant_by}
use Rattle.fc_reaching.specs.Numbering.{AddsNames}
use Rattle.fc_reaching.specs.Reaching.{names_in_alts, names_in_args, names_in_binds, names_in_exprs, names_in_joins}
use Rattle.fc_reaching.proofs.mentions.+mentions.Given as goal

abbrev pub invariant-mention_args-loop-arg : goal.invariant-mention_args-loop-arg
invariant-mention_args-loop-arg l = AddsNames (meant_by l.definitions) (names_in_args (nargs_of (take l.arg-index l.args))) l.fn.found l.found

abbrev pub invariant-mention_exprs-loop-e : goal.invariant-mention_exprs-loop-e
invariant-mention_exprs-loop-e l = AddsNames (meant_by l.definitions) (names_in_exprs (nexprs_of (take l.e-index l.es))) l.fn.found l.found

abbrev pub invariant-mention_binds-loop-bind : goal.invariant-mention_binds-loop-bind
invariant-mention_binds-loop-bind l = AddsNames (meant_by l.definitions) (names_in_binds (nbinds_of (take l.bind-index l.binds))) l.fn.found l.found

abbrev pub invariant-mention_joins-loop-join : goal.invariant-mention_joins-loop-join
invariant-mention_joins-loop-join l = AddsNames (meant_by l.definitions) (names_in_joins (njoins_of (take l.join-index l.joins))) l.fn.found l.found

abbrev pub invariant-mention_alts-loop-alt : goal.invariant-mention_alts-loop-alt
invariant-mention_alts-loop-alt l = AddsNames (meant_by l.definitions) (names_in_alts (nalts_of (take l.alt-index l.alts))) l.fn.found l.found
