use Rattle.std.proofs.Common.{◌≡◌, drop, take}
use Rattle.fc_syntax.specs.Hints.{alts_hints, args_hints, binds_hints, exprs_hints, joins_hints}
use Rattle.fc_syntax.specs.View.{alts_of, args_of, binds_of, exprs_of, joins_of}
use Rattle.fc_model.specs.DeclaredWords.{top_by}
use Rattle.fc_model.specs.Resolution.{no_word, resolved_alts, resolved_args, resolved_binds, resolved_exprs, resolved_joins}
use Rattle.fc_scope.specs.Among.{among}
use Rattle.fc_scope.specs.ScopeWords.{locals_of}
use Rattle.fc_resolve.specs.Building.{with_alts, with_args, with_binds, with_exprs, with_joins}
use Rattle.fc_resolve.proofs.+resolve.Given as goal

-- what is resolved, with what is still to come, answers as the whole
abbrev pub invariant-expressions::resolved_args-loop-a : goal.invariant-expressions::resolved_args-loop-a
invariant-expressions::resolved_args-loop-a l = record {
  whole : resolved_args (top_by l.top) (locals_of l.scope) 0 (args_of l.args) ≡ with_args l.out (resolved_args (top_by l.top) (locals_of l.scope) l.at (args_of (drop l.a-index l.args)));
  words : args_hints (args_of l.out) ≡ args_hints (args_of (take l.a-index l.args));
}

abbrev pub invariant-expressions::resolved_exprs-loop-e : goal.invariant-expressions::resolved_exprs-loop-e
invariant-expressions::resolved_exprs-loop-e l = record {
  whole : resolved_exprs (top_by l.top) (locals_of l.scope) 0 (exprs_of l.operands) ≡ with_exprs l.out (resolved_exprs (top_by l.top) (locals_of l.scope) l.at (exprs_of (drop l.e-index l.operands)));
  words : exprs_hints (exprs_of l.out) ≡ exprs_hints (exprs_of (take l.e-index l.operands));
}

abbrev pub invariant-alternatives::alternatives-loop-alt : goal.invariant-alternatives::alternatives-loop-alt
invariant-alternatives::alternatives-loop-alt l = record {
  whole : resolved_alts (top_by l.top) (locals_of l.scope) 3 (alts_of l.alts) ≡ with_alts l.out (resolved_alts (top_by l.top) (locals_of l.scope) l.at (alts_of (drop l.alt-index l.alts)));
  words : alts_hints (alts_of l.out) ≡ alts_hints (alts_of (take l.alt-index l.alts));
}

abbrev pub invariant-groups::resolved_binds-loop-bind : goal.invariant-groups::resolved_binds-loop-bind
invariant-groups::resolved_binds-loop-bind l = record {
  whole : resolved_binds (top_by l.top) (locals_of l.scope) no_word 0 (binds_of l.binds) ≡ with_binds l.out (resolved_binds (top_by l.top) (locals_of l.scope) (among l.earlier) l.at (binds_of (drop l.bind-index l.binds)));
  words : binds_hints (binds_of l.out) ≡ binds_hints (binds_of (take l.bind-index l.binds));
}

abbrev pub invariant-groups::resolved_joins-loop-join : goal.invariant-groups::resolved_joins-loop-join
invariant-groups::resolved_joins-loop-join l = record {
  whole : resolved_joins (top_by l.top) (locals_of l.scope) no_word 1 (joins_of l.joins) ≡ with_joins l.out (resolved_joins (top_by l.top) (locals_of l.scope) (among l.earlier) l.at (joins_of (drop l.join-index l.joins)));
  words : joins_hints (joins_of l.out) ≡ joins_hints (joins_of (take l.join-index l.joins));
}
