use Rattle.std.proofs.Common.{◌≡◌, drop, take}
use Rattle.fc_syntax.specs.Hints.{tys_hints}
use Rattle.fc_syntax.specs.View.{tys_of}
use Rattle.fc_model.specs.DeclaredWords.{top_by}
use Rattle.fc_model.specs.NamelessView.{nty_of}
use Rattle.fc_model.specs.Resolution.{resolved_tys}
use Rattle.fc_scope.specs.ScopeWords.{locals_of}
use Rattle.fc_resolve_parts.specs.Building.{with_items}
use Rattle.fc_resolve_parts.proofs.types.resolved_tys.Given as goal

-- what is resolved, with what is still to come, answers as the whole
abbrev pub invariant-loop-t : goal.invariant-loop-t
invariant-loop-t l = record {
  whole : resolved_tys (top_by l.top) (locals_of l.scope).types l.first (tys_of l.types) ≡ with_items nty_of l.out (resolved_tys (top_by l.top) (locals_of l.scope).types l.at (tys_of (drop l.t-index l.types)));
  words : tys_hints (tys_of l.out) ≡ tys_hints (tys_of (take l.t-index l.types));
}
