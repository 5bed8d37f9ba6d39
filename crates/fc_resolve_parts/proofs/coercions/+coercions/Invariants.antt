use Rattle.std.proofs.Common.{◌≡◌, drop, take}
use Rattle.fc_syntax.specs.Hints.{cos_hints}
use Rattle.fc_syntax.specs.View.{cos_of}
use Rattle.fc_model.specs.DeclaredWords.{top_by}
use Rattle.fc_model.specs.Resolution.{resolved_cos}
use Rattle.fc_scope.specs.ScopeWords.{locals_of}
use Rattle.fc_resolve_parts.specs.Building.{with_cos}
use Rattle.fc_resolve_parts.proofs.coercions.+coercions.Given as goal

-- what is resolved, with what is still to come, answers as the whole
abbrev pub invariant-resolved_cos-loop-g : goal.invariant-resolved_cos-loop-g
invariant-resolved_cos-loop-g l = record {
  whole : resolved_cos (top_by l.top) (locals_of l.scope) 0 (cos_of l.parts) ≡ with_cos l.out (resolved_cos (top_by l.top) (locals_of l.scope) l.at (cos_of (drop l.g-index l.parts)));
  words : cos_hints (cos_of l.out) ≡ cos_hints (cos_of (take l.g-index l.parts));
}
