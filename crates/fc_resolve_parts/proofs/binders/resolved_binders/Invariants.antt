use Rattle.std.proofs.Common.{◌≡◌, drop, take}
use Rattle.fc_syntax.specs.Hints.{binders_hints}
use Rattle.fc_syntax.specs.View.{binders_of}
use Rattle.fc_model.specs.DeclaredWords.{top_by}
use Rattle.fc_model.specs.NamelessView.{nbinder_of}
use Rattle.fc_model.specs.Resolution.{enter_all, no_words, resolved_binders}
use Rattle.fc_scope.specs.ScopeWords.{locals_of, with_binders}
use Rattle.fc_resolve_parts.specs.Building.{with_items}
use Rattle.fc_resolve_parts.specs.Entered.{words_of}
use Rattle.fc_resolve_parts.proofs.binders.resolved_binders.Given as goal

-- what is resolved, with what is still to come, answers as the whole, and enters the scope behind the whole
abbrev pub invariant-loop-binder : goal.invariant-loop-binder
invariant-loop-binder l = record {
  whole : resolved_binders (top_by l.top) (locals_of l.scope) no_words 0 (binders_of l.binders)
      ≡ with_items nbinder_of l.out (resolved_binders (top_by l.top) (with_binders l.names (locals_of l.scope)) (words_of l.names) l.at (binders_of (drop l.binder-index l.binders)));
  behind : enter_all (binders_of (drop l.binder-index l.binders)) (with_binders l.names (locals_of l.scope)) ≡ enter_all (binders_of l.binders) (locals_of l.scope);
  words : binders_hints (binders_of l.out) ≡ binders_hints (binders_of (take l.binder-index l.binders));
}
