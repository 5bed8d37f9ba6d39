use Rattle.std.proofs.Common.{◌≡◌, drop, take}
use Rattle.fc_syntax.specs.Hints.{decls_hints}
use Rattle.fc_syntax.specs.View.{decls_of}
use Rattle.fc_model.specs.DeclaredWords.{top_by, words_by_space}
use Rattle.fc_model.specs.NamelessView.{ndecl_of}
use Rattle.fc_model.specs.Resolution.{resolved_decls}
use Rattle.fc_resolve_parts.specs.Building.{with_items}
use Rattle.fc_resolve.proofs.declarations.resolved_decls.Given as goal

-- what is resolved, with what is still to come, answers as the whole
abbrev pub invariant-loop-decl : goal.invariant-loop-decl
invariant-loop-decl l = record {
  whole : resolved_decls (top_by l.top) (words_by_space l.fn.earlier) (decls_of l.decls) ≡ with_items ndecl_of l.out (resolved_decls (top_by l.top) (words_by_space l.earlier) (decls_of (drop l.decl-index l.decls)));
  words : decls_hints (decls_of l.out) ≡ decls_hints (decls_of (take l.decl-index l.decls));
}
