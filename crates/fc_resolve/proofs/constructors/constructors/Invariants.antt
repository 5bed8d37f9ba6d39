use Rattle.std.proofs.Common.{◌≡◌, drop, flat_map, take}
use Rattle.fc_syntax.specs.Hints as kept
use Rattle.fc_syntax.specs.View.{cons_of}
use Rattle.fc_model.specs.DeclaredWords.{top_by}
use Rattle.fc_model.specs.Declaring.{con_words}
use Rattle.fc_model.specs.NamelessView.{ncon_of}
use Rattle.fc_model.specs.Resolution.{plus_all, resolved_cons}
use Rattle.fc_model.specs.WordSets.{set_of}
use Rattle.fc_scope.specs.ScopeWords.{locals_of}
use Rattle.fc_resolve_parts.specs.Building.{with_items}
use Rattle.fc_resolve.proofs.constructors.constructors.Given as goal

-- what is resolved, with what is still to come, answers as the whole, and leaves the words of the whole
abbrev pub invariant-loop-con : goal.invariant-loop-con
invariant-loop-con l = record {
  whole : resolved_cons (top_by l.top) (locals_of l.scope) (set_of l.fn.earlier) l.first (cons_of l.cons)
      ≡ with_items ncon_of l.out (resolved_cons (top_by l.top) (locals_of l.scope) (set_of l.earlier) l.at (cons_of (drop l.con-index l.cons)));
  words : plus_all (con_words (cons_of (drop l.con-index l.cons))) (set_of l.earlier) ≡ plus_all (con_words (cons_of l.cons)) (set_of l.fn.earlier);
  kept : flat_map kept.con_hints (cons_of l.out) ≡ flat_map kept.con_hints (cons_of (take l.con-index l.cons));
}
