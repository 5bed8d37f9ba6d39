use Rattle.std.proofs.Common.{◌≡◌, ◌≤◌, true, length}
use Rattle.fc_syntax.specs.Measures.{decls_size}
use Rattle.fc_syntax.specs.View.{decls_of}
use Rattle.fc_model.specs.FileForms.{ModuleFile}
use Rattle.fc_model.specs.Grammar.{ADeclaration}
use Rattle.fc_model.specs.Texts.{SomeMembersAt}
use Rattle.fc_model.specs.ReadFaults.{are_within}
use Rattle.fc_read_parts.proofs.Stars.{Star, many_at}
use Rattle.fc_read_parts.specs.Seen.{ahead}
use Rattle.fc_reader.proofs.decls.read_decls.Given as goal

abbrev pub decreases-each : goal.decreases-each
decreases-each l = length (ahead l.tokens)

abbrev pub invariant-each : goal.invariant-each
invariant-each l = record {
  star : Star ADeclaration (many_at ADeclaration (ahead l.fn.tokens)) (ahead l.fn.tokens) (decls_of l.all) (ahead l.tokens);
  read : SomeMembersAt ModuleFile (ahead l.fn.tokens) (decls_of l.all) (ahead l.tokens);
  within : are_within l.fn.room (decls_of l.all) ≡ true;
  size : l.size ≡ decls_size (decls_of l.all);
  small : l.size ≤ l.fn.room;
}
