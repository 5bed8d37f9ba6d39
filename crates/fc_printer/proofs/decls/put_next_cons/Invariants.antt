use Rattle.std.proofs.Common.{◌≡◌, ◌++◌, drop}
use Rattle.fc_syntax.specs.View.{cons_of}
use Rattle.fc_model.specs.Pieces.{NoPieces, spaced_text}
use Rattle.fc_model.specs.Spelling.{cons_pieces}
use Rattle.fc_printer.proofs.decls.put_next_cons.Given as goal

abbrev pub invariant-loop-c : goal.invariant-loop-c
invariant-loop-c l = l.to.items ++ spaced_text (cons_pieces (cons_of (drop l.c-index l.cons)) NoPieces) ≡ l.fn.to.items ++ spaced_text (cons_pieces (cons_of l.cons) NoPieces)
