use Rattle.std.proofs.Common.{◌≡◌, ◌++◌, drop}
use Rattle.fc_syntax.specs.View.{binders_of}
use Rattle.fc_model.specs.Pieces.{NoPieces, spaced_text}
use Rattle.fc_model.specs.Spelling.{binders_pieces}
use Rattle.fc_printer.proofs.binders.put_next_binders.Given as goal

abbrev pub invariant-loop-b : goal.invariant-loop-b
invariant-loop-b l = l.to.items ++ spaced_text (binders_pieces (binders_of (drop l.b-index l.binders)) NoPieces) ≡ l.fn.to.items ++ spaced_text (binders_pieces (binders_of l.binders) NoPieces)
