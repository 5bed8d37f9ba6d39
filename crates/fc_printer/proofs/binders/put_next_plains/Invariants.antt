use Rattle.std.proofs.Common.{◌≡◌, ◌++◌, drop}
use Rattle.fc_syntax.specs.View.{plains_of}
use Rattle.fc_model.specs.Pieces.{NoPieces, spaced_text}
use Rattle.fc_model.specs.Spelling.{plains_pieces}
use Rattle.fc_printer.proofs.binders.put_next_plains.Given as goal

abbrev pub invariant-loop-p : goal.invariant-loop-p
invariant-loop-p l = l.to.items ++ spaced_text (plains_pieces (plains_of (drop l.p-index l.plains)) NoPieces) ≡ l.fn.to.items ++ spaced_text (plains_pieces (plains_of l.plains) NoPieces)
