use Rattle.std.proofs.Common.{◌≡◌, ◌++◌, drop}
use Rattle.fc_syntax.specs.View.{tys_of}
use Rattle.fc_model.specs.Pieces.{NoPieces, spaced_text}
use Rattle.fc_model.specs.Spelling.{types_pieces}
use Rattle.fc_printer.proofs.types.put_next_types.Given as goal

abbrev pub invariant-loop-t : goal.invariant-loop-t
invariant-loop-t l = l.to.items ++ spaced_text (types_pieces (tys_of (drop l.t-index l.types)) NoPieces) ≡ l.fn.to.items ++ spaced_text (types_pieces (tys_of l.types) NoPieces)
