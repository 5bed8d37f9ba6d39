use Rattle.std.proofs.Common.{◌≡◌, ◌++◌, drop}
use Rattle.fc_syntax.specs.View.{cos_of}
use Rattle.fc_model.specs.Pieces.{NoPieces, spaced_text}
use Rattle.fc_model.specs.Spelling.{cos_pieces}
use Rattle.fc_printer.proofs.coercions.+coercions.Given as goal

abbrev pub invariant-put_next_cos-loop-g : goal.invariant-put_next_cos-loop-g
invariant-put_next_cos-loop-g l = l.to.items ++ spaced_text (cos_pieces (cos_of (drop l.g-index l.gs)) NoPieces) ≡ l.fn.to.items ++ spaced_text (cos_pieces (cos_of l.gs) NoPieces)
