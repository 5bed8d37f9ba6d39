use Rattle.std.proofs.Common.{◌≡◌, ◌++◌, drop}
use Rattle.fc_syntax.specs.View.{params_of}
use Rattle.fc_model.specs.Pieces.{NoPieces, spaced_text}
use Rattle.fc_model.specs.Spelling.{params_pieces}
use Rattle.fc_printer.proofs.binders.put_next_params.Given as goal

abbrev pub invariant-loop-p : goal.invariant-loop-p
invariant-loop-p l = l.to.items ++ spaced_text (params_pieces (params_of (drop l.p-index l.params)) NoPieces) ≡ l.fn.to.items ++ spaced_text (params_pieces (params_of l.params) NoPieces)
