use Rattle.std.proofs.Common.{◌≡◌, ◌++◌, drop}
use Rattle.fc_model.specs.Pieces.{NoPieces, spaced_text}
use Rattle.fc_lattice.specs.View.{demands_of}
use Rattle.fc_model.specs.InterfaceTexts.{demands_pieces}
use Rattle.fc_iface.proofs.demands.+demands.Given as goal

abbrev pub invariant-put_next_demands-loop-d : goal.invariant-put_next_demands-loop-d
invariant-put_next_demands-loop-d l = l.to.items ++ spaced_text (demands_pieces (demands_of (drop l.d-index l.demands)) NoPieces) ≡ l.fn.to.items ++ spaced_text (demands_pieces (demands_of l.demands) NoPieces)
