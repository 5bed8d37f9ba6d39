use Rattle.std.proofs.Common.{◌≡◌, ◌++◌, drop}
use Rattle.std.specs.Prelude.{if◌then◌else◌}
use Rattle.fc_syntax.specs.View.{alts_of, args_of, binds_of, exprs_of, joins_of}
use Rattle.fc_model.specs.Pieces.{NoPieces, pieces_text, spaced_text}
use Rattle.fc_model.specs.Spelling.{alts_pieces, args_pieces, binds_pieces, exprs_pieces, joins_pieces}
use Rattle.fc_printer.proofs.+exprs.Given as goal

abbrev pub invariant-exprs::put_next_exprs-loop-e : goal.invariant-exprs::put_next_exprs-loop-e
invariant-exprs::put_next_exprs-loop-e l = l.to.items ++ spaced_text (exprs_pieces (exprs_of (drop l.e-index l.es)) NoPieces) ≡ l.fn.to.items ++ spaced_text (exprs_pieces (exprs_of l.es) NoPieces)

abbrev pub invariant-exprs::put_next_args-loop-a : goal.invariant-exprs::put_next_args-loop-a
invariant-exprs::put_next_args-loop-a l = l.to.items ++ spaced_text (args_pieces (args_of (drop l.a-index l.args)) NoPieces) ≡ l.fn.to.items ++ spaced_text (args_pieces (args_of l.args) NoPieces)

abbrev pub invariant-alternatives::put_next_binds-loop-b : goal.invariant-alternatives::put_next_binds-loop-b
invariant-alternatives::put_next_binds-loop-b l = l.to.items ++ spaced_text (binds_pieces (binds_of (drop l.b-index l.binds)) NoPieces) ≡ l.fn.to.items ++ spaced_text (binds_pieces (binds_of l.binds) NoPieces)

abbrev pub invariant-alternatives::put_next_joins-loop-j : goal.invariant-alternatives::put_next_joins-loop-j
invariant-alternatives::put_next_joins-loop-j l = l.to.items ++ spaced_text (joins_pieces (joins_of (drop l.j-index l.joins)) NoPieces) ≡ l.fn.to.items ++ spaced_text (joins_pieces (joins_of l.joins) NoPieces)

abbrev pub invariant-alternatives::put_next_alts-loop-a : goal.invariant-alternatives::put_next_alts-loop-a
invariant-alternatives::put_next_alts-loop-a l = l.to.items ++ spaced_text (alts_pieces (alts_of (drop l.a-index l.alts)) NoPieces) ≡ l.fn.to.items ++ spaced_text (alts_pieces (alts_of l.alts) NoPieces)

abbrev pub invariant-alternatives::put_binds-loop-b : goal.invariant-alternatives::put_binds-loop-b
invariant-alternatives::put_binds-loop-b l =
    l.to.items ++ (if l.behind then spaced_text (binds_pieces (binds_of (drop l.b-index l.binds)) NoPieces) else pieces_text (binds_pieces (binds_of (drop l.b-index l.binds)) NoPieces)) ≡ l.fn.to.items ++ pieces_text (binds_pieces (binds_of l.binds) NoPieces)

abbrev pub invariant-alternatives::put_joins-loop-j : goal.invariant-alternatives::put_joins-loop-j
invariant-alternatives::put_joins-loop-j l =
    l.to.items ++ (if l.behind then spaced_text (joins_pieces (joins_of (drop l.j-index l.joins)) NoPieces) else pieces_text (joins_pieces (joins_of (drop l.j-index l.joins)) NoPieces)) ≡ l.fn.to.items ++ pieces_text (joins_pieces (joins_of l.joins) NoPieces)
