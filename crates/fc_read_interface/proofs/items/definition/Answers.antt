use Rattle.std.proofs.Common.{sym, ap, ◌∙◌}
use Rattle.std.specs.Prelude.{pos}
use Rattle.fc_syntax.specs.View.{ty_of}
use Rattle.fc_model.specs.ReadFaults.{depth_fits}
use Rattle.fc_read_interface.proofs.Depths.{fails_deeper}
use Rattle.fc_read_interface.proofs.items.definition.Goals as goal

pub returns-then-not-fits : goal.returns-then-not-fits
returns-then-not-fits c =
    rw c.in-Untold.is (fails_deeper c.args.name (ty_of c.args.ty) (pos 0) (ap depth_fits (sym c.least-decl.ensures) ∙ sym c.fits.ensures ∙ c.if-not-fits.true))
