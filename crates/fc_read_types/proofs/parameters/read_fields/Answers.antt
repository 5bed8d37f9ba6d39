use Rattle.std.proofs.Common.{ap}
use Rattle.fc_syntax.specs.View.{binders_of}
use Rattle.fc_read_types.proofs.FieldsRead.{fields_more, fields_start}
use Rattle.fc_read_types.proofs.parameters.read_fields.Goals as goal

pub each-init : goal.each-init
each-init c = fields_start _ _ (ap binders_of c.new-all.ensures)

pub each-preserved : goal.each-preserved
each-preserved c =
    fields_more _ _ _ _ _ _ c.each.invariant (rw c.in-OfType.is at c.in_ok-read_field.ensures.read) c.in_ok-read_field.ensures.shorter c.in_ok-push-in-OfType.ensures.ok
