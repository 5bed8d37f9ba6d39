use Rattle.std.proofs.Common.{ap, refl}
use Rattle.fc_syntax.specs.View.{binder_of, binders_of}
use Rattle.fc_model.specs.Grammar.{ACoercionField}
use Rattle.fc_read_parts.proofs.Stars.{many_start, star_more}
use Rattle.fc_read_types.proofs.parameters.read_coercion_fields.Goals as goal

pub each-init : goal.each-init
each-init c = many_start ACoercionField _ _ (ap binders_of c.new-all.ensures)

pub each-preserved : goal.each-preserved
each-preserved c =
    star_more ACoercionField _ binder_of _ _ _ _ _ _ _ c.each.invariant (c.if-closes.ensures.open refl) c.in_ok-read_coercion_field.ensures.read c.in_ok-read_coercion_field.ensures.shorter c.in_ok-push.ensures.ok
