use Rattle.std.proofs.Common.{ap, refl}
use Rattle.fc_syntax.specs.View.{param_of, params_of}
use Rattle.fc_model.specs.Grammar.{AParameter}
use Rattle.fc_read_parts.proofs.Stars.{many_start, star_more}
use Rattle.fc_read_types.proofs.parameters.read_parameters.Goals as goal

pub each-init : goal.each-init
each-init c = many_start AParameter _ _ (ap params_of c.new-all.ensures)

pub each-preserved : goal.each-preserved
each-preserved c =
    star_more AParameter _ param_of _ _ _ _ _ _ _ c.each.invariant (c.if-closes.ensures.open refl) c.in_ok-read_parameter.ensures.read c.in_ok-read_parameter.ensures.shorter c.in_ok-push.ensures.ok
