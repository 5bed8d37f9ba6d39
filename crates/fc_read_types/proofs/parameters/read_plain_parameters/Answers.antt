use Rattle.std.proofs.Common.{ap, refl}
use Rattle.fc_syntax.specs.View.{plain_of, plains_of}
use Rattle.fc_model.specs.Grammar.{APlainParameter}
use Rattle.fc_read_parts.proofs.Stars.{many_start, star_more}
use Rattle.fc_read_types.proofs.parameters.read_plain_parameters.Goals as goal

pub each-init : goal.each-init
each-init c = many_start APlainParameter _ _ (ap plains_of c.new-all.ensures)

pub each-preserved : goal.each-preserved
each-preserved c =
    star_more APlainParameter _ plain_of _ _ _ _ _ _ _ c.each.invariant (c.if-closes.ensures.open refl) c.in_ok-read_plain_parameter.ensures.read c.in_ok-read_plain_parameter.ensures.shorter c.in_ok-push.ensures.ok
