use Rattle.std.proofs.Common.{ap, refl}
use Rattle.fc_syntax.specs.View.{con_of, cons_of}
use Rattle.fc_model.specs.Grammar.{AConstructor}
use Rattle.fc_read_parts.proofs.Stars.{many_start, star_more}
use Rattle.fc_read_types.proofs.parameters.read_constructors.Goals as goal

pub each-init : goal.each-init
each-init c = many_start AConstructor _ _ (ap cons_of c.new-all.ensures)

pub each-preserved : goal.each-preserved
each-preserved c =
    star_more AConstructor _ con_of _ _ _ _ _ _ _ c.each.invariant (c.if-closes.ensures.open refl) c.in_ok-read_constructor.ensures.read c.in_ok-read_constructor.ensures.shorter c.in_ok-push.ensures.ok
