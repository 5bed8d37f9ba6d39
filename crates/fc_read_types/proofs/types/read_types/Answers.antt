use Rattle.std.proofs.Common.{ap, refl}
use Rattle.fc_syntax.specs.View.{ty_of, tys_of}
use Rattle.fc_model.specs.Grammar.{AType}
use Rattle.fc_read_parts.proofs.Stars.{many_start, star_more}
use Rattle.fc_read_types.proofs.types.read_types.Goals as goal

pub each-init : goal.each-init
each-init c = many_start AType _ _ (ap tys_of c.new-all.ensures)

pub each-preserved : goal.each-preserved
each-preserved c =
    star_more AType _ ty_of _ _ _ _ _ _ _ c.each.invariant (c.if-closes.ensures.open refl) c.in_ok-read_type.ensures.read c.in_ok-read_type.ensures.shorter c.in_ok-push.ensures.ok
