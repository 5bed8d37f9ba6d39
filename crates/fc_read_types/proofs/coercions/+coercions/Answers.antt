use Rattle.std.proofs.Common.{ap, map, refl}
use Rattle.fc_syntax.specs.View.{co_of}
use Rattle.fc_model.specs.Grammar.{ACoercion}
use Rattle.fc_read_parts.proofs.Stars.{many_start, several_start, star_more}
use Rattle.fc_read_types.proofs.coercions.+coercions.Goals as goal

pub read_some_coercions-each-init : goal.read_some_coercions-each-init
read_some_coercions-each-init t c = several_start ACoercion co_of _ _ _ _ _ c.new-all.ensures c.in_ok-read_coercion.ensures.read c.in_ok-read_coercion.ensures.shorter c.in_ok-push.ensures.ok

pub read_some_coercions-each-preserved : goal.read_some_coercions-each-preserved
read_some_coercions-each-preserved t c =
    star_more ACoercion _ co_of _ _ _ _ _ _ _ c.each.invariant (c.if-closes.ensures.open refl) c.in_ok-read_coercion-2.ensures.read c.in_ok-read_coercion-2.ensures.shorter c.in_ok-push-2.ensures.ok

pub read_coercions-each-init : goal.read_coercions-each-init
read_coercions-each-init t c = many_start ACoercion _ _ (ap (map co_of) c.new-all.ensures)

pub read_coercions-each-preserved : goal.read_coercions-each-preserved
read_coercions-each-preserved t c =
    star_more ACoercion _ co_of _ _ _ _ _ _ _ c.each.invariant (c.if-closes.ensures.open refl) c.in_ok-read_coercion.ensures.read c.in_ok-read_coercion.ensures.shorter c.in_ok-push.ensures.ok
