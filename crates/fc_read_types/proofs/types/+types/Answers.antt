use Rattle.std.proofs.Common.{refl}
use Rattle.fc_syntax.specs.View.{ty_of}
use Rattle.fc_model.specs.Grammar.{AType}
use Rattle.fc_read_parts.proofs.Stars.{several_start, star_more}
use Rattle.fc_read_types.proofs.types.+types.Goals as goal

pub read_some_types-each-init : goal.read_some_types-each-init
read_some_types-each-init t c = several_start AType ty_of _ _ _ _ _ c.new-all.ensures c.in_ok-read_type.ensures.read c.in_ok-read_type.ensures.shorter c.in_ok-push.ensures.ok

pub read_some_types-each-preserved : goal.read_some_types-each-preserved
read_some_types-each-preserved t c =
    star_more AType _ ty_of _ _ _ _ _ _ _ c.each.invariant (c.if-closes.ensures.open refl) c.in_ok-read_type-2.ensures.read c.in_ok-read_type-2.ensures.shorter c.in_ok-push-2.ensures.ok
