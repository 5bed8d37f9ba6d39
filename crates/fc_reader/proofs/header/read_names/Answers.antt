use Rattle.std.proofs.Common.{refl}
use Rattle.fc_model.specs.Grammar.{AName}
use Rattle.fc_reader.proofs.Members.{names_start, names_more}
use Rattle.fc_reader.proofs.header.read_names.Goals as goal

pub each-init : goal.each-init
each-init c = names_start AName c.new-all.ensures

pub each-preserved : goal.each-preserved
each-preserved c = names_more AName c.each.invariant (c.if-closes.ensures.open refl) c.in_ok-read_name.ensures.read c.in_ok-read_name.ensures.shorter c.in_ok-push.ensures.ok
