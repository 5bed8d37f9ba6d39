use Rattle.fc_plan.proofs.Picks.{pick_behind}
use Rattle.fc_plan.proofs.ordered.pick.Goals as goal

pub returns-in_ok-push-in-Some : goal.returns-in_ok-push-in-Some
returns-in_ok-push-in-Some c more = pick_behind c.args.found.now.items c.push.new.self.items c.in-Some.m c.args.modules.now c.args.number more c.in_ok-push-in-Some.ensures.items c.in-Some.ensures
