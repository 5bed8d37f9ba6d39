use Rattle.std.proofs.Common.{◌≡◌, map, take}
use Rattle.fc_plan.specs.Modules.{behind}
use Rattle.fc_build.specs.Delivering.{steps_in}
use Rattle.fc_build.specs.Product.{linted_step}
use Rattle.fc_build.proofs.product.linted_steps.Given as goal

abbrev pub invariant-loop-m : goal.invariant-loop-m
invariant-loop-m l = steps_in l.steps.items ≡ map linted_step (behind (take l.m-index l.modules))
