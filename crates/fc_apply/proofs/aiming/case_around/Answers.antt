use Rattle.std.proofs.Common.{arith}
use Rattle.fc_apply.proofs.CasesAround.{no_case, the_case}
use Rattle.fc_apply.proofs.aiming.case_around.Goals as goal

pub returns-then-last-lt-FIRST_ALTERNATIVE : goal.returns-then-last-lt-FIRST_ALTERNATIVE
returns-then-last-lt-FIRST_ALTERNATIVE c = no_case c.args.place.now c.in_ok-last.before.now c.in_ok-last.last.now c.in_ok-last.ensures.cases.0 c.if-last-lt-FIRST_ALTERNATIVE.true

pub returns-else-last-lt-FIRST_ALTERNATIVE : goal.returns-else-last-lt-FIRST_ALTERNATIVE
returns-else-last-lt-FIRST_ALTERNATIVE c = the_case c.args.place.now c.in_ok-last.before.now c.in_ok-last.last.now c.in_ok-last.ensures.cases.0 (omega (arith, c.if-last-lt-FIRST_ALTERNATIVE.false))
