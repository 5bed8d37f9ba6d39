use Rattle.std.proofs.Common.{refl}
use Rattle.fc_meaning.proofs.Examples
use Rattle.fc_meaning.proofs.terms_show_what_they_should.Goals as goal

pub returns-clause-literal : goal.returns-clause-literal
returns-clause-literal c p z = (0, (refl, tt))

pub returns-clause-no_other_number : goal.returns-clause-no_other_number
returns-clause-no_other_number c = Examples.literal_shows_no_other

pub returns-clause-fields : goal.returns-clause-fields
returns-clause-fields c p k r s a b m n x y = (0, _, _, (refl, tt), (x, (y, tt)))

pub returns-clause-looping : goal.returns-clause-looping
returns-clause-looping c = Examples.loop_shows_nothing

pub returns-clause-lambda : goal.returns-clause-lambda
returns-clause-lambda c p s b = (0, s, b, (refl, tt))

pub returns-clause-applied_literal : goal.returns-clause-applied_literal
returns-clause-applied_literal c = Examples.applied_literal_shows_nothing

pub returns-clause-own_alternative : goal.returns-clause-own_alternative
returns-clause-own_alternative c = Examples.case_takes_literal

pub returns-clause-unused_let : goal.returns-clause-unused_let
returns-clause-unused_let c = Examples.unused_let_shows_body

pub returns-clause-looping_field : goal.returns-clause-looping_field
returns-clause-looping_field c p x k s b n loops y = (0, _, _, (refl, tt), (tt, (y, tt)))

pub returns-clause-failure : goal.returns-clause-failure
returns-clause-failure c = Examples.fail_shows_nothing

pub returns-clause-quotient_by_zero : goal.returns-clause-quotient_by_zero
returns-clause-quotient_by_zero c = Examples.quotient_shows_nothing
