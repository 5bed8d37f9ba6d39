-- The cases hold: the definitions compute to what they say.
use Rattle.std.proofs.Common.{refl}
use Rattle.fc_row_cases.specs.BetaCases.{BetaCases}
use Rattle.fc_row_cases.specs.LetCases.{LetCases}
use Rattle.fc_row_cases.specs.LetOnceCases.{LetOnceCases}
use Rattle.fc_row_cases.specs.CaseKnownCases.{CaseKnownCases}
use Rattle.fc_row_cases.specs.CaseEvaluatedCases.{CaseEvaluatedCases}
use Rattle.fc_row_cases.specs.CaseCases.{CaseCases}
use Rattle.fc_row_cases.specs.CastCases.{CastCases}
use Rattle.fc_row_cases.specs.JoinCases.{JoinCases}
use Rattle.fc_row_cases.specs.CommutingCases.{CommutingCases}

pub beta_cases : BetaCases
beta_cases = (refl, refl, refl, refl, refl, refl, refl, refl, refl, refl, refl, refl, refl, refl, refl, refl, refl, refl, refl, refl, refl, refl)

pub let_cases : LetCases
let_cases = (refl, refl, refl, refl, refl, refl, refl, refl, refl, refl, refl, refl, refl, refl, refl, refl, refl, refl, refl, refl, refl, refl, refl)

pub let_once_cases : LetOnceCases
let_once_cases = (refl, refl, refl, refl, refl, refl, refl, refl, refl, refl, refl, refl, refl, refl, refl, refl, refl, refl, refl, refl, refl)

pub case_known_cases : CaseKnownCases
case_known_cases = (refl, refl, refl, refl, refl, refl, refl, refl, refl, refl, refl, refl, refl, refl, refl, refl, refl, refl, refl, refl, refl, refl, refl, refl, refl, refl, refl, refl, refl, refl, refl, refl, refl, refl, refl)

pub case_evaluated_cases : CaseEvaluatedCases
case_evaluated_cases = (refl, refl, refl, refl, refl, refl, refl, refl, refl, refl, refl, refl, refl, refl, refl, refl, refl, refl, refl, refl)

pub case_cases : CaseCases
case_cases = (refl, refl, refl, refl, refl, refl, refl, refl, refl, refl, refl, refl, refl, refl, refl)

pub cast_cases : CastCases
cast_cases = (refl, refl, refl, refl, refl, refl, refl, refl, refl, refl, refl, refl, refl, refl, refl, refl, refl, refl, refl, refl)

pub join_cases : JoinCases
join_cases = (refl, refl, refl, refl, refl, refl, refl, refl, refl, refl, refl, refl, refl, refl, refl, refl, refl, refl)

pub commuting_cases : CommutingCases
commuting_cases = (refl, refl, refl, refl, refl, refl, refl, refl, refl, refl, refl, refl, refl, refl, refl, refl, refl, refl, refl, refl, refl, refl, refl, refl, refl, refl, refl, refl, refl)
