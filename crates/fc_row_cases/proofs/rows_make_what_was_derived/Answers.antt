use Rattle.fc_row_cases.proofs.Cases as holds
use Rattle.fc_row_cases.proofs.rows_make_what_was_derived.Goals as goal

pub returns : goal.returns
returns c = record {
  beta_cases = holds.beta_cases;
  let_cases = holds.let_cases;
  let_once_cases = holds.let_once_cases;
  case_known_cases = holds.case_known_cases;
  case_evaluated_cases = holds.case_evaluated_cases;
  case_cases = holds.case_cases;
  cast_cases = holds.cast_cases;
  join_cases = holds.join_cases;
  commuting_cases = holds.commuting_cases;
}
