use Rattle.fc_row_examples.proofs.Examples as holds
use Rattle.fc_row_examples.proofs.rows_do_what_they_should.Goals as goal

pub returns : goal.returns
returns c = record {
  beta = holds.beta_examples;
  let_dead = holds.let_dead_examples;
  let_atom = holds.let_atom_examples;
  let_once = holds.let_once_examples;
  case_known = holds.case_known_examples;
  case_evaluated = holds.case_evaluated_examples;
  case_merge = holds.case_merge_examples;
  alt_dead = holds.alt_dead_examples;
  fail_absorb = holds.fail_absorb_examples;
  cast_refl = holds.cast_refl_examples;
  cast_cast = holds.cast_cast_examples;
  join_dead = holds.join_dead_examples;
  join_once = holds.join_once_examples;
  def_dead = holds.def_dead_examples;
  app_of_let = holds.app_of_let_examples;
  case_of_let = holds.case_of_let_examples;
  cast_of_let = holds.cast_of_let_examples;
  let_of_let = holds.let_of_let_examples;
  name_field = holds.name_field_examples;
  places = holds.place_examples;
  imports = holds.import_examples;
}
