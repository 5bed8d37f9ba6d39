-- The examples hold: the definitions compute to what they say.
use Rattle.std.proofs.Common.{refl}
use Rattle.fc_row_examples.specs.ExamplesHold.{BetaExamples, LetDeadExamples, LetAtomExamples, LetOnceExamples, CaseKnownExamples}
use Rattle.fc_row_examples.specs.ExamplesHold.{CaseEvaluatedExamples, CaseMergeExamples, AltDeadExamples, FailAbsorbExamples, CastReflExamples}
use Rattle.fc_row_examples.specs.ExamplesHold.{CastCastExamples, JoinDeadExamples, JoinOnceExamples, DefDeadExamples, AppOfLetExamples}
use Rattle.fc_row_examples.specs.ExamplesHold.{CaseOfLetExamples, CastOfLetExamples, LetOfLetExamples, NameFieldExamples, PlaceExamples, ImportExamples}

pub beta_examples : BetaExamples
beta_examples = (refl, refl, refl, refl, refl, refl)

pub let_dead_examples : LetDeadExamples
let_dead_examples = (refl, refl, refl, refl)

pub let_atom_examples : LetAtomExamples
let_atom_examples = (refl, refl, refl, refl, refl)

pub let_once_examples : LetOnceExamples
let_once_examples = (refl, refl, refl, refl, refl, refl, refl, refl, refl, refl, refl, refl)

pub case_known_examples : CaseKnownExamples
case_known_examples = (refl, refl, refl, refl, refl, refl, refl, refl, refl, refl, refl, refl, refl, refl, refl, refl, refl, refl, refl, refl, refl, refl, refl, refl, refl, refl, refl, refl, refl)

pub case_evaluated_examples : CaseEvaluatedExamples
case_evaluated_examples = (refl, refl, refl, refl, refl, refl, refl, refl, refl, refl, refl, refl, refl, refl, refl)

pub case_merge_examples : CaseMergeExamples
case_merge_examples = (refl, refl, refl, refl)

pub alt_dead_examples : AltDeadExamples
alt_dead_examples = (refl, refl, refl, refl, refl, refl, refl, refl)

pub fail_absorb_examples : FailAbsorbExamples
fail_absorb_examples = (refl, refl, refl, refl, refl, refl)

pub cast_refl_examples : CastReflExamples
cast_refl_examples = (refl, refl)

pub cast_cast_examples : CastCastExamples
cast_cast_examples = (refl, refl)

pub join_dead_examples : JoinDeadExamples
join_dead_examples = (refl, refl, refl)

pub join_once_examples : JoinOnceExamples
join_once_examples = (refl, refl, refl, refl, refl, refl, refl, refl, refl, refl, refl)

pub def_dead_examples : DefDeadExamples
def_dead_examples = refl

pub app_of_let_examples : AppOfLetExamples
app_of_let_examples = (refl, refl, refl)

pub case_of_let_examples : CaseOfLetExamples
case_of_let_examples = (refl, refl)

pub cast_of_let_examples : CastOfLetExamples
cast_of_let_examples = (refl, refl)

pub let_of_let_examples : LetOfLetExamples
let_of_let_examples = (refl, refl, refl)

pub name_field_examples : NameFieldExamples
name_field_examples = (refl, refl, refl, refl, refl)

pub place_examples : PlaceExamples
place_examples = (refl, refl, refl, refl, refl, refl)

pub import_examples : ImportExamples
import_examples = (refl, refl)
