use Rattle.fc_model.proofs.ArgumentsFit.{arguments_fit, types_at_arguments}
use Rattle.fc_model.proofs.RenamedItself.{itself}
use Rattle.fc_model.proofs.ReplacedKept.{kinded_are_closed, renaming_keeps_types, replacement_keeps_types, types_among_joins, types_at_a_coercion, types_at_a_type}
use Rattle.fc_model.proofs.ReplacedKept.{types_at_a_value, types_past_a_coercion, types_past_a_join, types_past_a_type, types_past_a_value}
use Rattle.fc_model.proofs.DeclaredKinded.{linted_are_kinded, resolved_have_distinct_types}
use Rattle.fc_model.proofs.TypesKinded.{types_have_kinds}
use Rattle.fc_model.proofs.laws.typing_agrees.Goals as goal

pub returns-clause-renaming : goal.returns-clause-renaming
returns-clause-renaming c = renaming_keeps_types

pub returns-clause-replacement : goal.returns-clause-replacement
returns-clause-replacement c = replacement_keeps_types

pub returns-clause-themselves : goal.returns-clause-themselves
returns-clause-themselves c = itself

pub returns-clause-past_type : goal.returns-clause-past_type
returns-clause-past_type c = types_past_a_type

pub returns-clause-past_coercion : goal.returns-clause-past_coercion
returns-clause-past_coercion c = types_past_a_coercion

pub returns-clause-past_value : goal.returns-clause-past_value
returns-clause-past_value c = types_past_a_value

pub returns-clause-past_join : goal.returns-clause-past_join
returns-clause-past_join c = types_past_a_join

pub returns-clause-among_joins : goal.returns-clause-among_joins
returns-clause-among_joins c = types_among_joins

pub returns-clause-at_type : goal.returns-clause-at_type
returns-clause-at_type c = types_at_a_type

pub returns-clause-at_coercion : goal.returns-clause-at_coercion
returns-clause-at_coercion c = types_at_a_coercion

pub returns-clause-at_value : goal.returns-clause-at_value
returns-clause-at_value c = types_at_a_value

pub returns-clause-declared_closed : goal.returns-clause-declared_closed
returns-clause-declared_closed c = kinded_are_closed

pub returns-clause-arguments : goal.returns-clause-arguments
returns-clause-arguments c = arguments_fit

pub returns-clause-at_arguments : goal.returns-clause-at_arguments
returns-clause-at_arguments c = types_at_arguments

pub returns-clause-kinds : goal.returns-clause-kinds
returns-clause-kinds c = types_have_kinds

pub returns-clause-distinct_types : goal.returns-clause-distinct_types
returns-clause-distinct_types c = resolved_have_distinct_types

pub returns-clause-declared_kinded : goal.returns-clause-declared_kinded
returns-clause-declared_kinded c = linted_are_kinded
