use Rattle.fc_model.proofs.KindsKept.{instantiating_keeps_kinds, kinded_is_scoped, more_arguments_keep_kinds, shifting_keeps_kinds, substitution_keeps_kinds}
use Rattle.fc_model.proofs.Substitutions.{instantiated_within, only_values_count, shifted_below, shifted_is_kept, substitutions_compose, variables_for_themselves}
use Rattle.fc_model.proofs.laws.substitution_agrees.Goals as goal

pub returns-clause-only_values : goal.returns-clause-only_values
returns-clause-only_values c = only_values_count

pub returns-clause-themselves : goal.returns-clause-themselves
returns-clause-themselves c = variables_for_themselves

pub returns-clause-compose : goal.returns-clause-compose
returns-clause-compose c = substitutions_compose

pub returns-clause-shifted : goal.returns-clause-shifted
returns-clause-shifted c = shifted_is_kept

pub returns-clause-below : goal.returns-clause-below
returns-clause-below c = shifted_below

pub returns-clause-within : goal.returns-clause-within
returns-clause-within c = instantiated_within

pub returns-clause-scoped : goal.returns-clause-scoped
returns-clause-scoped c = kinded_is_scoped

pub returns-clause-more_arguments : goal.returns-clause-more_arguments
returns-clause-more_arguments c = more_arguments_keep_kinds

pub returns-clause-kinds : goal.returns-clause-kinds
returns-clause-kinds c = substitution_keeps_kinds

pub returns-clause-shifted_kinds : goal.returns-clause-shifted_kinds
returns-clause-shifted_kinds c = shifting_keeps_kinds

pub returns-clause-instantiated_kinds : goal.returns-clause-instantiated_kinds
returns-clause-instantiated_kinds c = instantiating_keeps_kinds
