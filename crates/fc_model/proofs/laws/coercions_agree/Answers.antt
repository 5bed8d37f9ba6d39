use Rattle.fc_model.proofs.CoercionsAre.{ends_are, ends_are_one}
use Rattle.fc_model.proofs.CoercionsKept.{coercion_renaming_keeps_ends, coercion_replacement_keeps_ends}
use Rattle.fc_model.proofs.EndsKinded.{ends_have_one_kind, kinded_is_saturated}
use Rattle.fc_model.proofs.laws.coercions_agree.Goals as goal

pub returns-clause-ends : goal.returns-clause-ends
returns-clause-ends c = ends_are

pub returns-clause-one_ends : goal.returns-clause-one_ends
returns-clause-one_ends c = ends_are_one

pub returns-clause-saturated : goal.returns-clause-saturated
returns-clause-saturated c = kinded_is_saturated

pub returns-clause-one_kind : goal.returns-clause-one_kind
returns-clause-one_kind c = ends_have_one_kind

pub returns-clause-renaming : goal.returns-clause-renaming
returns-clause-renaming c = coercion_renaming_keeps_ends

pub returns-clause-replacement : goal.returns-clause-replacement
returns-clause-replacement c = coercion_replacement_keeps_ends
