use Rattle.fc_model.specs.Kinding.{decls_at}
use Rattle.fc_model.specs.Linting.{nameless_forms}
use Rattle.fc_meaning.proofs.ArgSorts.{sort_is, sorts_of_arguments}
use Rattle.fc_meaning.proofs.HeldSets.{set_is_held}
use Rattle.fc_meaning.proofs.SortedErasure.{linted_is_sorted}
use Rattle.fc_meaning.proofs.what_lints_is_sorted.Goals as goal

pub returns-clause-sorted : goal.returns-clause-sorted
returns-clause-sorted c ms formed lints = linted_is_sorted ms formed lints

pub returns-clause-sorts : goal.returns-clause-sorts
returns-clause-sorts c ms lints k s agree n args t = sorts_of_arguments (decls_at (nameless_forms ms)) (set_is_held ms lints) k s agree n args t

pub returns-clause-arguments : goal.returns-clause-arguments
returns-clause-arguments c ms lints k s agree a t typed fits = sort_is (decls_at (nameless_forms ms)) (set_is_held ms lints) typed s agree fits
