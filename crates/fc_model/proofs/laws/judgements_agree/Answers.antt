use Rattle.fc_model.proofs.KindedIs.{kind_is, kind_is_one}
use Rattle.fc_model.proofs.LintedIs.{lint_is}
use Rattle.fc_model.proofs.NeedsAre.{need_is, need_is_in_cons}
use Rattle.fc_model.proofs.ResolvedModulesAre.{a_module_has_one_nameless_form, resolves_iff}
use Rattle.fc_model.proofs.Sameness.{same_type_is}
use Rattle.fc_model.proofs.TypedIs.{type_is, type_is_one}
use Rattle.fc_model.proofs.TypesRead.{type_is_read_off}
use Rattle.fc_model.proofs.laws.judgements_agree.Goals as goal

pub returns-clause-nameless_forms : goal.returns-clause-nameless_forms
returns-clause-nameless_forms c = resolves_iff

pub returns-clause-one_nameless_form : goal.returns-clause-one_nameless_form
returns-clause-one_nameless_form c = a_module_has_one_nameless_form

pub returns-clause-sameness : goal.returns-clause-sameness
returns-clause-sameness c = same_type_is

pub returns-clause-kinds : goal.returns-clause-kinds
returns-clause-kinds c = kind_is

pub returns-clause-one_kind : goal.returns-clause-one_kind
returns-clause-one_kind c = kind_is_one

pub returns-clause-types : goal.returns-clause-types
returns-clause-types c = type_is

pub returns-clause-one_type : goal.returns-clause-one_type
returns-clause-one_type c = type_is_one

pub returns-clause-read_off : goal.returns-clause-read_off
returns-clause-read_off c ms d e t typed = type_is_read_off ms typed

pub returns-clause-needs : goal.returns-clause-needs
returns-clause-needs c = need_is

pub returns-clause-constructor_needs : goal.returns-clause-constructor_needs
returns-clause-constructor_needs c = need_is_in_cons

pub returns-clause-lint : goal.returns-clause-lint
returns-clause-lint c = lint_is
