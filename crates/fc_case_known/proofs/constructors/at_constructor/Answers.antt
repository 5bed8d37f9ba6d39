use Rattle.std.proofs.Common.{◌∙◌, ap}
use Rattle.std.specs.Option.{option_map}
use Rattle.std.proofs.lemmas.Result.{IfOk-weaker}
use Rattle.fc_model.specs.NamelessView.{nargs_of, nbinders_of, nexpr_of, nparams_of, nty_of}
use Rattle.fc_rows.specs.Shrinking.{pair_with, without_first}
use Rattle.fc_types.specs.TableViews.{constructor_of}
use Rattle.fc_type_scope.specs.Scopes.{scope_in}
use Rattle.fc_type_table.specs.TypeTables.{shown}
use Rattle.fc_case_known.proofs.Opened.{opened}
use Rattle.fc_case_known.proofs.constructors.at_constructor.Goals as goal

pub returns-clause-view : goal.returns-clause-view
returns-clause-view c =
    let args = nargs_of c.args.taken.now.arguments.now in
    IfOk-weaker c.behind_lets.result _ _
    (λ o h. opened (nty_of c.args.case.now.ty.now) c.args.taken.now.name.now args (constructor_of c.args.found.now.con) (nbinders_of c.args.alternative.now.binders) (nexpr_of c.args.alternative.now.body)
    (option_map nexpr_of o) (shown c.args.types.now (scope_in c.args.context.now.scope) c.args.found.now.ty) (nexpr_of c.in_ok-body.body) (nargs_of c.as_slice-all.result.now)
    (nargs_of c.behind_parameters-parts.result.now) c.in_ok-lets.lets h c.requires.type_view c.in_ok-body.ensures
    (ap nargs_of c.as_slice-all.ensures ∙ c.in_ok-named.ensures) (c.behind_parameters-parts.ensures ∙ ap (λ ps. without_first (nparams_of ps) (nargs_of c.as_slice-all.result.now)) c.as_slice.ensures)
    c.in_ok-lets.ensures (c.if-not-pairs_with.ensures ∙ ap (λ bs. pair_with (nbinders_of bs) (nargs_of c.behind_parameters-parts.result.now)) c.as_slice-2.ensures) c.if-lets-gt-MOST_TERMS.false)
    c.behind_lets.ensures.view
