use Rattle.std.proofs.Common.{[], ◌++◌, List, ap, reverse, subst, sym, ◌∙◌}
use Rattle.fc_syntax.specs.declared.module.Param.{Param}
use Rattle.fc_model.specs.Calling.{constructed_type}
use Rattle.fc_model.specs.Kinding as words
use Rattle.fc_model.specs.NamelessView.{nparams_of}
use Rattle.fc_type_scope.specs.Scopes.{scope_in}
use Rattle.fc_type_table.specs.Scopes.{IsTypeAt}
use Rattle.fc_type_table.specs.TypeTables.{nodes_of}
use Rattle.fc_type_table.specs.InScope.{AreNumbered, behind_group, own_kinds}
use Rattle.fc_types.specs.TableViews.{constructor_of}
use Rattle.fc_type_table.specs.declared.numbered.NumberedKind.{NumberedKind}
use Rattle.fc_lint_context.proofs.Foralls.{whole_over}
use Rattle.fc_lint_context.specs.DeclaredViews.{name_in}
use Rattle.fc_type_table.proofs.KindsInScope.{AreNumbered-behind, AreNumbered-none}
use Rattle.fc_lint_context.proofs.constructors.constructor_type.Goals as goal

pub over_own_binders-requires : goal.over_own_binders-requires
over_own_binders-requires c =
    let ns = nodes_of c.param_kinds.new.types in
    subst (λ (ls : List NumberedKind). AreNumbered ns (reverse ls ++ [])) (sym c.as_slice-2.ensures) (AreNumbered-behind ns c.in_ok-kinds.kinds [] c.in_ok-kinds.ensures.numbered (AreNumbered-none ns))

pub over_params-requires : goal.over_params-requires
unfolding scope_in
over_params-requires c =
    subst (λ (ls : List NumberedKind). IsTypeAt (nodes_of c.over_own_binders.new.types) (behind_group (own_kinds ls) []) c.in_ok-body.body.0) (c.as_slice-2.ensures ∙ sym c.as_slice-3.ensures) c.in_ok-body.ensures.valid

pub returns-clause-view : goal.returns-clause-view
unfolding scope_in
returns-clause-view c =
    let con = c.args.con.now in
    let k = constructor_of con in
    whole_over c.over_params.result (nodes_of c.over_params.new.types) (nodes_of c.over_own_binders.new.types) c.as_slice-2.result.now c.as_slice-3.result.now (words.param_kinds k.params) c.in_ok-body.body k.binders k.fields
    (constructed_type (name_in con.module.now con.data_word.now) k) (c.as_slice-2.ensures ∙ sym c.as_slice-3.ensures)
    (ap own_kinds c.as_slice-3.ensures ∙ c.in_ok-kinds.ensures.kinds ∙ ap (λ (ps : List Param). words.param_kinds (nparams_of ps)) c.as_slice.ensures) c.in_ok-body.ensures.view c.over_params.ensures.view
