use Rattle.std.proofs.Common.{IfOk, ◌++◌, reverse, subst, sym}
use Rattle.fc_model.specs.NamelessView.{nbinders_of}
use Rattle.fc_type_table.specs.TypeTables.{IsType, nodes_of}
use Rattle.fc_lint_context.proofs.Contexts.{entered_kinds}
use Rattle.fc_lint_context.proofs.Foralls.{made_behind, made_over}
use Rattle.fc_type_table.proofs.KindsInScope.{AreNumbered-behind, AreNumbered-grows}
use Rattle.fc_type_table.proofs.Numbers.{Extends-further}
use Rattle.fc_type_table.specs.InScope.{AreNumbered, numbered_of}
use Rattle.fc_lint_context.proofs.constructors.over_own_fields.Goals as goal

pub applied_to_params-requires-clause-scope : goal.applied_to_params-requires-clause-scope
applied_to_params-requires-clause-scope c =
    let old = nodes_of c.args.types.now in
    let new = nodes_of c.constructor.new.types in
    let outer = numbered_of c.args.scope.now.kinds.now in
    let own = c.args.entered.now.kinds in
    subst (AreNumbered new) (sym c.kinds_behind-kinds.ensures.numbered)
    (AreNumbered-grows old new (reverse own ++ outer) c.in_ok-head.ensures.grows.nodes (AreNumbered-behind old own outer c.requires.numbered c.requires.scope))

pub over_fields-requires-clause-scope : goal.over_fields-requires-clause-scope
over_fields-requires-clause-scope c =
    let old = nodes_of c.args.types.now in
    let new = nodes_of c.applied_to_params.new.types in
    let outer = numbered_of c.args.scope.now.kinds.now in
    let own = c.args.entered.now.kinds in
    let both = Extends-further _ _ _ c.in_ok-head.ensures.grows.nodes c.in_ok-answer.ensures.grows.nodes in
    subst (AreNumbered new) (sym c.kinds_behind-kinds.ensures.numbered) (AreNumbered-grows old new (reverse own ++ outer) both (AreNumbered-behind old own outer c.requires.numbered c.requires.scope))

pub returns-clause-valid : goal.returns-clause-valid
returns-clause-valid c =
    subst (λ ks. IfOk c.over_fields.result (λ id. IsType c.over_fields.new.types ks id)) (entered_kinds c.args.scope.now _ (nbinders_of c.args.con.now.con.now.binders) _ c.kinds_behind-kinds.ensures.kinds c.requires.entered)
    c.over_fields.ensures.valid

pub returns-clause-view : goal.returns-clause-view
returns-clause-view c =
    let k = c.args.con.now in
    let bs = nbinders_of k.con.now.binders in
    let made =
    made_behind c.args.entered.now.kinds bs k.params.now k.module.now k.data_word.now _ _ _ _ c.requires.entered c.len.ensures c.len-2.ensures c.in_ok-head.ensures.view c.in_ok-answer.ensures.view in
    made_over c.over_fields.result (nodes_of c.over_fields.new.types) _ _ k.con.now.fields _ _ _ (entered_kinds c.args.scope.now _ bs _ c.kinds_behind-kinds.ensures.kinds c.requires.entered) c.as_slice.ensures made c.over_fields.ensures.view
