use Rattle.std.proofs.Common.{◌≡◌, [], ◌∷◌, Some, None, arith, rules, subst, sym}
use Rattle.fc_lint_context.proofs.Contexts.{context_at-grows}
use Rattle.fc_lint_context.proofs.Growing.{stays}
use Rattle.fc_lint_context.specs.ContextViews.{context_at, modules_of_context}
use Rattle.fc_lint_context.specs.LocalViews.{bind_types}
use Rattle.fc_model.specs.NamelessView.{nbinder_of, nbinds_of, nexpr_of}
use Rattle.fc_model.specs.Typing.{type_read_off, with_binder}
use Rattle.fc_type_reading.proofs.Steps.{lambda-none, lambda-some, let-is, reads-as}
use Rattle.fc_type_scope.proofs.Growing.{IsEntered-grows}
use Rattle.fc_type_scope.proofs.ScopeKinds.{scope_grows}
use Rattle.fc_type_scope.specs.Behind.{kinds_past}
use Rattle.fc_type_scope.specs.Scopes.{AreTypesAt, scope_in, shown_all_at}
use Rattle.fc_type_table.proofs.Numbers.{Grows-further}
use Rattle.fc_type_table.specs.TypeTables.{nodes_of, shown}
use Rattle.fc_type_table.specs.declared.node.TypeId.{TypeId}
use Rattle.fc_type_reading.proofs.reading.+reading.Goals as goal

pub lambda_type-type_below-requires : goal.lambda_type-type_below-requires
lambda_type-type_below-requires t c =
    (omega arith, (stays c.args.types.now c.enter_one.new.types c.args.context.now c.in_ok-entered.ensures.grows c.requires, c.in_ok-entered.ensures.entered))

pub lambda_type-returns-in-None-clause-view : goal.lambda_type-returns-in-None-clause-view
lambda_type-returns-in-None-clause-view t c =
    let ctx = c.args.context.now in
    let ms = modules_of_context ctx in
    let old = nodes_of c.args.types.now in
    let mid = nodes_of c.enter_one.new.types in
    let b = nbinder_of c.args.binder.now in
    let e = nexpr_of c.args.body.now in
    let same : context_at mid ctx ≡ context_at old ctx = context_at-grows old mid ctx c.in_ok-entered.ensures.grows.nodes c.requires.valid in
    let none : None ≡ type_read_off ms (with_binder b (context_at mid ctx)) e = search rules in
    lambda-none ms (context_at old ctx) (context_at mid ctx) same b e none

pub lambda_type-function_over_one-requires-clause-scope : goal.lambda_type-function_over_one-requires-clause-scope
lambda_type-function_over_one-requires-clause-scope t c =
    let first = c.args.types.now in
    let mid = c.enter_one.new.types in
    let below = c.type_below.new.types in
    let further = Grows-further first mid below c.in_ok-entered.ensures.grows c.in_ok-type_below.ensures.grows in
    scope_grows (nodes_of first) (nodes_of below) c.args.context.now.scope.kinds.now further.nodes c.requires.valid.scope

pub lambda_type-function_over_one-requires-clause-entered_in : goal.lambda_type-function_over_one-requires-clause-entered_in
lambda_type-function_over_one-requires-clause-entered_in t c =
    IsEntered-grows c.enter_one.new.types c.type_below.new.types (scope_in c.args.context.now.scope) (nbinder_of c.args.binder.now ∷ []) c.in_ok-entered.entered c.in_ok-type_below.ensures.grows c.in_ok-entered.ensures.entered

pub lambda_type-returns-clause-view : goal.lambda_type-returns-clause-view
lambda_type-returns-clause-view t c =
    let ctx = c.args.context.now in
    let ks = scope_in ctx.scope in
    let ms = modules_of_context ctx in
    let old = nodes_of c.args.types.now in
    let mid = nodes_of c.enter_one.new.types in
    let b = nbinder_of c.args.binder.now in
    let e = nexpr_of c.args.body.now in
    let u = shown c.type_below.new.types (kinds_past (b ∷ []) ks) c.in-Some.id in
    let same : context_at mid ctx ≡ context_at old ctx = context_at-grows old mid ctx c.in_ok-entered.ensures.grows.nodes c.requires.valid in
    let found : Some u ≡ type_read_off ms (with_binder b (context_at mid ctx)) e = search rules in
    lambda-some ms (context_at old ctx) (context_at mid ctx) same b e u (shown c.function_over_one.new.types ks c.in_ok-whole-in-Some.whole) found c.in_ok-whole-in-Some.ensures.view

pub let_type-type_behind_binds-requires : goal.let_type-type_behind_binds-requires
let_type-type_behind_binds-requires t c =
    let ks = scope_in c.args.context.now.scope in
    let mid = nodes_of c.types_of_binds.new.types in
    let here = sym c.as_slice.ensures in (
      omega arith,
      (
        stays c.args.types.now c.types_of_binds.new.types c.args.context.now c.in_ok-ids.ensures.grows c.requires,
        (
          subst (λ ids. AreTypesAt mid ks ids) here c.in_ok-ids.ensures.valid,
          subst (λ ids. shown_all_at mid ks ids ≡ bind_types (nbinds_of c.args.binds.now)) here c.in_ok-ids.ensures.all,
        ),
      ),
    )

pub let_type-returns-clause-view : goal.let_type-returns-clause-view
let_type-returns-clause-view t c =
    let ctx = c.args.context.now in
    let old = nodes_of c.args.types.now in
    let mid = nodes_of c.types_of_binds.new.types in
    let same : context_at mid ctx ≡ context_at old ctx = context_at-grows old mid ctx c.in_ok-ids.ensures.grows.nodes c.requires.valid in
    reads-as (λ (id : TypeId). shown c.type_behind_binds.new.types (scope_in ctx.scope) id) c.type_behind_binds.result _ _
    (sym (let-is (modules_of_context ctx) (context_at old ctx) (context_at mid ctx) same (nbinds_of c.args.binds.now) (nexpr_of c.args.body.now))) c.type_behind_binds.ensures.view

pub type_read_off-applied_type-requires-clause-scope : goal.type_read_off-applied_type-requires-clause-scope
type_read_off-applied_type-requires-clause-scope t c =
    scope_grows (nodes_of c.args.types.now) (nodes_of c.type_read_off.new.types) c.args.context.now.scope.kinds.now c.in_ok-type_read_off-in-App.ensures.grows.nodes c.requires.valid.scope
