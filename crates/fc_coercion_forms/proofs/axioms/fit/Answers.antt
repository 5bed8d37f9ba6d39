use Rattle.std.proofs.Common.{◌∙◌, false, true, sym}
use Rattle.fc_syntax.specs.declared.fault.FaultKind.TheVariants.{AxiomArity, KindsDiffer, RoleWrong}
use Rattle.fc_model.specs.NamelessView.{nparams_of}
use Rattle.fc_model.specs.Needs.{param_roles}
use Rattle.fc_coercion_forms.specs.Axioms.{parameters_fit}
use Rattle.fc_type_scope.specs.EndViews.{shown_all_ends_at}
use Rattle.fc_type_scope.specs.Scopes.{scope_in}
use Rattle.fc_type_table.specs.InScope.{own_kinds}
use Rattle.fc_type_table.specs.TypeTables.{modules_in, nodes_of}
use Rattle.fc_coercion_forms.proofs.Fitting.{fit-kinds, fit-wrong_number, fit-wrong_roles, number_right, number_wrong}
use Rattle.fc_coercion_forms.proofs.Splits.{refused}
use Rattle.fc_coercion_forms.proofs.axioms.fit.Goals as goal

pub returns-then-group-kinds : goal.returns-then-group-kinds
returns-then-group-kinds c =
    let ks = scope_in c.args.scope.now in
    let ms = modules_in c.args.types.now in
    let rs = param_roles (nparams_of c.args.params.now) in
    let es = shown_all_ends_at (nodes_of c.args.types.now) ks c.args.group.now in
    refused c.flaw_here.result AxiomArity (parameters_fit ms ks (own_kinds c.args.kinds.now) c.args.role rs es) c.flaw_here.ensures
    (fit-wrong_number ms ks (own_kinds c.args.kinds.now) c.args.role rs es false (number_wrong (nodes_of c.args.types.now) ks c.args.group.now c.args.kinds.now c.if-group-kinds.true))

pub returns-then-not-are_at_roles : goal.returns-then-not-are_at_roles
returns-then-not-are_at_roles c =
    let ks = scope_in c.args.scope.now in
    let ms = modules_in c.args.types.now in
    let rs = param_roles (nparams_of c.args.params.now) in
    let es = shown_all_ends_at (nodes_of c.args.types.now) ks c.args.group.now in
    refused c.flaw_here-then-not-are_at_roles.result RoleWrong (parameters_fit ms ks (own_kinds c.args.kinds.now) c.args.role rs es) c.flaw_here-then-not-are_at_roles.ensures
    (fit-wrong_roles ms ks (own_kinds c.args.kinds.now) c.args.role rs es false (number_right (nodes_of c.args.types.now) ks c.args.group.now c.args.kinds.now c.if-group-kinds.false)
    (sym (c.are_at_roles.ensures (nodes_of c.args.types.now) ks) ∙ c.if-not-are_at_roles.true))

pub returns-then-not-are_of_kinds : goal.returns-then-not-are_of_kinds
returns-then-not-are_of_kinds c =
    let ks = scope_in c.args.scope.now in
    let ms = modules_in c.args.types.now in
    let rs = param_roles (nparams_of c.args.params.now) in
    let es = shown_all_ends_at (nodes_of c.args.types.now) ks c.args.group.now in
    refused c.flaw_here-then-not-are_of_kinds.result KindsDiffer (parameters_fit ms ks (own_kinds c.args.kinds.now) c.args.role rs es) c.flaw_here-then-not-are_of_kinds.ensures
    (fit-kinds ms ks (own_kinds c.args.kinds.now) c.args.role rs es false (number_right (nodes_of c.args.types.now) ks c.args.group.now c.args.kinds.now c.if-group-kinds.false)
    (sym (c.are_at_roles.ensures (nodes_of c.args.types.now) ks) ∙ c.if-not-are_at_roles.false) (sym c.are_of_kinds.ensures ∙ c.if-not-are_of_kinds.true))

pub returns : goal.returns
returns c =
    let ks = scope_in c.args.scope.now in
    let ms = modules_in c.args.types.now in
    let rs = param_roles (nparams_of c.args.params.now) in
    let es = shown_all_ends_at (nodes_of c.args.types.now) ks c.args.group.now in
    fit-kinds ms ks (own_kinds c.args.kinds.now) c.args.role rs es true (number_right (nodes_of c.args.types.now) ks c.args.group.now c.args.kinds.now c.if-group-kinds.false)
    (sym (c.are_at_roles.ensures (nodes_of c.args.types.now) ks) ∙ c.if-not-are_at_roles.false) (sym c.are_of_kinds.ensures ∙ c.if-not-are_of_kinds.false)
