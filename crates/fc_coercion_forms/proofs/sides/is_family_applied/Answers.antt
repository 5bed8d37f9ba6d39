use Rattle.std.proofs.Common.{◌≡◌, ◌∙◌, false, Some, None, length, nat_eq, refl, sym, ap}
use Rattle.fc_model.specs.NamelessView.{ndecl_of}
use Rattle.fc_type_scope.specs.Scopes.{scope_in}
use Rattle.fc_type_table.specs.TypeTables.{modules_in, nodes_of, shown}
use Rattle.fc_coercion_forms.proofs.Families.{family-by_spine}
use Rattle.fc_coercion_forms.proofs.sides.is_family_applied.Goals as goal

pub returns-in_default : goal.returns-in_default
returns-in_default c =
    let ks = scope_in c.args.scope.now in
    family-by_spine (modules_in c.args.types.now) (nodes_of c.args.types.now) ks (shown c.args.types.now ks c.args.id) (shown c.args.types.now ks c.in_ok-spine.spine.head)
    c.in_ok-spine.spine.arguments None false
    c.in_ok-spine.ensures.head c.in_ok-spine.ensures.arguments (c.in_default.ensures ks) refl

pub returns-in-None : goal.returns-in-None
returns-in-None c =
    let ks = scope_in c.args.scope.now in
    family-by_spine (modules_in c.args.types.now) (nodes_of c.args.types.now) ks (shown c.args.types.now ks c.args.id) (shown c.args.types.now ks c.in_ok-spine.spine.head)
    c.in_ok-spine.spine.arguments
    (Some (ndecl_of c.in-Some.decl.now)) false
    c.in_ok-spine.ensures.head c.in_ok-spine.ensures.arguments (c.in-Some.ensures ks) (sym (c.in-None.ensures (length c.in_ok-spine.spine.arguments)))

pub returns : goal.returns
returns c =
    let ks = scope_in c.args.scope.now in
    let count : c.len.result ≡ length c.in_ok-spine.spine.arguments = c.len.ensures in
    family-by_spine (modules_in c.args.types.now) (nodes_of c.args.types.now) ks (shown c.args.types.now ks c.args.id) (shown c.args.types.now ks c.in_ok-spine.spine.head)
    c.in_ok-spine.spine.arguments
    (Some (ndecl_of c.in-Some.decl.now)) (nat_eq c.in-Some-params_of_family.count c.len.result)
    c.in_ok-spine.ensures.head c.in_ok-spine.ensures.arguments (c.in-Some.ensures ks)
    (ap (nat_eq c.in-Some-params_of_family.count) count ∙ sym (c.in-Some-params_of_family.ensures (length c.in_ok-spine.spine.arguments)))
