use Rattle.std.proofs.Common.{◌≡◌, ◌∙◌, length, true, rules}
use Rattle.fc_model.specs.Coercing.{are_at_roles, constructed_ends}
use Rattle.fc_model.specs.Needs.{name_roles}
use Rattle.fc_model.specs.Says.{Refuses}
use Rattle.fc_types.specs.ModuleViews.{modules_of}
use Rattle.fc_type_scope.specs.EndViews.{shown_all_ends_at, shown_ends}
use Rattle.fc_type_scope.specs.Scopes.{scope_in}
use Rattle.fc_type_table.specs.TypeTables.{modules_in, nodes_of}
use Rattle.fc_coercion_forms.proofs.Ends.{length-ends}
use Rattle.fc_coercion_forms.proofs.Kinded.{constructed_refused, constructed_says}
use Rattle.fc_coercion_forms.proofs.constructions.constructed.Goals as goal

pub returns-in_err-takes-clause-says : goal.returns-in_err-takes-clause-says
returns-in_err-takes-clause-says c =
    let ms = modules_of c.args.declared.now in
    let ks = scope_in c.args.scope.now in
    let es = shown_all_ends_at (nodes_of c.args.types.now) ks c.args.group.now in
    let roles : are_at_roles c.args.role (name_roles ms c.args.name.now) es ≡ true = search rules in
    let refused : Refuses c.in_err-takes.field-0.0 (constructed_ends ms ks c.args.role c.args.name.now es) =
    constructed_refused c.in_err-takes.field-0.0 ms ks c.args.role c.args.name.now es (length c.args.group.now) roles
    (length-ends (nodes_of c.args.types.now) ks c.args.group.now) c.in_err-takes.ensures in
    search (rules, refused)

pub returns-clause-says : goal.returns-clause-says
returns-clause-says c =
    let ms = modules_of c.args.declared.now in
    let ks = scope_in c.args.scope.now in
    let es = shown_all_ends_at (nodes_of c.args.types.now) ks c.args.group.now in
    let roles : are_at_roles c.args.role (name_roles ms c.args.name.now) es ≡ true = search rules in
    let modules : modules_in c.named.new.types ≡ ms = c.in_ok-ends.ensures.grows.modules ∙ c.requires.modules in
    constructed_says (λ e. shown_ends c.named.new.types ks e) c.kinded.result (modules_in c.named.new.types) ms ks c.args.role c.args.name.now es (length c.args.group.now)
    (shown_ends c.named.new.types ks c.in_ok-ends.ends) c.kinded.ensures.says modules c.in_ok-ends.ensures.view roles
    (length-ends (nodes_of c.args.types.now) ks c.args.group.now) c.in_ok-takes.ensures
