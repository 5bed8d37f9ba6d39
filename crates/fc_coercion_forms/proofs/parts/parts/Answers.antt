use Rattle.std.proofs.Common.{◌≡◌, List, Option, IfOk, reverse, subst}
use Rattle.std.specs.Option.{option_map}
use Rattle.fc_model.specs.Coercing.{Ends}
use Rattle.fc_type_scope.specs.EndViews.{shown_all_ends_at}
use Rattle.fc_type_scope.specs.Scopes.{scope_in, shown_all}
use Rattle.fc_type_table.specs.TypeTables.{modules_in, nodes_of, shown}
use Rattle.fc_coercion_forms.proofs.Numbered.{parts_by_spines}
use Rattle.fc_coercion_forms.proofs.parts.parts.Goals as goal

pub returns-clause-view : goal.returns-clause-view
returns-clause-view c =
    let ks = scope_in c.args.scope.now in
    let same = parts_by_spines (modules_in c.args.types.now) c.args.ends.now.role (shown c.args.types.now ks c.args.ends.now.left) (shown c.args.types.now ks c.args.ends.now.right)
    (shown c.args.types.now ks c.in_ok-left.left.head) (shown c.args.types.now ks c.in_ok-right.right.head)
    (reverse (shown_all c.args.types.now ks c.in_ok-left.left.arguments)) (reverse (shown_all c.args.types.now ks c.in_ok-right.right.arguments))
    c.in_default.ensures.view c.in_default-coercion_asked.ensures.view c.in_ok-left.ensures.head c.in_ok-left.ensures.arguments c.in_ok-right.ensures.head
    c.in_ok-right.ensures.arguments in
    subst (λ (x : Option (List Ends)). IfOk c.named_parts.result (λ o. option_map (shown_all_ends_at (nodes_of c.args.types.now) ks) o ≡ x)) same c.named_parts.ensures.view
