use Rattle.std.proofs.Common.{◌≡◌, ◌∷◌, ◌++◌, [], rules}
use Rattle.fc_syntax.specs.declared.ty.Role.TheVariants.{R}
use Rattle.fc_model.specs.Needs.{role_within}
use Rattle.fc_type_scope.specs.Scopes.{scope_in}
use Rattle.fc_type_scope.specs.declared.ends.Ends as code
use Rattle.fc_type_table.specs.TypeTables.{nodes_of}
use Rattle.fc_coercion_forms.proofs.Groups.{shown_three}
use Rattle.fc_coercion_forms.proofs.parts.equality_parts.Goals as goal

pub returns-clause-view : goal.returns-clause-view
returns-clause-view c =
    let a : code.Ends = record { role = c.role_within-inner.result; left = c.args.left.0.left; right = c.args.right.0.left } in
    let b : code.Ends = record { role = c.role_within-inner.result; left = c.args.left.0.right; right = c.args.right.0.right } in
    let d : code.Ends = record { role = c.role_within.result; left = c.args.left.1; right = c.args.right.1 } in
    let one : c.push.new.self ≡ c.new-group.result ++ a ∷ [] = search rules in
    let two : c.push-2.new.self ≡ c.push.new.self ++ b ∷ [] = search rules in
    let three : c.push-3.new.self ≡ c.push-2.new.self ++ d ∷ [] = search rules in
    shown_three (nodes_of c.args.types.now) (scope_in c.args.scope.now) c.new-group.result c.push.new.self c.push-2.new.self c.push-3.new.self a b d
    (role_within c.args.role c.args.left.0.role) (role_within c.args.role R)
    c.new-group.ensures one two three c.role_within-inner.ensures c.role_within-inner.ensures c.role_within.ensures
