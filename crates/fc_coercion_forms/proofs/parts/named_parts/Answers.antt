use Rattle.std.proofs.Common.{◌≡◌, ◌∙◌, List, Some, reverse, sym, ap}
use Rattle.std.specs.Option.{option_and_then}
use Rattle.fc_model.specs.Calling.{declared_name}
use Rattle.fc_model.specs.Coercing.{paired}
use Rattle.fc_model.specs.NamelessView.{ndecl_of, nparams_of}
use Rattle.fc_model.specs.Needs.{param_roles}
use Rattle.fc_type_scope.specs.Scopes.{scope_in, shown_all}
use Rattle.fc_type_table.specs.TypeTables.{declaration_in, modules_in, nodes_of, shown}
use Rattle.fc_type_table.specs.declared.node.TypeId.{TypeId}
use Rattle.fc_coercion_forms.proofs.Named.{named-apart, named-counts, named-other, named-same, counts-apart, counts-same}
use Rattle.fc_coercion_forms.proofs.parts.named_parts.Goals as goal
use Rattle.fc_coercion_forms.proofs.parts.named_parts.Goals.{then-not-same-via-then-not-same}
use Rattle.fc_coercion_forms.proofs.parts.named_parts.Goals.{then-not-same-via-else-not-same+then-not-alike, then-not-same-via-else-not-same+else-not-alike+then-not-is_injective}

pub returns-then-not-same-clause-view : goal.returns-then-not-same-clause-view
returns-then-not-same-clause-view c =
    let ks = scope_in c.args.scope.now in
    let ms = modules_in c.args.types.now in
    let t = shown c.args.types.now ks c.args.left.now.head in
    let u = shown c.args.types.now ks c.args.right.now.head in
    let ts = reverse (shown_all c.args.types.now ks c.args.left.now.arguments) in
    let us = reverse (shown_all c.args.types.now ks c.args.right.now.arguments) in
    let d = ndecl_of c.in-Some.decl.now in
    let found : Some d ≡ option_and_then (declaration_in ms) (declared_name t) = c.in-Some.ensures ks in
    elim c.then-not-same.branch [
      | then-not-same-via-then-not-same w ↦ named-other ms c.args.role t ts u us d found (sym c.same-same.ensures ∙ w.if-not-same.true)
      | then-not-same-via-else-not-same+then-not-alike w ↦ named-counts ms c.args.role t ts u us d found
          (counts-apart (nodes_of c.args.types.now) ks c.args.left.now.arguments c.args.right.now.arguments c.len.result c.len-2.result c.len.ensures c.len-2.ensures w.if-not-alike.true)
      | then-not-same-via-else-not-same+else-not-alike+then-not-is_injective w ↦ named-apart ms c.args.role t ts u us d found (sym w.is_injective.ensures
          ∙ w.if-not-is_injective.true)
    ]

pub returns-clause-view : goal.returns-clause-view
returns-clause-view c =
    let ks = scope_in c.args.scope.now in
    let ms = modules_in c.args.types.now in
    let t = shown c.args.types.now ks c.args.left.now.head in
    let u = shown c.args.types.now ks c.args.right.now.head in
    let ts = reverse (shown_all c.args.types.now ks c.args.left.now.arguments) in
    let us = reverse (shown_all c.args.types.now ks c.args.right.now.arguments) in
    let d = ndecl_of c.in-Some.decl.now in
    let found : Some d ≡ option_and_then (declaration_in ms) (declared_name t) = c.in-Some.ensures ks in
    let alike = counts-same (nodes_of c.args.types.now) ks c.args.left.now.arguments c.args.right.now.arguments c.len.result c.len-2.result c.len.ensures c.len-2.ensures
    c.if-not-alike.false in
    let roles = param_roles (nparams_of c.roled_params.result.now) in
    ap Some (c.in_ok-group.ensures.view
    ∙ ap (λ (ids : List TypeId). paired c.args.role roles (reverse (shown_all c.args.types.now ks ids)) (reverse (shown_all c.args.types.now ks c.as_slice-rights.result.now)))
    c.as_slice-lefts.ensures
    ∙ ap (λ (ids : List TypeId). paired c.args.role roles ts (reverse (shown_all c.args.types.now ks ids))) c.as_slice-rights.ensures
    ∙ ap (λ rs. paired c.args.role rs ts us) c.roled_params.ensures)
    ∙ named-same ms c.args.role t ts u us d found (sym c.same-same.ensures ∙ c.if-not-same.false) alike (sym c.is_injective.ensures ∙ c.if-not-is_injective.false)
