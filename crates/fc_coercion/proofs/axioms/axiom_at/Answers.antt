use Rattle.std.proofs.Common.{◌≡◌, ◌∙◌, sym, ap, Some, None, Ok, rules}
use Rattle.std.specs.Option.{option_map}
use Rattle.fc_model.specs.Coercing as words
use Rattle.fc_model.specs.Coercing.{axiom_named}
use Rattle.fc_model.specs.Kinding.{Modules}
use Rattle.fc_model.specs.Nameless.{NTy}
use Rattle.fc_model.specs.NamelessView.{ndecl_of}
use Rattle.fc_types.specs.TableViews.{axiom_of}
use Rattle.fc_coercion_forms.specs.Axioms.{fits_or_fault, sides_at}
use Rattle.fc_coercion_forms.specs.declared.axioms.Pair.{Pair}
use Rattle.fc_lint_context.proofs.Contexts.{IsContextAt-grows}
use Rattle.fc_lint_context.specs.ContextViews.{modules_of_context}
use Rattle.fc_type_scope.proofs.Proven.{shown_all_ends-grows}
use Rattle.fc_type_scope.specs.EndViews.{shown_all_ends_at}
use Rattle.fc_type_scope.specs.Scopes.{scope_in}
use Rattle.fc_type_table.specs.TypeTables.{nodes_of, shown}
use Rattle.fc_coercion.proofs.AxiomEnds.{AreSides, axiom_answers, axiom_fails, sides_found}
use Rattle.fc_coercion.proofs.axioms.axiom_at.Goals as goal

pub returns-in_err-role-clause-says : goal.returns-in_err-role-clause-says
returns-in_err-role-clause-says c =
    let ctx = c.args.context.now in
    let n = c.args.name.now in
    let said = rw (c.requires.context.modules, c.in-Some.ensures.view _ c.requires.context.valid) at (c.in_err-role.ensures.says n.module) in
    axiom_fails (modules_of_context ctx) (scope_in ctx.scope) (shown_all_ends_at (nodes_of c.args.types.now) (scope_in ctx.scope) c.args.group.now) _ _ (axiom_named (modules_of_context ctx) n) _ said (search rules)

pub returns-in_default-2-clause-says : goal.returns-in_default-2-clause-says
returns-in_default-2-clause-says c =
    let ctx = c.args.context.now in
    let n = c.args.name.now in
    let ks = scope_in ctx.scope in
    let ms = modules_of_context ctx in
    let k0 = nodes_of c.args.types.now in
    let mid = c.fit_declared.new.types in
    let k1 = nodes_of mid in
    let k = c.in-Some.found in
    let es = shown_all_ends_at k0 ks c.args.group.now in
    let a = axiom_of n.module (ndecl_of k.decl.now) in
    let l : NTy = shown mid ks k.left in
    let u : NTy = shown mid ks k.right in
    let fits : fits_or_fault ms ks a es ≡ Ok c.in_ok-role.role = ap (λ (m : Modules). fits_or_fault m ks a es) (sym c.requires.context.modules) ∙ c.in_ok-role.ensures.says n.module in
    let later = IsContextAt-grows k0 k1 ctx c.in_ok-role.ensures.grows.nodes c.requires.context.valid in
    let shows : AreSides ms ks es l u a = λ x e. ((c.in-Some.ensures.sides k1 later x e).left, (c.in-Some.ensures.sides k1 later x e).right) in
    let none : c.in_ok-at.field-0 ≡ None = search rules in
    let grown : shown_all_ends_at k1 ks c.args.group.now ≡ es = shown_all_ends-grows k0 k1 ks c.args.group.now c.in_ok-role.ensures.grows.nodes c.requires.group_in in
    let view : Pair → NTy × NTy = λ p. (shown c.at_all_ends.new.types ks p.left, shown c.at_all_ends.new.types ks p.right) in
    let at : None ≡ sides_at l u es = ap (option_map view) (sym none) ∙ c.in_ok-at.ensures.view ∙ ap (sides_at l u) grown in
    sides_found ms ks es l u a c.in_ok-role.role fits shows at

pub returns-clause-says : goal.returns-clause-says
returns-clause-says c =
    let ctx = c.args.context.now in
    let n = c.args.name.now in
    let ks = scope_in ctx.scope in
    let ms = modules_of_context ctx in
    let k0 = nodes_of c.args.types.now in
    let mid = c.fit_declared.new.types in
    let new = c.at_all_ends.new.types in
    let k1 = nodes_of mid in
    let k = c.in-Some.found in
    let es = shown_all_ends_at k0 ks c.args.group.now in
    let a = axiom_of n.module (ndecl_of k.decl.now) in
    let named : a ≡ axiom_named ms n = c.in-Some.ensures.view k0 c.requires.context.valid in
    let l : NTy = shown mid ks k.left in
    let u : NTy = shown mid ks k.right in
    let fits : fits_or_fault ms ks a es ≡ Ok c.in_ok-role.role = ap (λ (m : Modules). fits_or_fault m ks a es) (sym c.requires.context.modules) ∙ c.in_ok-role.ensures.says n.module in
    let later = IsContextAt-grows k0 k1 ctx c.in_ok-role.ensures.grows.nodes c.requires.context.valid in
    let shows : AreSides ms ks es l u a = λ x e. ((c.in-Some.ensures.sides k1 later x e).left, (c.in-Some.ensures.sides k1 later x e).right) in
    let grown : shown_all_ends_at k1 ks c.args.group.now ≡ es = shown_all_ends-grows k0 k1 ks c.args.group.now c.in_ok-role.ensures.grows.nodes c.requires.group_in in
    let view : Pair → NTy × NTy = λ p. (shown new ks p.left, shown new ks p.right) in
    let some : c.in_ok-at.field-0 ≡ Some c.in-Some-2.at = search rules in
    let at : Some (shown new ks c.in-Some-2.at.left, shown new ks c.in-Some-2.at.right) ≡ sides_at l u es =
    ap (option_map view) (sym some) ∙ c.in_ok-at.ensures.view ∙ ap (sides_at l u) grown in
    ap (λ x. words.axiom_ends ms ks x es) (sym named)
    ∙ axiom_answers ms ks es l u a c.in_ok-role.role (shown new ks c.in-Some-2.at.left) (shown new ks c.in-Some-2.at.right) fits shows at
