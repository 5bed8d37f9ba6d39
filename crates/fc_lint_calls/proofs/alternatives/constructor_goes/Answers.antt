use Rattle.std.proofs.Common.{◌≡◌, ◌∙◌, true, false, sym, ap, rules}
use Rattle.fc_model.specs.Calling.{binders_fit, binders_to, is_data_of}
use Rattle.fc_model.specs.NamelessView.{nbinders_of}
use Rattle.fc_model.specs.Typing.{constructor_in_order}
use Rattle.fc_types.specs.TableViews.{constructor_of}
use Rattle.fc_type_scope.proofs.Growing.{shown-grows}
use Rattle.fc_type_scope.proofs.OneMore.{entered_grows}
use Rattle.fc_type_scope.proofs.ScopeKinds.{scope_grows}
use Rattle.fc_type_scope.specs.Scopes.{scope_in}
use Rattle.fc_type_table.proofs.Numbers.{Grows-further}
use Rattle.fc_type_table.specs.TypeTables.{nodes_of, shown}
use Rattle.fc_lint_calls.proofs.BinderNumbers.{other_number}
use Rattle.fc_lint_calls.proofs.ConstructorFits.{is_fit, is_of_data, not_as_many}
use Rattle.fc_lint_calls.specs.AltViews.{before_of}
use Rattle.fc_lint_calls.proofs.alternatives.constructor_goes.Goals as goal

pub returns-then-not-branch-clause-says : goal.returns-then-not-branch-clause-says
returns-then-not-branch-clause-says c =
    let old = nodes_of c.args.types.now in
    let ks = scope_in c.args.scope.now in
    let s = shown c.args.types.now ks c.args.scrutinee in
    let h = shown c.args.types.now ks c.in_ok-spine.spine.head in
    let ids = c.in_ok-spine.spine.arguments in
    let n = c.args.name.now in
    let k = constructor_of c.args.con.now in
    let told : c.in_ok-is_data_of.field-0 ≡ false = search rules in
    let of_data : is_data_of s n k ≡ false = sym (is_of_data old ks s h ids n k c.in_ok-spine.ensures.head c.in_ok-spine.ensures.arguments c.in_ok-is_data_of.field-0 c.in_ok-is_data_of.ensures.view) ∙ told in
    rw of_data (search rules)

pub returns-then-not-constructor_follows-clause-says : goal.returns-then-not-constructor_follows-clause-says
returns-then-not-constructor_follows-clause-says c =
    let old = nodes_of c.args.types.now in
    let ks = scope_in c.args.scope.now in
    let s = shown c.args.types.now ks c.args.scrutinee in
    let h = shown c.args.types.now ks c.in_ok-spine.spine.head in
    let ids = c.in_ok-spine.spine.arguments in
    let n = c.args.name.now in
    let k = constructor_of c.args.con.now in
    let told : c.in_ok-is_data_of.field-0 ≡ true = search rules in
    let of_data : is_data_of s n k ≡ true = sym (is_of_data old ks s h ids n k c.in_ok-spine.ensures.head c.in_ok-spine.ensures.arguments c.in_ok-is_data_of.field-0 c.in_ok-is_data_of.ensures.view) ∙ told in
    let ordered : constructor_in_order (before_of c.args.before) c.args.con.now.number ≡ false = search rules in
    rw (of_data, ordered) (search rules)

pub returns-then-not-branch-2-clause-says : goal.returns-then-not-branch-2-clause-says
returns-then-not-branch-2-clause-says c =
    let old = nodes_of c.args.types.now in
    let ks = scope_in c.args.scope.now in
    let s = shown c.args.types.now ks c.args.scrutinee in
    let h = shown c.args.types.now ks c.in_ok-spine.spine.head in
    let ids = c.in_ok-spine.spine.arguments in
    let n = c.args.name.now in
    let k = constructor_of c.args.con.now in
    let bs = nbinders_of c.args.binders.now in
    let told : c.in_ok-is_data_of.field-0 ≡ true = search rules in
    let of_data : is_data_of s n k ≡ true = sym (is_of_data old ks s h ids n k c.in_ok-spine.ensures.head c.in_ok-spine.ensures.arguments c.in_ok-is_data_of.field-0 c.in_ok-is_data_of.ensures.view) ∙ told in
    let ordered : constructor_in_order (before_of c.args.before) c.args.con.now.number ≡ true = search rules in
    let taken : c.in_ok-binds_as_many.field-0 ≡ false = search rules in
    let told_many = c.in_ok-binds_as_many.ensures in
    let fits : binders_fit n k s bs ≡ false = other_number n k s bs of_data (not_as_many c.args.binders.now k c.in_ok-binds_as_many.field-0 told_many taken) in
    rw (of_data, ordered, fits) (search rules)

pub function_to-requires-clause-scope : goal.function_to-requires-clause-scope
function_to-requires-clause-scope c =
    scope_grows (nodes_of c.args.types.now) (nodes_of c.is_data_of.new.types) c.args.scope.now.kinds.now c.in_ok-is_data_of.ensures.grows.nodes c.requires.scope

pub function_to-requires-clause-entered_in : goal.function_to-requires-clause-entered_in
function_to-requires-clause-entered_in c =
    entered_grows (nodes_of c.args.types.now) (nodes_of c.is_data_of.new.types) (scope_in c.args.scope.now) (nbinders_of c.args.binders.now) c.args.entered.now c.in_ok-is_data_of.ensures.grows.nodes c.requires.entered

pub returns-then-not-branch-3-clause-says : goal.returns-then-not-branch-3-clause-says
returns-then-not-branch-3-clause-says c =
    let k0 = c.args.types.now in
    let k1 = c.is_data_of.new.types in
    let k2 = c.function_to.new.types in
    let old = nodes_of k0 in
    let ks = scope_in c.args.scope.now in
    let s = shown k0 ks c.args.scrutinee in
    let h = shown k0 ks c.in_ok-spine.spine.head in
    let ids = c.in_ok-spine.spine.arguments in
    let n = c.args.name.now in
    let k = constructor_of c.args.con.now in
    let bs = nbinders_of c.args.binders.now in
    let told : c.in_ok-is_data_of.field-0 ≡ true = search rules in
    let of_data : is_data_of s n k ≡ true = sym (is_of_data old ks s h ids n k c.in_ok-spine.ensures.head c.in_ok-spine.ensures.arguments c.in_ok-is_data_of.field-0 c.in_ok-is_data_of.ensures.view) ∙ told in
    let ordered : constructor_in_order (before_of c.args.before) c.args.con.now.number ≡ true = search rules in
    let taken : c.in_ok-is_at.field-0 ≡ false = search rules in
    let more = Grows-further k0 k1 k2 c.in_ok-is_data_of.ensures.grows c.in_ok-over.ensures.grows in
    let over = c.in_ok-over.ensures.view ∙ ap (binders_to bs) (shown-grows k0 k1 ks c.args.scrutinee c.in_ok-is_data_of.ensures.grows c.requires.scrutinee_in) in
    let fits : binders_fit n k s bs ≡ false =
    sym (is_fit old ks s h ids n k c.in_ok-spine.ensures.head c.in_ok-spine.ensures.arguments (nodes_of k2) c.args.ty c.in_ok-over.over bs c.in_ok-is_at.field-0 more.nodes
    c.in_ok-spine.ensures.arguments_in c.requires.type_in c.requires.type_view over c.in_ok-is_at.ensures.view) ∙ taken in
    rw (of_data, ordered, fits) (search rules)

pub returns-clause-says : goal.returns-clause-says
returns-clause-says c =
    let k0 = c.args.types.now in
    let k1 = c.is_data_of.new.types in
    let k2 = c.function_to.new.types in
    let old = nodes_of k0 in
    let ks = scope_in c.args.scope.now in
    let s = shown k0 ks c.args.scrutinee in
    let h = shown k0 ks c.in_ok-spine.spine.head in
    let ids = c.in_ok-spine.spine.arguments in
    let n = c.args.name.now in
    let k = constructor_of c.args.con.now in
    let bs = nbinders_of c.args.binders.now in
    let told : c.in_ok-is_data_of.field-0 ≡ true = search rules in
    let of_data : is_data_of s n k ≡ true = sym (is_of_data old ks s h ids n k c.in_ok-spine.ensures.head c.in_ok-spine.ensures.arguments c.in_ok-is_data_of.field-0 c.in_ok-is_data_of.ensures.view) ∙ told in
    let ordered : constructor_in_order (before_of c.args.before) c.args.con.now.number ≡ true = search rules in
    let taken : c.in_ok-is_at.field-0 ≡ true = search rules in
    let more = Grows-further k0 k1 k2 c.in_ok-is_data_of.ensures.grows c.in_ok-over.ensures.grows in
    let over = c.in_ok-over.ensures.view ∙ ap (binders_to bs) (shown-grows k0 k1 ks c.args.scrutinee c.in_ok-is_data_of.ensures.grows c.requires.scrutinee_in) in
    let fits : binders_fit n k s bs ≡ true =
    sym (is_fit old ks s h ids n k c.in_ok-spine.ensures.head c.in_ok-spine.ensures.arguments (nodes_of k2) c.args.ty c.in_ok-over.over bs c.in_ok-is_at.field-0 more.nodes
    c.in_ok-spine.ensures.arguments_in c.requires.type_in c.requires.type_view over c.in_ok-is_at.ensures.view) ∙ taken in
    rw (of_data, ordered, fits) (search rules)
