use Rattle.std.proofs.Common.{◌∙◌, false, true, sym}
use Rattle.fc_syntax.specs.declared.fault.FaultKind.TheVariants.{KindsDiffer, NthRange}
use Rattle.fc_model.specs.Coercing.{part_ends}
use Rattle.fc_type_scope.specs.EndViews.{shown_all_ends_at, shown_ends}
use Rattle.fc_type_scope.specs.Scopes.{scope_in}
use Rattle.fc_type_table.specs.TypeTables.{modules_in, nodes_of}
use Rattle.fc_coercion_forms.proofs.Groups.{got-none, got-valid}
use Rattle.fc_coercion_forms.proofs.Numbered.{kind-as, part-as}
use Rattle.fc_coercion_forms.proofs.Splits.{refused}
use Rattle.fc_coercion_forms.proofs.parts.part.Goals as goal

pub returns-in_default-get-clause-says : goal.returns-in_default-get-clause-says
returns-in_default-get-clause-says c =
    let ks = scope_in c.args.scope.now in
    let ms = modules_in c.args.types.now in
    let ns = nodes_of c.args.types.now in
    let e = shown_ends c.args.types.now ks c.args.ends in
    let found = rw c.in-Some.is at c.in_ok-group.ensures.view in
    refused c.flaw_here-in_default-get.result NthRange (part_ends ms ks c.args.number e) c.flaw_here-in_default-get.ensures
    (part-as ms ks c.args.number e (shown_all_ends_at ns ks c.in-Some.group) (sym c.is_phantom.ensures ∙ c.if-is_phantom.false) found
    ∙ got-none ms ns ks c.in-Some.group c.args.number c.in_default-get.ensures)

pub have_one_kind-requires-clause-left_in : goal.have_one_kind-requires-clause-left_in
have_one_kind-requires-clause-left_in c =
    let valid = rw c.in-Some.is at c.in_ok-group.ensures.valid in
    (got-valid (nodes_of c.args.types.now) (scope_in c.args.scope.now) c.in-Some.group c.args.number c.in-Some-get.part.now c.in-Some-get.ensures valid).left

pub have_one_kind-requires-clause-right_in : goal.have_one_kind-requires-clause-right_in
have_one_kind-requires-clause-right_in c =
    let valid = rw c.in-Some.is at c.in_ok-group.ensures.valid in
    (got-valid (nodes_of c.args.types.now) (scope_in c.args.scope.now) c.in-Some.group c.args.number c.in-Some-get.part.now c.in-Some-get.ensures valid).right

pub returns-then-not-have_one_kind-clause-says : goal.returns-then-not-have_one_kind-clause-says
returns-then-not-have_one_kind-clause-says c =
    let ks = scope_in c.args.scope.now in
    let ms = modules_in c.args.types.now in
    let ns = nodes_of c.args.types.now in
    let e = shown_ends c.args.types.now ks c.args.ends in
    let found = rw c.in-Some.is at c.in_ok-group.ensures.view in
    refused c.flaw_here-then-not-have_one_kind.result KindsDiffer (part_ends ms ks c.args.number e) c.flaw_here-then-not-have_one_kind.ensures
    (part-as ms ks c.args.number e (shown_all_ends_at ns ks c.in-Some.group) (sym c.is_phantom.ensures ∙ c.if-is_phantom.false) found
    ∙ kind-as ms ks ns c.in-Some.group c.args.number c.in-Some-get.part.now false c.in-Some-get.ensures (sym c.have_one_kind.ensures ∙ c.if-not-have_one_kind.true))

pub returns-clause-valid : goal.returns-clause-valid
returns-clause-valid c =
    let valid = rw c.in-Some.is at c.in_ok-group.ensures.valid in
    got-valid (nodes_of c.args.types.now) (scope_in c.args.scope.now) c.in-Some.group c.args.number c.in-Some-get.part.now c.in-Some-get.ensures valid

pub returns-clause-says : goal.returns-clause-says
returns-clause-says c =
    let ks = scope_in c.args.scope.now in
    let ms = modules_in c.args.types.now in
    let ns = nodes_of c.args.types.now in
    let e = shown_ends c.args.types.now ks c.args.ends in
    let found = rw c.in-Some.is at c.in_ok-group.ensures.view in
    part-as ms ks c.args.number e (shown_all_ends_at ns ks c.in-Some.group) (sym c.is_phantom.ensures ∙ c.if-is_phantom.false) found
    ∙ kind-as ms ks ns c.in-Some.group c.args.number c.in-Some-get.part.now true c.in-Some-get.ensures (sym c.have_one_kind.ensures ∙ c.if-not-have_one_kind.false)
