use Rattle.std.proofs.Common.{◌≡◌, ◌∙◌, get_or, true, false, sym, ap}
use Rattle.fc_model.specs.Kinding.{same_role}
use Rattle.fc_model.specs.NamelessView.{nparams_of}
use Rattle.fc_model.specs.Needs.{next_role, param_roles, role_within}
use Rattle.fc_coercion_forms.proofs.Ends.{at_role_too, no_ends, none_at_roles, not_at_role}
use Rattle.fc_coercion_forms.proofs.roles.are_at_roles.Goals as goal

pub returns-then-not-same_role : goal.returns-then-not-same_role
returns-then-not-same_role c =
    let asked : c.role_within.result ≡ role_within c.args.role (next_role (param_roles (nparams_of c.loop-ends.left.now))) =
    c.role_within.ensures ∙ ap (role_within c.args.role) c.next_role.ensures in
    let roles = param_roles (nparams_of c.loop-ends.left.now) in
    let here : same_role (get_or c.args.group.now c.loop-ends.ends-index no_ends).role (role_within c.args.role (next_role roles)) ≡ false =
    cc (asked, c.same_role.ensures, c.if-not-same_role.true) in
    λ ns ks. sym (c.loop-ends.invariant ns ks ∙ not_at_role c.args.role roles ns ks c.args.group.now c.loop-ends.ends-index c.loop-ends-test.true here)

pub loop-ends-preserved : goal.loop-ends-preserved
loop-ends-preserved c =
    let asked : c.role_within.result ≡ role_within c.args.role (next_role (param_roles (nparams_of c.loop-ends.left.now))) =
    c.role_within.ensures ∙ ap (role_within c.args.role) c.next_role.ensures in
    let roles = param_roles (nparams_of c.loop-ends.left.now) in
    let here : same_role (get_or c.args.group.now c.loop-ends.ends-index no_ends).role (role_within c.args.role (next_role roles)) ≡ true =
    cc (asked, c.same_role.ensures, c.if-not-same_role.false) in
    λ ns ks. c.loop-ends.invariant ns ks
    ∙ at_role_too c.args.role roles (param_roles (nparams_of c.later_params-left.result.now)) ns ks c.args.group.now c.loop-ends.ends-index c.loop-ends-test.true here
    c.later_params-left.ensures

pub returns : goal.returns
returns c = λ ns ks.
    sym (c.loop-ends.invariant ns ks
    ∙ none_at_roles c.args.role (param_roles (nparams_of c.loop-ends.left.now)) ns ks c.args.group.now c.loop-ends.ends-index c.loop-ends-test.false)
