use Rattle.std.proofs.Common.{◌∙◌, ◌≡◌, ◌∷◌, ◌++◌, ◌-◌, [], get_or, reverse, sym, ap, subst, arith}
use Rattle.fc_model.specs.Coercing.{paired}
use Rattle.fc_model.specs.NamelessView.{nparams_of}
use Rattle.fc_model.specs.Needs.{param_roles, role_within}
use Rattle.fc_type_scope.proofs.Proven.{AreEndsAt-none}
use Rattle.fc_type_scope.specs.EndViews.{AreEndsAt, IsEndsAt}
use Rattle.fc_type_scope.specs.declared.ends.Ends as code
use Rattle.fc_type_scope.specs.Scopes.{scope_in, shown_all}
use Rattle.fc_type_scope.proofs.Numbers.{AreTypesAt-at}
use Rattle.fc_type_table.specs.TypeTables.{nodes_of}
use Rattle.fc_type_spines.proofs.Heads.{no_id}
use Rattle.fc_coercion_forms.proofs.Groups.{AreEndsAt-snoc}
use Rattle.fc_coercion_forms.proofs.Pairing.{pairs-end, pairs-start, pairs-turn}
use Rattle.fc_coercion_forms.proofs.parts.pairs.Goals as goal

pub loop-left-init : goal.loop-left-init
loop-left-init c =
    let ns = nodes_of c.args.types.now in
    let ks = scope_in c.args.scope.now in
    record {
      within = omega arith;
      valid = subst (AreEndsAt ns ks) (sym c.new-group.ensures) (AreEndsAt-none ns ks);
      so_far = pairs-start ns ks c.args.role (param_roles (nparams_of c.args.params.now)) c.args.lefts.now c.args.rights.now c.new-group.result c.new-group.ensures
          c.requires.alike;
    }

pub loop-left-preserved : goal.loop-left-preserved
loop-left-preserved c =
    let ns = nodes_of c.args.types.now in
    let ks = scope_in c.args.scope.now in
    let i = c.loop-left.left - 1 in
    let here : code.Ends = record { role = c.role_within.result; left = get_or c.args.lefts.now i no_id; right = get_or c.args.rights.now i no_id } in
    let pushed : c.push.new.self ≡ c.loop-left.group ++ here ∷ [] = c.in_ok-push.ensures.ok in
    let valid : IsEndsAt ns ks here = record {
      left = AreTypesAt-at ns ks c.args.lefts.now i no_id (omega arith) c.requires.lefts_in;
      right = AreTypesAt-at ns ks c.args.rights.now i no_id (omega arith) c.requires.rights_in;
    } in
    record {
      within = omega arith;
      valid = AreEndsAt-snoc ns ks c.loop-left.group c.push.new.self here c.loop-left.invariant.valid valid pushed;
      so_far = pairs-turn ns ks c.args.role c.role_within.result (param_roles (nparams_of c.loop-left.roles.now)) (param_roles (nparams_of c.later_params-roles.result.now))
          c.args.lefts.now c.args.rights.now
          c.loop-left.group c.push.new.self i c.loop-left.left
          (paired c.args.role (param_roles (nparams_of c.args.params.now)) (reverse (shown_all c.args.types.now ks c.args.lefts.now)) (reverse (shown_all c.args.types.now ks c.args.rights.now)))
          (omega arith) c.loop-left.invariant.within c.requires.alike (c.role_within.ensures
          ∙ ap (role_within c.args.role) c.next_role.ensures) c.later_params-roles.ensures c.loop-left.invariant.so_far pushed;
    }

pub returns-clause-view : goal.returns-clause-view
returns-clause-view c =
    let ks = scope_in c.args.scope.now in
    pairs-end (nodes_of c.args.types.now) ks c.args.role (param_roles (nparams_of c.loop-left.roles.now)) c.args.lefts.now c.args.rights.now c.loop-left.group c.loop-left.left
    (paired c.args.role (param_roles (nparams_of c.args.params.now)) (reverse (shown_all c.args.types.now ks c.args.lefts.now)) (reverse (shown_all c.args.types.now ks c.args.rights.now)))
    c.loop-left-test.false c.loop-left.invariant.so_far
