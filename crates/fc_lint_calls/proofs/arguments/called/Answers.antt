use Rattle.std.proofs.Common.{◌≡◌, Some, rules}
use Rattle.fc_model.specs.Calling.{met}
use Rattle.fc_type_scope.specs.Scopes.{scope_in}
use Rattle.fc_type_table.specs.TypeTables.{nodes_of, shown}
use Rattle.fc_lint_calls.specs.GivenViews.{givens_in}
use Rattle.fc_lint_calls.specs.Meetings.{met_at}
use Rattle.fc_lint_calls.proofs.CalledJudged.{called-judged, called-wrong}
use Rattle.fc_lint_calls.proofs.arguments.called.Goals as goal

pub returns-then-givens-count-clause-says : goal.returns-then-givens-count-clause-says
returns-then-givens-count-clause-says c =
    let ks = scope_in c.args.scope.now in
    let wrong = called-wrong (nodes_of c.args.types.now) ks c.args.givens.now c.args.arity c.args.count (shown c.args.types.now ks c.args.ty) (search rules) in
    rw wrong (search rules)

pub returns-then-not-met-clause-says : goal.returns-then-not-met-clause-says
returns-then-not-met-clause-says c =
    let ks = scope_in c.args.scope.now in
    let t = shown c.args.types.now ks c.args.ty in
    let found : Some (met_at (nodes_of c.meets_all.new.types) ks c.in-Some.met) ≡ met t (givens_in c.args.types.now ks c.args.givens.now) = search rules in
    let judged = called-judged (nodes_of c.args.types.now) ks c.args.givens.now c.args.arity c.args.count t (Some (met_at (nodes_of c.meets_all.new.types) ks c.in-Some.met)) (search rules) found in
    rw judged (search rules)

pub returns-then-not-met-2-clause-says : goal.returns-then-not-met-2-clause-says
returns-then-not-met-2-clause-says c =
    let ks = scope_in c.args.scope.now in
    let t = shown c.args.types.now ks c.args.ty in
    let found : Some (met_at (nodes_of c.meets_all.new.types) ks c.in-Some.met) ≡ met t (givens_in c.args.types.now ks c.args.givens.now) = search rules in
    let judged = called-judged (nodes_of c.args.types.now) ks c.args.givens.now c.args.arity c.args.count t (Some (met_at (nodes_of c.meets_all.new.types) ks c.in-Some.met)) (search rules) found in
    rw judged (search rules)

pub returns-then-not-met-3-clause-says : goal.returns-then-not-met-3-clause-says
returns-then-not-met-3-clause-says c =
    let ks = scope_in c.args.scope.now in
    let t = shown c.args.types.now ks c.args.ty in
    let found : Some (met_at (nodes_of c.meets_all.new.types) ks c.in-Some.met) ≡ met t (givens_in c.args.types.now ks c.args.givens.now) = search rules in
    let judged = called-judged (nodes_of c.args.types.now) ks c.args.givens.now c.args.arity c.args.count t (Some (met_at (nodes_of c.meets_all.new.types) ks c.in-Some.met)) (search rules) found in
    rw judged (search rules)

pub returns-clause-says : goal.returns-clause-says
returns-clause-says c =
    let ks = scope_in c.args.scope.now in
    let t = shown c.args.types.now ks c.args.ty in
    let found : Some (met_at (nodes_of c.meets_all.new.types) ks c.in-Some.met) ≡ met t (givens_in c.args.types.now ks c.args.givens.now) = search rules in
    let judged = called-judged (nodes_of c.args.types.now) ks c.args.givens.now c.args.arity c.args.count t (Some (met_at (nodes_of c.meets_all.new.types) ks c.in-Some.met)) (search rules) found in
    rw judged (search rules)
