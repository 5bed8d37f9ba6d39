use Rattle.std.proofs.Common.{Result, Ok, Err, OnOk}
use Rattle.fc_type_table.specs.TypeTables.{nodes_of}
use Rattle.fc_types.specs.Listed.{own_axiom}
use Rattle.fc_lint_context.proofs.Declared.{left_pushed, right_pushed}
use Rattle.fc_lint_context.proofs.declared_types.add_axiom.Goals as goal

on_ok : {X E P Q : Type 0} (r : Result X E) → (P → Q) → OnOk r P → OnOk r Q
on_ok (Ok x) f p = f p
on_ok (Err e) f p = tt

always : {X E P : Type 0} (r : Result X E) → P → OnOk r P
always (Ok x) p = p
always (Err e) p = tt

pub returns-in_ok-push-in-Some-clause-lefts : goal.returns-in_ok-push-in-Some-clause-lefts
returns-in_ok-push-in-Some-clause-lefts c =
    let own = c.in_ok-own-in-Some in
    always c.push-in-Some.result (left_pushed (nodes_of c.args.types.now) (nodes_of c.axiom_sides.new.types) c.args.declared.now c.args.sides.now.lefts c.push.new.self own.own.left c.args.number (own_axiom c.in-Some.axiom)
    own.ensures.grows.nodes c.requires.lefts_in c.requires.lefts c.in-Some.ensures.own own.ensures.left c.in_ok-push-in-Some.ensures.ok)

pub returns-in_ok-push-in-Some-clause-rights : goal.returns-in_ok-push-in-Some-clause-rights
returns-in_ok-push-in-Some-clause-rights c =
    let own = c.in_ok-own-in-Some in
    on_ok c.push-in-Some.result (right_pushed (nodes_of c.args.types.now) (nodes_of c.axiom_sides.new.types) c.args.declared.now c.args.sides.now.rights c.push-in-Some.new.self own.own.right c.args.number (own_axiom c.in-Some.axiom)
    own.ensures.grows.nodes c.requires.rights_in c.requires.rights c.in-Some.ensures.own own.ensures.right) c.push-in-Some.ensures.ok
