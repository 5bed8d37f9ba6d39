use Rattle.std.proofs.Common.{◌∙◌, Result, Ok, Err, IfOk}
use Rattle.fc_model.specs.NamelessView.{nty_of}
use Rattle.fc_type_scope.specs.Scopes.{scope_in}
use Rattle.fc_type_table.specs.TypeTables.{nodes_of}
use Rattle.fc_type_scope.proofs.Growing.{coercion_over}
use Rattle.fc_type_scope.proofs.ScopeKinds.{scope_grows}
use Rattle.fc_type_scope.proofs.scope.TypeScope.over_coercion.Goals as goal

if_ok : {X E : Type 0} {P Q : X → Type 0} (r : Result X E) → ((x : X) → P x → Q x) → IfOk r P → IfOk r Q
if_ok (Ok x) f p = f x p
if_ok (Err e) f p = tt

pub returns-clause-view : goal.returns-clause-view
returns-clause-view c =
    let ks = scope_in c.args.self.now in
    if_ok c.coforall.result (λ id shows.
    shows ks ∙ coercion_over c.args.types.now c.read.new.types c.read-2.new.types ks c.in_ok-left.left c.in_ok-right.right c.args.answer (nty_of c.args.left.now) (nty_of c.args.right.now) c.args.role
    c.in_ok-left.ensures.grows c.in_ok-right.ensures.grows c.requires.answer_in c.in_ok-left.ensures.valid c.in_ok-left.ensures.view c.in_ok-right.ensures.view) c.coforall.ensures.view

pub read-requires-2 : goal.read-requires-2
read-requires-2 c = scope_grows (nodes_of c.args.types.now) (nodes_of c.read.new.types) c.args.self.now.kinds.now c.in_ok-left.ensures.grows.nodes c.requires.scope
