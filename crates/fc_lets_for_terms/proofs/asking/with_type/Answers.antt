use Rattle.std.proofs.Common.{◌∙◌, ap₂}
use Rattle.fc_model.specs.Calling.{at_type}
use Rattle.fc_model.specs.NamelessView.{nty_of}
use Rattle.fc_type_scope.specs.Scopes.{scope_in}
use Rattle.fc_type_table.proofs.Numbers.{shown_at-grows}
use Rattle.fc_type_table.specs.TypeTables.{nodes_of}
use Rattle.fc_lets_for_terms.proofs.Steps.{is_forall, no_forall}
use Rattle.fc_lets_for_terms.proofs.asking.with_type.Goals as goal

pub returns-in-None-clause-view : goal.returns-in-None-clause-view
returns-in-None-clause-view c =
    let old = nodes_of c.args.types.now in
    let ks = scope_in c.args.scope.now in
    let same = shown_at-grows old (nodes_of c.read.new.types) ks c.args.whole.0 c.in_ok-by.ensures.grows.nodes c.requires.whole_in in
    no_forall old (nodes_of c.instantiate.new.types) ks c.args.whole (nty_of c.args.t.now) ((rw c.in-None.is at c.in_ok-instantiate.ensures.view) ∙ ap₂ at_type same c.in_ok-by.ensures.view)

pub returns-in-Some-clause-view : goal.returns-in-Some-clause-view
returns-in-Some-clause-view c =
    let old = nodes_of c.args.types.now in
    let ks = scope_in c.args.scope.now in
    let same = shown_at-grows old (nodes_of c.read.new.types) ks c.args.whole.0 c.in_ok-by.ensures.grows.nodes c.requires.whole_in in
    is_forall old (nodes_of c.instantiate.new.types) ks c.args.whole (nty_of c.args.t.now) c.in-Some.body ((rw c.in-Some.is at c.in_ok-instantiate.ensures.view) ∙ ap₂ at_type same c.in_ok-by.ensures.view)
