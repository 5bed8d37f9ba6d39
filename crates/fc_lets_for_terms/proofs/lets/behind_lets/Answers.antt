use Rattle.std.proofs.Common.{ap, ◌∙◌}
use Rattle.fc_model.specs.NamelessView.{nargs_of, nexpr_of}
use Rattle.fc_type_scope.specs.Scopes.{scope_in}
use Rattle.fc_type_table.specs.TypeTables.{shown}
use Rattle.fc_lets_for_terms.specs.Asking.{asked_all, lets_around}
use Rattle.fc_lets_for_terms.proofs.Behind.{none_behind, some_behind}
use Rattle.fc_lets_for_terms.proofs.lets.behind_lets.Goals as goal

pub returns-in-None-clause-view : goal.returns-in-None-clause-view
returns-in-None-clause-view c =
    none_behind (shown c.args.types.now (scope_in c.args.scope.now) c.args.ty) (nargs_of c.args.args.now) (nexpr_of c.args.body) (rw c.in-None.is at c.in_ok-terms_asked.ensures.view)

pub returns-in_ok-lets_around-in-Some-clause-view : goal.returns-in_ok-lets_around-in-Some-clause-view
returns-in_ok-lets_around-in-Some-clause-view c =
    let ks = scope_in c.args.scope.now in
    let b = nexpr_of c.args.body in
    some_behind (shown c.args.types.now ks c.args.ty) (nargs_of c.args.args.now) b _ (asked_all c.terms_asked.new.types ks c.in-Some.asked) (rw c.in-Some.is at c.in_ok-terms_asked.ensures.view)
    (c.in_ok-lets_around-in-Some.ensures ∙ ap (λ found. lets_around 0 (asked_all c.terms_asked.new.types ks found) b) c.as_slice.ensures)
