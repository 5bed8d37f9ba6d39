use Rattle.std.proofs.Common.{[], ◌∙◌, Result, Ok, Err, IfOk, ap, sym, subst}
use Rattle.fc_model.specs.Calling.{over_binder}
use Rattle.fc_model.specs.NamelessView.{nbinder_of}
use Rattle.fc_type_table.specs.Scopes.{IsTypeAt}
use Rattle.fc_type_table.specs.TypeTables.{nodes_of, shown}
use Rattle.fc_type_scope.specs.Behind.{IsValueAt}
use Rattle.fc_type_scope.specs.Scopes.{scope_in}
use Rattle.fc_type_scope.proofs.Backwards.{entered_at}
use Rattle.fc_type_table.proofs.BinderKinds.{kinds_past-none, kinds_past-one}
use Rattle.fc_type_scope.proofs.scope.TypeScope.function_over_one.Goals as goal

pub over_binder-requires-clause-value_in : goal.over_binder-requires-clause-value_in
over_binder-requires-clause-value_in c =
    let ns = nodes_of c.args.types.now in
    let ks = scope_in c.args.self.now in
    let b = nbinder_of c.args.binder.now in
    let found = entered_at ns ks [] b [] c.args.entered.now c.requires.entered_in in
    subst (λ ids. IsValueAt ns ks b ids 0) (sym c.as_slice.ensures) (subst (λ js. IsValueAt ns js b c.args.entered.now.values 0) (kinds_past-none ks) found)

pub over_binder-requires-clause-answer_in : goal.over_binder-requires-clause-answer_in
over_binder-requires-clause-answer_in c =
    subst (λ js. IsTypeAt (nodes_of c.args.types.now) js c.args.answer.0) (kinds_past-one (nbinder_of c.args.binder.now) (scope_in c.args.self.now)) c.requires.answer_in

if_ok : {X E : Type 0} {P Q : X → Type 0} (r : Result X E) → ((x : X) → P x → Q x) → IfOk r P → IfOk r Q
if_ok (Ok x) f p = f x p
if_ok (Err e) f p = tt

pub returns-clause-view : goal.returns-clause-view
returns-clause-view c =
    let b = nbinder_of c.args.binder.now in
    let ks = scope_in c.args.self.now in
    if_ok c.over_binder.result (λ id shows. shows ∙ ap (λ js. over_binder b (shown c.args.types.now js c.args.answer)) (sym (kinds_past-one b ks))) c.over_binder.ensures.view
