use Rattle.std.proofs.Common.{◌≡◌, ◌∙◌, ap, sym, rules}
use Rattle.std.proofs.lemmas.Result.{on_ok_weaker}
use Rattle.fc_syntax.proofs.View.{view_rules}
use Rattle.fc_model.specs.Calling.{type_arguments}
use Rattle.fc_model.specs.Nameless.{NAType, NTApp, NoNArgs}
use Rattle.fc_model.specs.NamelessView.{nargs_of, nty_of}
use Rattle.fc_model.specs.Substituting.{raised_type}
use Rattle.fc_rows.specs.Surroundings.{types_as_arguments}
use Rattle.fc_lets_for_terms.specs.Naming.{before}
use Rattle.fc_case_known.proofs.Parts.{types_step}
use Rattle.fc_case_known.proofs.found.+add_types.Goals as goal

pub returns-in_ok-argument-in-App : goal.returns-in_ok-argument-in-App
returns-in_ok-argument-in-App t c =
    let old = nargs_of c.args.args.now in
    let parts : nty_of c.args.t.now ≡ NTApp (nty_of c.in-App.head.value) (nty_of c.in-App.argument.value) = search (rules, view_rules) in
    on_ok_weaker c.push.result
    (λ pushed. types_step c.args.by old c.add_types.new.args c.push.new.self _ (nty_of c.in-App.head.value) (nty_of c.in-App.argument.value)
    (c.in_ok-add_types-in-App.ensures ∙ ap (λ u. before old (types_as_arguments c.args.by (type_arguments (nty_of u)) NoNArgs)) c.deref.ensures) pushed
    (ap NAType (c.in_ok-argument-in-App.ensures ∙ ap (λ u. raised_type c.args.by (nty_of u)) c.deref-in-App.ensures))
    ∙ ap (λ u. before old (types_as_arguments c.args.by (type_arguments u) NoNArgs)) (sym parts))
    c.push.ensures.ok
