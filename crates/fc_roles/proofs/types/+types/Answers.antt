use Rattle.std.proofs.Common.{◌≡◌, get_or, rules, ap, ◌∙◌}
use Rattle.fc_syntax.specs.View.{kind_of}
use Rattle.fc_syntax.specs.declared.ty.Role.TheVariants.{P}
use Rattle.fc_syntax.proofs.View.{view_rules}
use Rattle.fc_model.specs.Nameless.{NTForall}
use Rattle.fc_model.specs.NamelessView.{nty_of}
use Rattle.fc_model.specs.Needs.{least}
use Rattle.fc_types.specs.ModuleViews.{modules_of}
use Rattle.fc_roles.proofs.Roles.{inside_forall}
use Rattle.fc_roles.proofs.types.+types.Goals as goal

pub returns-in_ok-note_type-in-Forall-clause-noted : goal.returns-in_ok-note_type-in-Forall-clause-noted
returns-in_ok-note_type-in-Forall-clause-noted t c i low =
    let k = kind_of c.in-Forall.field-1 in
    let body = nty_of c.deref-in-Forall.result.now in
    let here : nty_of c.args.t.now ≡ NTForall k body = search (rules, view_rules) in
    rw here (c.in_ok-note_type-in-Forall.ensures.noted i low
    ∙ ap (least (get_or c.args.needs.now i P)) (inside_forall (modules_of c.args.declared.now) c.args.role i c.args.binders c.in_ok-inside-in-Forall.inside k body c.in_ok-inside-in-Forall.ensures))
