use Rattle.std.proofs.Common.{◌≡◌, Some, None, sym, ap, ◌∙◌}
use Rattle.std.specs.Option.{option_map}
use Rattle.fc_syntax.specs.View.{decl_of, expr_of}
use Rattle.fc_model.specs.NamelessView.{ndecl_of, nexpr_of}
use Rattle.fc_rows.specs.Surroundings.{outside}
use Rattle.fc_row_at_place.specs.Sites.{decls_of, row_of}
use Rattle.fc_apply.specs.Definitions.{exchanged_in_decl, row_in_decl}
use Rattle.fc_apply.proofs.InDefinitions.{decl_made, decl_not_made, decl_put}
use Rattle.fc_apply.proofs.definitions.changed_definition.Goals as goal

pub returns-in_default : goal.returns-in_default
returns-in_default c =
    let asked = c.args.asked.now in
    let none : row_in_decl (row_of asked) (outside (decls_of asked)) c.args.place.now (ndecl_of c.args.d.now) ≡ None = sym c.in_ok-new.ensures ∙ ap (option_map nexpr_of) c.in_default.is in
    sym (decl_not_made (row_of asked) (outside (decls_of asked)) c.args.place.now (decl_of c.args.d.now) none)

pub returns-in-Ok : goal.returns-in-Ok
returns-in-Ok c =
    let asked = c.args.asked.now in
    let some : row_in_decl (row_of asked) (outside (decls_of asked)) c.args.place.now (ndecl_of c.args.d.now) ≡ Some (nexpr_of c.in-Some.new) = sym c.in_ok-new.ensures ∙ ap (option_map nexpr_of) c.in-Some.is in
    let put : exchanged_in_decl (expr_of c.in-Some.new) c.args.place.now (decl_of c.args.d.now) ≡ Some (expr_of c.in-Ok.field-0, decl_of c.exchange_in.new.d) =
    ap (exchanged_in_decl (expr_of c.in-Some.new) c.args.place.now) (sym c.in_ok-changed.ensures) ∙ sym c.in-Ok.ensures in
    sym (decl_made (row_of asked) (outside (decls_of asked)) c.args.place.now (decl_of c.args.d.now) (expr_of c.in-Some.new) _ some put)

pub returns-in-Err : goal.returns-in-Err
returns-in-Err c =
    let asked = c.args.asked.now in
    let some : row_in_decl (row_of asked) (outside (decls_of asked)) c.args.place.now (ndecl_of c.args.d.now) ≡ Some (nexpr_of c.in-Some.new) = sym c.in_ok-new.ensures ∙ ap (option_map nexpr_of) c.in-Some.is in
    let put : exchanged_in_decl (expr_of c.in-Some.new) c.args.place.now (decl_of c.args.d.now) ≡ None =
    ap (exchanged_in_decl (expr_of c.in-Some.new) c.args.place.now) (sym c.in_ok-changed.ensures) ∙ sym c.in-Err.ensures in
    absurd (decl_put (row_of asked) (outside (decls_of asked)) c.args.place.now (decl_of c.args.d.now) (expr_of c.in-Some.new) (nexpr_of c.in-Some.new) some put)
