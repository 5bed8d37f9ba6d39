use Rattle.std.proofs.Common.{refl}
use Rattle.fc_syntax.specs.View.{decl_of}
use Rattle.fc_model.specs.Grammar.{AnItemForm}
use Rattle.fc_read_parts.specs.Reading.{StopsAt}
use Rattle.fc_read_parts.specs.Seen.{ahead}
use Rattle.fc_read_items.proofs.Others.{err_is}
use Rattle.fc_read_items.proofs.Starts.{declaration_read, declaration_stops}
use Rattle.fc_read_items.proofs.items.read_item_form.Goals as goal

pub returns-in_err-read_declaration_form-clause-fault : goal.returns-in_err-read_declaration_form-clause-fault
returns-in_err-read_declaration_form-clause-fault c =
    let h = c.in_err-read_declaration_form.field-0.0 in
    err_is (StopsAt AnItemForm (ahead c.args.tokens.now)) _ h c.from_residual.ensures.1
    (declaration_stops _ _ h (c.if-takes_value.ensures.other refl) (c.if-begins_definition.ensures.other refl) c.in_err-read_declaration_form.ensures.fault)

pub returns-clause-read : goal.returns-clause-read
returns-clause-read c =
    declaration_read _ _ _ (decl_of c.in_ok-read_declaration_form.field-0) (c.if-takes_value.ensures.other refl) (c.if-begins_definition.ensures.other refl) c.in_ok-read_declaration_form.ensures.read
