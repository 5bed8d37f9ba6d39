use Rattle.fc_model.specs.NamelessView.{nmodules_of}
use Rattle.fc_lint_set.proofs.Told.{forms_ended}
use Rattle.fc_lint_set.proofs.sets.unnamed_forms.Goals as goal

pub returns-in-Err-Flaw : goal.returns-in-Err-Flaw
returns-in-Err-Flaw c =
    let found = nmodules_of c.loop-m.forms.items in
    let ended = forms_ended c.args.modules.now found _ c.loop-m.m-index c.m-item.result c.in-Err-Flaw.field-0 c.in-Err-Flaw.flaw _ c.m-item.is c.loop-m-test.true c.loop-m.invariant.count
    c.loop-m.invariant.forms c.in-Err-Flaw.ensures.form c.in-Err-Flaw.field-0-is c.in-Err-Flaw.flaw-is in
    record { forms = ended.0; ends = ended.1; named = λ h. absurd cc; words = λ h. absurd cc }
