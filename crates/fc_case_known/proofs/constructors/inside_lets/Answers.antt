use Rattle.std.proofs.Common.{◌∙◌}
use Rattle.std.proofs.lemmas.Result.{IfOk-weaker}
use Rattle.fc_model.specs.NamelessView.{nargs_of, nexpr_of, nty_of}
use Rattle.fc_case_known.proofs.Opened.{if_dead}
use Rattle.fc_case_known.proofs.constructors.inside_lets.Goals as goal

pub returns-in-Dead : goal.returns-in-Dead
returns-in-Dead c =
    let opened = c.args.opened.now in
    IfOk-weaker c.with_expression.result _ _
    (λ _ h. h ∙ if_dead (nty_of c.args.case.now.ty.now) opened.name.now (nargs_of opened.named.now) (nargs_of opened.parts.now) opened.lets (nexpr_of c.args.body.now) (nexpr_of c.in_ok-bound.bound)
    (nexpr_of c.in_ok-whole.whole) c.in_ok-bound.ensures c.in_ok-whole.ensures c.in_ok-occurrences_of_innermost.field-0 c.in_ok-occurrences_of_innermost.ensures c.in-Dead.is)
    c.with_expression.ensures
