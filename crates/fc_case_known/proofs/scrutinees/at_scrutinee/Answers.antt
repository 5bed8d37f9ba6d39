use Rattle.fc_model.specs.NamelessView.{nexpr_of, nty_of}
use Rattle.fc_case_known.proofs.Parts.{has_binders}
use Rattle.fc_case_known.proofs.scrutinees.at_scrutinee.Goals as goal

pub returns-then-not-is_empty : goal.returns-then-not-is_empty
returns-then-not-is_empty c =
    has_binders (nty_of c.args.case.now.ty.now) (nexpr_of c.args.case.now.scrutinee.now) (nexpr_of c.args.alternative.now.body) c.args.alternative.now.binders
    (λ k. let full = c.is_empty.ensures.1 k in cc)
