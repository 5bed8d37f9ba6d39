use Rattle.std.proofs.Common.{◌∙◌, List, Option, ap, sym}
use Rattle.fc_syntax.specs.Tree.{Word}
use Rattle.fc_syntax.specs.declared.fault.Place.{Place}
use Rattle.fc_log.specs.declared.log.Entry.{Entry}
use Rattle.fc_log.specs.Grammar.{reads}
use Rattle.fc_log.specs.Reading.{StopsAt, ahead, behind_place}
use Rattle.fc_log.proofs.Stops.{behind_fold, err_is, stops_on}
use Rattle.fc_log.proofs.reading.read_answer.Goals as goal

pub returns-in_err-answer-clause-fault : goal.returns-in_err-answer-clause-fault
returns-in_err-answer-clause-fault c =
    let e = c.in_err-answer.field-0.0 in
    let ts = ahead c.args.tokens.now in
    err_is (λ f. (m : Word) (es : List Entry) (d : Option Word) (p : Place) → StopsAt (behind_place m es c.args.row d p) ts f) _ e c.from_residual.ensures.1
    (λ m es d p. stops_on e (ap (λ s. reads s ts) (behind_fold m es c.args.row d p (sym c.is_fold.ensures ∙ c.if-is_fold.true))) (c.in_err-answer.ensures.fault m es d p))
