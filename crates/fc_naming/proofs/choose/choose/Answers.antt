use Rattle.std.proofs.Common.{subst}
use Rattle.std.proofs.lemmas.Result.{IfOk-weaker}
use Rattle.fc_model.specs.DeclaredWords.{words_by_space}
use Rattle.fc_model.specs.Resolution.{WordSet}
use Rattle.fc_model.specs.WordSets.{set_of}
use Rattle.fc_naming.specs.Named.{IsChosen, IsWordFor}
use Rattle.fc_naming.specs.Taken.{words_of}
use Rattle.fc_naming.proofs.Lower.{chosen_for}
use Rattle.fc_naming.proofs.choose.choose.Goals as goal

pub returns : goal.returns
returns c =
    let hint = c.args.hint.now in
    let word = c.in_ok-word.word in
    IfOk-weaker c.first_free.result (λ v. IsChosen (set_of c.words_among.result.now) word v) (λ v. IsWordFor (words_of c.args.space (words_by_space c.args.taken.now)) hint v)
    (λ v is. chosen_for hint c.in_ok-word.ensures (subst (λ (ws : WordSet). IsChosen ws word v) c.words_among.ensures is)) c.first_free.ensures
