use Rattle.std.proofs.Common.{ap, sym}
use Rattle.std.proofs.lemmas.Result.{IfOk-weaker}
use Rattle.fc_model.specs.NamelessView.{ndecls_of, nmodule_of}
use Rattle.fc_reaching.specs.DefinitionsView.{meant_by, number_by}
use Rattle.fc_reaching.specs.Numbering.{AreFound}
use Rattle.fc_reaching.specs.Reaching.{AreReached}
use Rattle.fc_reaching.proofs.Reached.{found_reached, nothing_reached}
use Rattle.fc_reaching.proofs.reaching.reaches.Goals as goal

pub returns-in-Some : goal.returns-in-Some
returns-in-Some c =
    let m = nmodule_of c.args.m.now in
    let meant = meant_by c.in_ok-definitions.definitions in
    let number = number_by c.in_ok-definitions.definitions in
    let ds = ndecls_of c.as_slice.result.now in
    IfOk-weaker c.words_from.result (AreFound meant number ds c.in-Some.number) (AreReached m c.args.from.now)
    (λ ws found.
    found_reached m meant number ds c.in_ok-definitions.ensures.meant c.in_ok-definitions.ensures.numbers (ap ndecls_of c.as_slice.ensures) c.args.from.now c.in-Some.number ws (sym c.in-Some.ensures) found)
    c.words_from.ensures

pub returns : goal.returns
returns c =
    nothing_reached (nmodule_of c.args.m.now) (number_by c.in_ok-definitions.definitions) c.in_ok-definitions.ensures.numbers c.args.from.now c.new-in-None.result (sym c.in-None.ensures) c.new-in-None.ensures
