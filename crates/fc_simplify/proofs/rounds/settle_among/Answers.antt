use Rattle.std.proofs.Common.{◌∙◌, sym}
use Rattle.fc_model.specs.NamelessView.{nmodules_of}
use Rattle.fc_simplify.proofs.Keeping.{headers_read}
use Rattle.fc_simplify.proofs.rounds.settle_among.Goals as goal

pub settle_rounds-requires-clause-headers : goal.settle_rounds-requires-clause-headers
settle_rounds-requires-clause-headers c =
    let declared = c.in_ok-read.ensures.declared in
    headers_read c.new.new.types _ (nmodules_of c.args.modules.now) c.in_ok-read.ensures.read (c.in_ok-read.ensures.grows.modules ∙ c.new-types.ensures.modules ∙ sym declared)
    (declared ∙ c.requires.declared) c.requires.places
