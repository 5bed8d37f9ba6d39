use Rattle.std.proofs.Common.{◌-◌, length, drop}
use Rattle.fc_model.specs.NamelessView.{nmodules_of}
use Rattle.fc_model.specs.OfferViews.{AreOffersOf}
use Rattle.fc_model.proofs.offers.offers_by_name.Given as goal

abbrev pub invariant-loop-behind : goal.invariant-loop-behind
invariant-loop-behind l = AreOffersOf (nmodules_of (drop (length l.modules - l.behind) l.modules)) l.offers
