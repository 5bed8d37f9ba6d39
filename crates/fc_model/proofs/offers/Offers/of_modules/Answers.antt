use Rattle.fc_model.specs.NamelessView.{nmodules_of}
use Rattle.fc_model.specs.OfferViews.{offers_in}
use Rattle.fc_model.proofs.Offered.{tables_are}
use Rattle.fc_model.proofs.offers.Offers.of_modules.Goals as goal

pub returns : goal.returns
unfolding offers_in
returns c = tables_are (nmodules_of c.args.modules.now) c.in_ok-offers.offers c.in_ok-offers.ensures
