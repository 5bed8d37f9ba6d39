use Rattle.std.proofs.Common.{◌≡◌, map, take}
use Rattle.fc_model.specs.NamelessView.{nmodules_of}
use Rattle.fc_reaching.specs.Numbering.{word_of}
use Rattle.fc_build.proofs.product.names_of.Given as goal

abbrev pub invariant-loop-form : goal.invariant-loop-form
invariant-loop-form l = l.names ≡ map word_of (nmodules_of (take l.form-index l.forms))
