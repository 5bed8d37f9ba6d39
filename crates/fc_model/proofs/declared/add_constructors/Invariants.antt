use Rattle.std.proofs.Common.{◌≡◌, drop}
use Rattle.fc_syntax.specs.View.{cons_of}
use Rattle.fc_model.specs.Declaring.{con_words}
use Rattle.fc_model.specs.Resolution.{plus_all}
use Rattle.fc_model.specs.WordSets.{set_of}
use Rattle.fc_model.proofs.declared.add_constructors.Given as goal

abbrev pub invariant-loop-con : goal.invariant-loop-con
invariant-loop-con g l = plus_all (con_words (cons_of (drop l.con-index l.cons))) (set_of l.terms) ≡ plus_all (con_words (cons_of l.cons)) (set_of l.fn.terms)
