use Rattle.std.proofs.Common.{◌≡◌, ◌++◌, drop}
use Rattle.fc_syntax.specs.View.{cons_of}
use Rattle.fc_model.proofs.declared.push_constructors.Given as goal
use Rattle.fc_model.specs.Declaring.{con_words}

abbrev pub invariant-loop-con : goal.invariant-loop-con
invariant-loop-con g l = l.words ++ con_words (cons_of (drop l.con-index l.cons)) ≡ l.fn.words ++ con_words (cons_of l.cons)
