use Rattle.std.proofs.Common.{◌≡◌, drop, List, ◌++◌}
use Rattle.fc_syntax.specs.Tree.{Word}
use Rattle.fc_model.specs.Declaring.{ncon_words}
use Rattle.fc_model.specs.NamelessView.{ncons_of}
use Rattle.fc_model.specs.WordSets.{set_of}
use Rattle.fc_scoped.specs.Testing.{are_distinct}
use Rattle.fc_scoped.proofs.words.add_constructors.Given as goal

-- what is still to come is distinct behind what was, where all are
abbrev pub invariant-loop-con : goal.invariant-loop-con
invariant-loop-con l =
    (ws : List Word) → are_distinct (set_of l.words) (ncon_words (ncons_of (drop l.con-index l.cons)) ++ ws) ≡ are_distinct (set_of l.fn.words) (ncon_words (ncons_of l.cons) ++ ws)
