use Rattle.std.proofs.Common.{◌≡◌, drop, Option}
use Rattle.fc_syntax.specs.Tree.{Word}
use Rattle.fc_model.specs.Calling.{first_of}
use Rattle.fc_types.specs.FirstDeclared.{Numbered, in_module, numbered_among}
use Rattle.fc_types.specs.TableViews.{numbered_at}
use Rattle.fc_types.proofs.tables.add_data.Given as goal

abbrev pub invariant-loop-number : goal.invariant-loop-number
invariant-loop-number l = (m w : Word) (rest : Option Numbered) →
    first_of (numbered_at l.constructors m w) (in_module l.qualifier m (first_of (numbered_among l.qualifier l.data_word l.params l.number (drop l.number l.cons) w) rest))
    ≡ first_of (numbered_at l.initial.constructors m w) (in_module l.qualifier m (first_of (numbered_among l.qualifier l.data_word l.params 0 l.cons w) rest))
