-- What the table of a module's definitions means.
use Rattle.std.specs.Prelude.{ℕ, Option}
use Rattle.fc_syntax.specs.declared.ty.Name.{Name}
use Rattle.fc_syntax.specs.Tree.{Word}
use Rattle.fc_reaching.specs.declared.definitions.Definitions.{Definitions}
use Rattle.fc_reaching.specs.Numbering.{at, number_meant}

-- the number of the definition of a word
unfoldable pub number_by : Definitions → Word → Option ℕ
number_by d = at d.numbers

-- the number of the definition that a name means
unfoldable pub meant_by : Definitions → Name → Option ℕ
meant_by d = number_meant d.own.now (number_by d)
