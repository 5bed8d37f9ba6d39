-- Whether a word is one of a list.
use Rattle.std.specs.Prelude.{List, [], ◌∷◌}
use Rattle.fc_syntax.specs.Tree.{Word}
use Rattle.fc_model.specs.Resolution.{WordSet, no_word, plus}

abbrev pub among : List Word → WordSet
among [] = no_word
among (v ∷ vs) = plus v (among vs)
