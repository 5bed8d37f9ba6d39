-- What a module declares and imports, as its tables say.
use Rattle.std.specs.Prelude.{List, [], ◌∷◌}
use Rattle.fc_syntax.specs.GenericTree.{Decl}
use Rattle.fc_model.specs.OfferViews.{offers_in}
use Rattle.fc_model.specs.Resolution.{Top, Words, behind}
use Rattle.fc_model.specs.WordSets.{set_of}
use Rattle.fc_model.specs.declared.declared.Spaces.{Spaces}
use Rattle.fc_model.specs.declared.declared.Declared.{Declared}

unfoldable pub words_by_space : Spaces → Words
words_by_space s = record { types = set_of s.types; terms = set_of s.terms; coercions = set_of s.coercions }

abbrev pub top_by : Declared → Top
top_by d = record {
  own = d.own;
  imports = set_of d.imports;
  offers = offers_in d.offers;
  types = set_of d.spaces.types;
  terms = set_of d.spaces.terms;
  coercions = set_of d.spaces.coercions;
}

-- the words of declarations one after the other
abbrev pub all_behind : {L V B : Type 0} → List (Decl L V B) → Words → Words
all_behind [] ws = ws
all_behind (d ∷ ds) ws = all_behind ds (behind d ws)
