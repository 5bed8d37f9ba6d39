-- A row makes rewrites of its places, where what surroundings tell is known.
use Rattle.fc_model.specs.Kinding.{Modules}
use Rattle.fc_model.specs.Nameless.{NExpr}
use Rattle.fc_model.specs.TypingLaws.{AreDeclaredKinded}
use Rattle.fc_meaning.proofs.HeldDeclarations.{AreHeld}
use Rattle.fc_row_places.specs.NamelessFacts.{NKnown}
use Rattle.fc_row_places.specs.NamelessPlaces.{NPlace}
use Rattle.fc_kept_meaning.specs.PlaceRows.{PlaceRow}
use Rattle.fc_row_meaning.specs.LocalsTold.{AreTold}
use Rattle.fc_row_meaning.specs.PlacedRows.{RowAs}
use Rattle.fc_row_meaning.specs.RowMeaningLaws.{RowAgainst}

-- What a row makes at a place is a rewrite of the place, among modules that hold, where what its surroundings tell is known and G is known of names.
abbrev pub IsPlacedWhereTold : NKnown → RowAgainst → Type 0
IsPlacedWhereTold G row = (ms : Modules) → AreHeld ms → AreDeclaredKinded ms → (c : NPlace) (e f : NExpr) → (r : RowAs ms (row ms) c e f) → AreTold G c r.surroundings → PlaceRow G c e f
