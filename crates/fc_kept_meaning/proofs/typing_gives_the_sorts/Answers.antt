use Rattle.fc_row_places.specs.KnowingRows.{NKnowingRow}
use Rattle.fc_row_places.specs.NamelessFacts.{NKnownBy}
use Rattle.fc_kept_meaning.specs.PlaceRows.{PlaceRow}
use Rattle.fc_kept_meaning.proofs.OnePlaceTyped.{place_row_no_atom, place_row_typed, place_typed}
use Rattle.fc_kept_meaning.proofs.typing_gives_the_sorts.Goals as goal

pub returns : goal.returns
returns c = record {
  typed = λ known ms held p e d w wr k t u h h' fits. place_typed ms held (PlaceRow (NKnownBy known)) (NKnowingRow (NKnownBy known)) (λ p e d r. place_row_no_atom r) (λ p k e d t u r v h h' fits. place_row_typed ms held r h h' fits) w wr h h' fits;
}
