-- The words that are bound around a piece.
use Rattle.std.specs.Prelude.{true, if◌then◌else◌}
use Rattle.fc_model.specs.Resolution.{WordSet, no_word, plus}
use Rattle.fc_model.specs.WordSets.{set_of}
use Rattle.fc_free.specs.declared.around.Around.{Around, Nothing, Word', Words'}

-- the words of two sets
abbrev pub either : WordSet → WordSet → WordSet
either s t w = if s w then true else t w

abbrev pub words_of : Around → WordSet
words_of Nothing = no_word
words_of (Word' x p rest) = plus x.now (words_of rest)
words_of (Words' s p rest) = either (set_of s.now) (words_of rest)
