-- How many binders without a word are around a piece, as the walk that collects words counts them.
use Rattle.fc_used_words.specs.declared.around.Inside.{Inside}
use Rattle.fc_used_words.specs.Scoped.{Counts}

abbrev pub counts_of : Inside → Counts
counts_of k = record { types = k.types; values = k.values; joins = k.joins; coercions = k.coercions }
