-- What a table of words says.
use Rattle.std.specs.HashSet.{contains_by}
use Rattle.std.specs.Rc.{rc_str_bytes}
use Rattle.std.specs.Str.{bytes_eq}
use Rattle.fc_model.specs.Resolution as words
use Rattle.fc_model.specs.declared.word_set.WordSet.{WordSet}

-- whether each word is in the table
unfoldable pub set_of : WordSet → words.WordSet
set_of s w = contains_by (λ k. bytes_eq w (rc_str_bytes k)) s.words
