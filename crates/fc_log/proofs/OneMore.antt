-- One token more is read.
use Rattle.std.proofs.Common.{◌≡◌, List, ◌∷◌, Some, refl}
use Rattle.fc_log.specs.Grammar.{LogToken, Stand, next, reads}

pub reads_on : (s u : Stand) (t : LogToken) (ts : List LogToken) → next s t ≡ Some u → reads s (t ∷ ts) ≡ reads u ts
reads_on s u t ts e = rw (e, reads) refl
