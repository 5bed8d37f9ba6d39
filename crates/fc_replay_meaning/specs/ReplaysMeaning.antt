-- What the steps of a log, one after the other, keep of what programs show.
use Rattle.std.specs.Prelude.{All, List, ◌∷◌}
use Rattle.fc_log.specs.declared.log.Entry.{Entry}
use Rattle.fc_model.specs.Headers.{ndecls_in}
use Rattle.fc_model.specs.Nameless.{NModule}
use Rattle.fc_meaning.proofs.WrittenExpressions.{AreDeclsWritten}
use Rattle.fc_rows.specs.Replaying.{Replays}
use Rattle.fc_replay_types.specs.ReplaysKept.{Stands}
use Rattle.fc_row_meaning.specs.RowMeaningLaws.{MeansTheSame}

-- What the steps of a log, one after the other, make of a module that stands among its imports means what the module does, if all right sides are written.
abbrev pub ReplaysKeepMeaning : Type 0
ReplaysKeepMeaning = (xs : List NModule) (es : List Entry) (n k : NModule) → Stands xs n → All (λ x. AreDeclsWritten (ndecls_in x)) (n ∷ xs) → Replays xs es n k → MeansTheSame xs n k
