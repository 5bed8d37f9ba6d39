use Rattle.fc_term_rows.specs.TermRowLaws.{KnownBy, PutBy}
use Rattle.fc_term_rows.proofs.TermRowsHold.{rows_see_same}
use Rattle.fc_term_rows.proofs.rows_show_the_same.Goals as goal

pub returns : goal.returns
returns c = record { same = λ P Q sp sq known put pm qm pd qd change. rows_see_same P Q sp sq (KnownBy known) (PutBy put) pm qm pd qd change }
