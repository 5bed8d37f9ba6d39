use Rattle.fc_headers.proofs.Agreeing
use Rattle.fc_headers.proofs.laws.headers_agree.Goals as goal

pub returns : goal.returns
returns c = record { agree = Agreeing.headers_agree }
