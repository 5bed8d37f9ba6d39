-- What a case looks at, and its other alternatives.
use Rattle.std.specs.Prelude.{ℕ, zero, suc, Bool, false}
use Rattle.fc_model.specs.Kinding.{Modules}
use Rattle.fc_model.specs.Nameless.{NExpr, NLocal, NFail, NCase, NTInt, NAlts, NoNAlts, MoreNAlts}
use Rattle.fc_model.specs.Typing.{type_read_off}
use Rattle.fc_rows.specs.Shrinking.{is_of_unlifted_type}
use Rattle.fc_rows.specs.Surroundings.{Surroundings}

-- what a case looks at; elsewhere something of which nothing is known
abbrev pub scrutinee_of : NExpr → NExpr
scrutinee_of (NCase e t u alts) = e
scrutinee_of e = NFail NTInt

-- whether an expression is a local variable of an unlifted type
abbrev pub is_unlifted_local : Modules → Surroundings → NExpr → Bool
is_unlifted_local ms s (NLocal i) = is_of_unlifted_type (type_read_off ms s.context (NLocal i))
is_unlifted_local ms s e = false

-- alternatives but for the one of a number
abbrev pub without : ℕ → NAlts → NAlts
without i NoNAlts = NoNAlts
without zero (MoreNAlts a rest) = rest
without (suc i) (MoreNAlts a rest) = MoreNAlts a (without i rest)
