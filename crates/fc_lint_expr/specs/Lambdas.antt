-- The body of a lambda behind its binder.
use Rattle.std.specs.Prelude.{Option, Result, Ok}
use Rattle.fc_syntax.specs.declared.fault.FaultKind.{FaultKind}
use Rattle.fc_syntax.specs.declared.fault.FaultKind.TheVariants.{NotAType}
use Rattle.fc_model.specs.Faulting.{F, and_then, need, under}
use Rattle.fc_model.specs.Kinding.{Modules}
use Rattle.fc_model.specs.Nameless.{NBinder, NExpr, NTy}
use Rattle.fc_model.specs.Typing.{Context, body_fits, paid, type_or_fault, with_binder}

-- the type of the body, behind which stands what is still asked of the binder
abbrev pub body_judged : Modules → Context → NBinder → NExpr → Option FaultKind → Result NTy F
body_judged ms c b e owed = and_then (under 1 (type_or_fault ms (with_binder b c) e)) (λ u. paid owed (need (body_fits ms c.kinds b u) NotAType (Ok u)))
