-- A case behind its scrutinee.
use Rattle.std.specs.Prelude.{Result, Ok}
use Rattle.fc_syntax.specs.declared.fault.FaultKind.TheVariants.{NotAType, ScrutineeType}
use Rattle.fc_model.specs.Faulting.{F, and_then, need, under}
use Rattle.fc_model.specs.Kinding.{Modules, is_value_kind, kind_or_fault, same_type}
use Rattle.fc_model.specs.Nameless.{NTy, NAlts}
use Rattle.fc_model.specs.Typing.{Context, Start, alts_judged, with_value}

-- a case whose scrutinee is of type s
abbrev pub case_judged : Modules → Context → NTy → NTy → NTy → NAlts → Result NTy F
case_judged ms c s xt rt alts =
    and_then (under 1 (kind_or_fault ms c.kinds xt)) (λ j. and_then (under 2 (kind_or_fault ms c.kinds rt)) (λ k.
    and_then (alts_judged ms (with_value xt c) s rt 3 Start alts) (λ b.
    need (same_type xt s) ScrutineeType (need (is_value_kind k) NotAType (Ok rt)))))
