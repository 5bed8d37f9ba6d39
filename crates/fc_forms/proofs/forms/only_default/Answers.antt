use Rattle.std.proofs.Common.{arith}
use Rattle.std.proofs.lemmas.Bool.Decides.{nat_tests}
use Rattle.fc_forms.proofs.OtherForms.{no_default_alone, no_only_alternative}
use Rattle.fc_forms.proofs.forms.only_default.Goals as goal
use Rattle.fc_forms.proofs.forms.only_default.Goals.{in_default-2-via-in-Default+else-is_empty, in_default-2-via-in_default, in_default-via-then-alternatives-lt1, in_default-via-else-alternatives-lt1+else-alternatives-lt2}

pub returns-in_default-2 : goal.returns-in_default-2
returns-in_default-2 c =
    no_default_alone c.args.alternatives.now c.alternative-item.result (omega arith) c.alternative-item.is
    (λ h k. elim c.in_default-2.branch [
      | in_default-2-via-in-Default+else-is_empty w ↦ let full = c.is_empty.ensures.1 k in cc
      | in_default-2-via-in_default w ↦ w.in_default-2.not-Default-0 h
    ])

pub returns-in_default : goal.returns-in_default
returns-in_default c =
    no_only_alternative c.args.alternatives.now
    (elim c.in_default.branch [ in_default-via-then-alternatives-lt1 w ↦ grind (arith, nat_tests) | in_default-via-else-alternatives-lt1+else-alternatives-lt2 w ↦ grind (arith, nat_tests) ])
