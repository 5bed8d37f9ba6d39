use Rattle.std.proofs.Common.{arith}
use Rattle.std.proofs.lemmas.Bool.Decides.{nat_tests}
use Rattle.fc_model.specs.NamelessView.{nexpr_of}
use Rattle.fc_forms.proofs.OtherForms.{no_single_binding}
use Rattle.fc_forms.proofs.forms.as_single_binding.Goals as goal
use Rattle.fc_forms.proofs.forms.as_single_binding.Goals.{in_default-via-then-let_parts-lt1, in_default-via-else-let_parts-lt1+else-this-lt2}

pub returns-in_default : goal.returns-in_default
returns-in_default c =
    let parts = c.in_ok-let_parts.let_parts in
    no_single_binding (nexpr_of c.args.e.now) parts.recursive parts.bindings.now (nexpr_of parts.body.now) c.in_ok-let_parts.ensures
    (elim c.in_default.branch [ in_default-via-then-let_parts-lt1 w ↦ grind (arith, nat_tests) | in_default-via-else-let_parts-lt1+else-this-lt2 w ↦ grind (arith, nat_tests) ])
