use Rattle.std.proofs.Common.{ap, ◌∙◌}
use Rattle.fc_syntax.specs.declared.ty.Role.TheVariants.{N}
use Rattle.fc_model.specs.Nameless.{NTInt}
use Rattle.fc_subst.specs.Replacements.{lifted, replacement_of}
use Rattle.fc_subst.proofs.Lifting.{below_coercion_more}
use Rattle.fc_subst.proofs.replacement.Lifted.below_coercion.Goals as goal

pub returns : goal.returns
returns c =
    let r = replacement_of c.args.self.now.replacement.now in
    ap (λ p. lifted p r) c.in_ok-past.ensures ∙ below_coercion_more c.args.self.now.past r N NTInt NTInt
