use Rattle.std.proofs.Common.{ap, ◌∙◌}
use Rattle.fc_syntax.specs.Tree.{KStar}
use Rattle.fc_subst.specs.Replacements.{lifted, replacement_of}
use Rattle.fc_subst.proofs.Lifting.{below_type_more}
use Rattle.fc_subst.proofs.replacement.Lifted.below_type.Goals as goal

pub returns : goal.returns
returns c =
    let r = replacement_of c.args.self.now.replacement.now in
    ap (λ p. lifted p r) c.in_ok-past.ensures ∙ below_type_more c.args.self.now.past r KStar
