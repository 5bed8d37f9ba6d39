use Rattle.std.proofs.Common.{◌+◌, [], ◌∷◌, length, get_or, ap, ◌∙◌, length-append}
use Rattle.fc_syntax.specs.declared.ty.Role.TheVariants.{P}
use Rattle.fc_roles.proofs.Roles.{pushed_nothing}
use Rattle.fc_roles.proofs.needs.Needs.of_nothing.Goals as goal

pub loop-preserved : goal.loop-preserved
loop-preserved c =
    let items = c.in_ok-push.ensures.items in (
      ap length items ∙ length-append c.loop.needs.items (P ∷ []) ∙ ap (λ n. n + 1) c.loop.invariant.0,
      λ i. ap (λ xs. get_or xs i P) items ∙ pushed_nothing c.loop.needs.items c.loop.invariant.1 i,
    )
