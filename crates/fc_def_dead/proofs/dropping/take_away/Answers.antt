use Rattle.std.proofs.Common.{◌∙◌, ap}
use Rattle.fc_def_dead.specs.Dead.{without_marked}
use Rattle.fc_def_dead.proofs.Needs.{drops}
use Rattle.fc_def_dead.proofs.dropping.take_away.Goals as goal

pub returns : goal.returns
returns c =
    drops c.args.module.now c.args.dead.marks.items c.requires.marks (record c.args.module.now { decls = c.unmarked.result }) c.requires.some
    (ap (λ ds. record c.args.module.now { decls = ds })
    (c.unmarked.ensures ∙ ap (λ bs. without_marked bs c.replace-decls.result) c.as_slice.ensures.value ∙ ap (without_marked c.args.dead.marks.items) c.replace-decls.ensures.value))
