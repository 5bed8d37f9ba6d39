use Rattle.std.proofs.Common.{rules, sym, subst, ◌∙◌, ap, ◌++◌, ◌∷◌, []}
use Rattle.std.specs.Prelude.{slice_set}
use Rattle.fc_log.specs.declared.log.Entry.TheVariants as entry
use Rattle.fc_model.specs.NamelessView.{nmodules_of}
use Rattle.fc_apply.proofs.OfTheModule.{none_drops}
use Rattle.fc_simplify.specs.Phase.{Continues}
use Rattle.fc_simplify.proofs.InFirst.{first_dropped, same_first}
use Rattle.fc_simplify.proofs.OneRound.{dropped_continues, dropped_fits}
use Rattle.fc_simplify.proofs.dropping.drop_unneeded.Goals as goal

pub returns-in_err-dead-clause-continues : goal.returns-in_err-dead-clause-continues
returns-in_err-dead-clause-continues c = same_first c.args.modules.now c.in-Some.module.now _ c.args.log.now _ c.in-Some.ensures.item.1 (search rules)

pub returns-in_default-2-clause-continues : goal.returns-in_default-2-clause-continues
returns-in_default-2-clause-continues c = same_first c.args.modules.now c.in-Some.module.now _ c.args.log.now _ c.in-Some.ensures.item.1 (search rules)

pub returns-in_default-2-clause-none : goal.returns-in_default-2-clause-none
returns-in_default-2-clause-none c = λ false. none_drops c.args.modules.now c.in-Some.module.now _ c.in-Some.ensures.item.1 (c.in_ok-dead.ensures.none c.in_default-2.is)

pub returns-in_err-push-clause-continues : goal.returns-in_err-push-clause-continues
returns-in_err-push-clause-continues c = same_first c.args.modules.now c.in-Some.module.now _ c.args.log.now c.push.new.self c.in-Some.ensures.item.1 (search rules)

pub returns-clause-continues : goal.returns-clause-continues
returns-clause-continues c =
    let ms = c.args.modules.now in
    let drops = first_dropped ms c.in-Some.module.now c.take_away.new.module _ c.in-Some.ensures.item.1 c.in-Some.ensures.item.0 c.take_away.ensures in
    subst (Continues (nmodules_of ms) (nmodules_of (slice_set ms 0 c.take_away.new.module)) c.args.log.now)
    (sym (c.in_ok-push.ensures.ok ∙ ap (λ s. c.args.log.now ++ entry.Step s ∷ []) c.dead_step.ensures))
    (dropped_continues (nmodules_of ms) (nmodules_of (slice_set ms 0 c.take_away.new.module)) c.args.log.now drops)

pub returns-clause-fits : goal.returns-clause-fits
returns-clause-fits c =
    let ms = c.args.modules.now in
    dropped_fits (nmodules_of ms) (nmodules_of (slice_set ms 0 c.take_away.new.module))
    (first_dropped ms c.in-Some.module.now c.take_away.new.module _ c.in-Some.ensures.item.1 c.in-Some.ensures.item.0 c.take_away.ensures) c.requires
