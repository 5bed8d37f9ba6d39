use Rattle.std.proofs.Common.{rules, ◌+◌, ◌∙◌, ◌∷◌, ap, drop, subst, sym}
use Rattle.fc_model.specs.NamelessView.{nmodule_of, nmodules_of}
use Rattle.fc_model.specs.Resolution.{plus_all}
use Rattle.fc_model.specs.WordSets.{set_of}
use Rattle.fc_model.proofs.Lists.{drop_item}
use Rattle.fc_model.specs.Worded.{bare_module}
use Rattle.fc_rows.specs.Telling.{reached_by_imports}
use Rattle.fc_told.proofs.ReachedSoFar.{AreReached, reached_more, reached_same, reached_start}
use Rattle.fc_told.proofs.reaching.reached.Goals as goal
use Rattle.fc_told.proofs.reaching.reached.Goals.{then-has+in_ok-add_all-2+in_ok-copy_module+in_ok-push, else-has}

pub loop-x-init : goal.loop-x-init
loop-x-init c = reached_start c.args.m.now (set_of c.add_all.new.self) c.new-all.result.items c.args.before.now (search rules) (search rules)

pub loop-x-preserved : goal.loop-x-preserved
loop-x-preserved c =
    let before = c.args.before.now in
    let i = c.loop-x.x-index in
    let x = c.x-item.result in
    let rest = drop (i + 1) before in
    let whole = reached_by_imports (nmodule_of c.args.m.now) (nmodules_of before) in
    let so_far : AreReached (set_of c.loop-x.words) c.loop-x.all.items (x ∷ rest) whole
    = subst (λ xs. AreReached (set_of c.loop-x.words) c.loop-x.all.items xs whole) (drop_item before i x c.loop-x-test.true c.x-item.is) c.loop-x.invariant in
    elim c.if-has.branch [
      | then-has+in_ok-add_all-2+in_ok-copy_module+in_ok-push w ↦
          reached_more (set_of c.loop-x.words) (set_of c.if-has.words) c.loop-x.all.items c.if-has.all.items x w.in_ok-copy_module.field-0 rest whole (search rules)
          (ap set_of w.words-is ∙ w.in_ok-add_all-2.ensures ∙ ap (λ ws. plus_all ws (set_of c.loop-x.words)) w.as_slice-then-has.ensures) (ap bare_module w.in_ok-copy_module.ensures) (search rules) so_far
      | else-has w ↦
          subst (λ ws. AreReached (set_of ws) c.if-has.all.items rest whole) (sym w.words-is)
          (subst (λ v. AreReached (set_of c.loop-x.words) v.items rest whole) (sym w.all-is) (reached_same (set_of c.loop-x.words) c.loop-x.all.items x rest whole (search rules) so_far))
    ]
