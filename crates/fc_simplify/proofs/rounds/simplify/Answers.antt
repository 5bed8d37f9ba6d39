use Rattle.std.proofs.Common.{rules, sym, subst}
use Rattle.fc_model.specs.NamelessView.{nmodules_of}
use Rattle.fc_simplify.specs.Phase.{Continues, FirstIsQuiet}
use Rattle.fc_simplify.proofs.Logs.{continues_both}
use Rattle.fc_simplify.proofs.OneRound.{quiet_first}
use Rattle.fc_simplify.proofs.rounds.simplify.Goals as goal

pub returns-in_err-settle_definitions-clause-continues : goal.returns-in_err-settle_definitions-clause-continues
returns-in_err-settle_definitions-clause-continues c =
    continues_both (nmodules_of c.args.modules.now) (nmodules_of c.loop.modules) (nmodules_of c.settle_definitions.new.modules) c.args.log.now c.loop.log c.settle_definitions.new.log
    c.loop.invariant.continues c.in_err-settle_definitions.ensures.continues

pub returns-in_err-drop_unneeded-2-clause-continues : goal.returns-in_err-drop_unneeded-2-clause-continues
returns-in_err-drop_unneeded-2-clause-continues c =
    let before = nmodules_of c.args.modules.now in
    let settled = nmodules_of c.settle_definitions.new.modules in
    let so_far : Continues before settled c.args.log.now c.settle_definitions.new.log =
    continues_both before (nmodules_of c.loop.modules) settled c.args.log.now c.loop.log c.settle_definitions.new.log c.loop.invariant.continues c.in_ok-settle_definitions.ensures.continues in
    continues_both before settled (nmodules_of c.drop_unneeded-in-loop.new.modules) c.args.log.now c.settle_definitions.new.log c.drop_unneeded-in-loop.new.log so_far
    c.in_err-drop_unneeded-2.ensures.continues

pub returns-then-not-branch-clause-continues : goal.returns-then-not-branch-clause-continues
returns-then-not-branch-clause-continues c =
    let before = nmodules_of c.args.modules.now in
    let settled = nmodules_of c.settle_definitions.new.modules in
    let so_far : Continues before settled c.args.log.now c.settle_definitions.new.log =
    continues_both before (nmodules_of c.loop.modules) settled c.args.log.now c.loop.log c.settle_definitions.new.log c.loop.invariant.continues c.in_ok-settle_definitions.ensures.continues in
    continues_both before settled (nmodules_of c.drop_unneeded-in-loop.new.modules) c.args.log.now c.settle_definitions.new.log c.drop_unneeded-in-loop.new.log so_far
    c.in_ok-drop_unneeded-2.ensures.continues

pub returns-then-not-branch-clause-quiet : goal.returns-then-not-branch-clause-quiet
returns-then-not-branch-clause-quiet c =
    subst (λ ms. FirstIsQuiet (nmodules_of ms)) (sym (search rules))
    (quiet_first (nmodules_of c.settle_definitions.new.modules) c.in_ok-settle_definitions.ensures.settled (c.in_ok-drop_unneeded-2.ensures.none (search rules)))

pub loop-preserved : goal.loop-preserved
loop-preserved c =
    let before = nmodules_of c.args.modules.now in
    let settled = nmodules_of c.settle_definitions.new.modules in
    let so_far : Continues before settled c.args.log.now c.settle_definitions.new.log =
    continues_both before (nmodules_of c.loop.modules) settled c.args.log.now c.loop.log c.settle_definitions.new.log c.loop.invariant.continues c.in_ok-settle_definitions.ensures.continues in
    record {
      continues = continues_both before settled (nmodules_of c.drop_unneeded-in-loop.new.modules) c.args.log.now c.settle_definitions.new.log c.drop_unneeded-in-loop.new.log so_far
          c.in_ok-drop_unneeded-2.ensures.continues;
      fits = c.in_ok-drop_unneeded-2.ensures.fits;
    }
