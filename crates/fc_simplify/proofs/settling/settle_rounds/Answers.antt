use Rattle.std.proofs.Common.{rules, sym, subst}
use Rattle.fc_model.specs.NamelessView.{nmodules_of}
use Rattle.fc_type_table.proofs.Numbers.{Grows-further}
use Rattle.fc_simplify.specs.Phase.{AllSettled}
use Rattle.fc_simplify.proofs.Keeping.{headers_both, headers_stay}
use Rattle.fc_simplify.proofs.Logs.{continues_both}
use Rattle.fc_simplify.proofs.Marked.{none_of}
use Rattle.fc_simplify.proofs.OneRound.{all_settled}
use Rattle.fc_simplify.proofs.Words.{firsts_kept}
use Rattle.fc_simplify.proofs.settling.settle_rounds.Goals as goal

pub settle_all-requires-clause-firsts : goal.settle_all-requires-clause-firsts
settle_all-requires-clause-firsts c = firsts_kept c.args.firsts.now (nmodules_of c.args.modules.now) (nmodules_of c.loop.modules) c.loop.invariant.keeps.words c.requires.firsts

pub settle_all-requires-clause-headers : goal.settle_all-requires-clause-headers
settle_all-requires-clause-headers c =
    headers_stay c.args.types.now c.loop.types c.args.headers.now (nmodules_of c.args.modules.now) (nmodules_of c.loop.modules) c.loop.invariant.grows c.loop.invariant.keeps c.requires.headers

pub returns-in_err-round-clause-continues : goal.returns-in_err-round-clause-continues
returns-in_err-round-clause-continues c =
    continues_both (nmodules_of c.args.modules.now) (nmodules_of c.loop.modules) (nmodules_of c.settle_all.new.modules) c.args.log.now c.loop.log c.settle_all.new.log c.loop.invariant.continues
    c.in_err-round.ensures.continues

pub returns-then-is_empty-clause-continues : goal.returns-then-is_empty-clause-continues
returns-then-is_empty-clause-continues c =
    continues_both (nmodules_of c.args.modules.now) (nmodules_of c.loop.modules) (nmodules_of c.settle_all.new.modules) c.args.log.now c.loop.log c.settle_all.new.log c.loop.invariant.continues
    c.in_ok-round.ensures.continues

pub returns-then-is_empty-clause-settled : goal.returns-then-is_empty-clause-settled
returns-then-is_empty-clause-settled c =
    let none = none_of c.in_ok-round.round.changed.items (search rules) in
    subst (λ ms. AllSettled (nmodules_of ms)) (sym (c.in_ok-round.ensures.unchanged none))
    (all_settled c.loop.spare c.args.firsts.now (nmodules_of c.loop.modules) c.loop.invariant.spare
    (firsts_kept c.args.firsts.now (nmodules_of c.args.modules.now) (nmodules_of c.loop.modules) c.loop.invariant.keeps.words c.requires.firsts) (c.in_ok-round.ensures.settled none))

pub settle_waiting-requires-clause-firsts : goal.settle_waiting-requires-clause-firsts
settle_waiting-requires-clause-firsts c =
    firsts_kept c.args.firsts.now (nmodules_of c.args.modules.now) (nmodules_of c.settle_all.new.modules)
    (headers_both (nmodules_of c.args.modules.now) (nmodules_of c.loop.modules) (nmodules_of c.settle_all.new.modules) c.loop.invariant.keeps c.in_ok-round.ensures.keeps).words c.requires.firsts

pub settle_waiting-requires-clause-headers : goal.settle_waiting-requires-clause-headers
settle_waiting-requires-clause-headers c =
    headers_stay c.loop.types c.settle_all.new.types c.args.headers.now (nmodules_of c.loop.modules) (nmodules_of c.settle_all.new.modules) c.in_ok-round.ensures.grows c.in_ok-round.ensures.keeps
    (headers_stay c.args.types.now c.loop.types c.args.headers.now (nmodules_of c.args.modules.now) (nmodules_of c.loop.modules) c.loop.invariant.grows c.loop.invariant.keeps c.requires.headers)

pub returns-in_err-spare-clause-continues : goal.returns-in_err-spare-clause-continues
returns-in_err-spare-clause-continues c =
    let before = nmodules_of c.args.modules.now in
    let so_far = nmodules_of c.loop.modules in
    let searched = nmodules_of c.settle_all.new.modules in
    continues_both before so_far (nmodules_of c.settle_waiting.new.modules) c.args.log.now c.loop.log c.settle_waiting.new.log c.loop.invariant.continues
    (continues_both so_far searched (nmodules_of c.settle_waiting.new.modules) c.loop.log c.settle_all.new.log c.settle_waiting.new.log c.in_ok-round.ensures.continues c.in_err-spare.ensures.continues)

pub loop-preserved : goal.loop-preserved
loop-preserved c =
    let before = nmodules_of c.args.modules.now in
    let so_far = nmodules_of c.loop.modules in
    let searched = nmodules_of c.settle_all.new.modules in
    let now = nmodules_of c.settle_waiting.new.modules in
    record {
      continues = continues_both before so_far now c.args.log.now c.loop.log c.settle_waiting.new.log c.loop.invariant.continues
          (continues_both so_far searched now c.loop.log c.settle_all.new.log c.settle_waiting.new.log c.in_ok-round.ensures.continues c.in_ok-spare.ensures.continues);
      keeps = headers_both before so_far now c.loop.invariant.keeps (headers_both so_far searched now c.in_ok-round.ensures.keeps c.in_ok-spare.ensures.keeps);
      grows = Grows-further c.args.types.now c.loop.types c.settle_waiting.new.types c.loop.invariant.grows
          (Grows-further c.loop.types c.settle_all.new.types c.settle_waiting.new.types c.in_ok-round.ensures.grows c.in_ok-spare.ensures.grows);
      spare = search rules;
    }
