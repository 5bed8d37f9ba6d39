use Rattle.std.proofs.Common.{rules}
use Rattle.fc_model.specs.NamelessView.{nmodules_of}
use Rattle.fc_type_table.proofs.Numbers.{Grows-further}
use Rattle.fc_simplify.proofs.Keeping.{headers_both, headers_stay}
use Rattle.fc_simplify.proofs.Logs.{continues_both}
use Rattle.fc_simplify.proofs.Marked.{first_among}
use Rattle.fc_simplify.proofs.settling.settle_waiting.Goals.{then-is_first+in_ok-one+then-one+in_ok-wake, then-is_first+in_ok-one+else-one, else-is_first}
use Rattle.fc_simplify.proofs.settling.settle_waiting.Goals as goal

pub settle-requires-clause-headers : goal.settle-requires-clause-headers
settle-requires-clause-headers c =
    headers_stay c.args.types.now c.loop.types c.args.headers.now (nmodules_of c.args.modules.now) (nmodules_of c.loop.modules) c.loop.invariant.grows c.loop.invariant.keeps c.requires.headers

pub returns-in_err-one-clause-continues : goal.returns-in_err-one-clause-continues
returns-in_err-one-clause-continues c =
    continues_both (nmodules_of c.args.modules.now) (nmodules_of c.loop.modules) (nmodules_of c.settle.new.modules) c.args.log.now c.loop.log c.settle.new.log c.loop.invariant.continues
    c.in_err-one.ensures.continues

pub returns-in_err-wake-clause-continues : goal.returns-in_err-wake-clause-continues
returns-in_err-wake-clause-continues c =
    continues_both (nmodules_of c.args.modules.now) (nmodules_of c.loop.modules) (nmodules_of c.settle.new.modules) c.args.log.now c.loop.log c.settle.new.log c.loop.invariant.continues
    c.in_ok-one.ensures.continues

pub settle-requires-clause-first : goal.settle-requires-clause-first
settle-requires-clause-first c =
    first_among (nmodules_of c.args.modules.now) (nmodules_of c.loop.modules) c.args.firsts.now c.in-Some.number c.requires.firsts c.loop.invariant.keeps.words (search rules)

pub loop-preserved : goal.loop-preserved
loop-preserved c =
    let before = nmodules_of c.args.modules.now in
    let so_far = nmodules_of c.loop.modules in
    let now = nmodules_of c.if-is_first.modules in
    elim c.if-is_first.branch [
      | then-is_first+in_ok-one+then-one+in_ok-wake w ↦ record {
        continues = continues_both before so_far now c.args.log.now c.loop.log c.if-is_first.log c.loop.invariant.continues (search rules);
        keeps = headers_both before so_far now c.loop.invariant.keeps (search rules);
        grows = Grows-further c.args.types.now c.loop.types c.if-is_first.types c.loop.invariant.grows (search rules);
        spare = search rules;
      }
      | then-is_first+in_ok-one+else-one w ↦ record {
        continues = continues_both before so_far now c.args.log.now c.loop.log c.if-is_first.log c.loop.invariant.continues (search rules);
        keeps = headers_both before so_far now c.loop.invariant.keeps (search rules);
        grows = Grows-further c.args.types.now c.loop.types c.if-is_first.types c.loop.invariant.grows (search rules);
        spare = search rules;
      }
      | else-is_first w ↦ record {
        continues = search rules;
        keeps = search rules;
        grows = search rules;
        spare = search rules;
      }
    ]
