use Rattle.std.proofs.Common.{rules}
use Rattle.fc_model.specs.NamelessView.{nmodules_of}
use Rattle.fc_type_table.proofs.Numbers.{Grows-further}
use Rattle.fc_simplify.proofs.Keeping.{headers_both, headers_stay}
use Rattle.fc_simplify.proofs.Logs.{continues_both}
use Rattle.fc_simplify.proofs.settling.settle.Goals.{in-Some, in-None-2}
use Rattle.fc_simplify.proofs.settling.settle.Goals as goal

pub take_next-requires-clause-headers : goal.take_next-requires-clause-headers
take_next-requires-clause-headers c =
    headers_stay c.args.types.now c.loop.types c.args.headers.now (nmodules_of c.args.modules.now) (nmodules_of c.loop.modules) c.loop.invariant.grows c.loop.invariant.keeps c.requires.headers

pub returns-in_err-went-clause-continues : goal.returns-in_err-went-clause-continues
returns-in_err-went-clause-continues c =
    continues_both (nmodules_of c.args.modules.now) (nmodules_of c.loop.modules) (nmodules_of c.take_next.new.modules) c.args.log.now c.loop.log c.take_next.new.log c.loop.invariant.continues c.in_err-went.ensures.continues

pub returns-in-None-clause-continues : goal.returns-in-None-clause-continues
returns-in-None-clause-continues c =
    continues_both (nmodules_of c.args.modules.now) (nmodules_of c.loop.modules) (nmodules_of c.take_next.new.modules) c.args.log.now c.loop.log c.take_next.new.log c.loop.invariant.continues c.in_ok-went.ensures.continues

pub loop-preserved : goal.loop-preserved
loop-preserved c =
    let before = nmodules_of c.args.modules.now in
    let so_far = nmodules_of c.loop.modules in
    let now = nmodules_of c.take_next.new.modules in
    record {
      continues = continues_both before so_far now c.args.log.now c.loop.log c.take_next.new.log c.loop.invariant.continues c.in_ok-went.ensures.continues;
      keeps = headers_both before so_far now c.loop.invariant.keeps c.in_ok-went.ensures.keeps;
      grows = Grows-further c.args.types.now c.loop.types c.take_next.new.types c.loop.invariant.grows c.in_ok-went.ensures.grows;
      spare = elim c.match-went.branch [ in-Some w ↦ search rules | in-None-2 w ↦ search rules ];
      unchanged = elim c.match-went.branch [ in-Some w ↦ search rules | in-None-2 w ↦ search rules ];
    }
