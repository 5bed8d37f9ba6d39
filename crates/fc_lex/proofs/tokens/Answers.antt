use Rattle.std.proofs.Common.{rules}
use Rattle.fc_lex.proofs.Steps.{read_all, read_fault, read_none, read_pushed}
use Rattle.fc_lex.proofs.tokens.Goals as goal

pub loop-at-init : goal.loop-at-init
loop-at-init c = read_none c.args.bytes.now c.new-all.result c.new-all.ensures

pub returns-in_err-piece-clause-fault : goal.returns-in_err-piece-clause-fault
returns-in_err-piece-clause-fault c =
    let f = read_fault c.args.bytes.now c.loop-at.all c.loop-at.at c.in_err-piece.field-0.0 c.loop-at.invariant c.in_err-piece.ensures.fault in
    search (rules, f)

pub loop-at-preserved-in_ok-push : goal.loop-at-preserved-in_ok-push
loop-at-preserved-in_ok-push c =
    read_pushed c.args.bytes.now c.loop-at.all c.push.new.self c.loop-at.at c.in_ok-piece.piece.end c.in_ok-piece.piece.kind c.in-Some.kind c.loop-at.invariant
    c.in_ok-piece.ensures.forward c.in_ok-piece.ensures.within c.in_ok-piece.ensures.read c.in-Some.is c.in_ok-push.ensures.ok

pub returns-clause-found : goal.returns-clause-found
returns-clause-found c = read_all c.args.bytes.now c.loop-at.all c.loop-at.at c.loop-at.invariant c.loop-at-test.false
