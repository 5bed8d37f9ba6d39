use Rattle.std.proofs.Common.{refl}
use Rattle.fc_files.specs.Outside.{Takes, Told}
use Rattle.fc_files.specs.declared.PutAnswer.TheVariants as put_answer
use Rattle.fc_build.proofs.LineLemmas.{more, stopped, stopped_last}
use Rattle.fc_build.proofs.lines.tell_name.Goals as goal

pub returns-in-Failed-clause-line : goal.returns-in-Failed-clause-line
returns-in-Failed-clause-line g c =
    stopped c.args.first.now _ _ _ _ _ c.in-Failed.ensures.takes (c.in-Failed.ensures.cause refl)

pub returns-in-Failed-put-clause-line : goal.returns-in-Failed-put-clause-line
returns-in-Failed-put-clause-line g c =
    let takes : Told (g.S.Sink.taken c.put.new.self) (g.S.Sink.taken c.put-2.new.self) (Takes put_answer.Failed c.args.name.now) = rw c.as_bytes.ensures.value at c.in-Failed-put.ensures.takes in
    more c.args.first.now _ _ _ _ _ _ _ c.in-Ok.ensures.takes c.in-Ok.ensures.later
    (stopped c.args.name.now _ _ _ _ _ takes (c.in-Failed-put.ensures.cause refl))

pub returns-in-Failed-put-2-clause-line : goal.returns-in-Failed-put-2-clause-line
returns-in-Failed-put-2-clause-line g c =
    let takes : Told (g.S.Sink.taken c.put.new.self) (g.S.Sink.taken c.put-2.new.self) (Takes put_answer.Ok c.args.name.now) = rw c.as_bytes.ensures.value at c.in-Ok-put.ensures.takes in
    more c.args.first.now _ _ _ _ _ _ _ c.in-Ok.ensures.takes c.in-Ok.ensures.later
    (more c.args.name.now _ _ _ _ _ _ _ takes c.in-Ok-put.ensures.later
    (stopped_last _ _ _ _ _ c.in-Failed-put-2.ensures.takes (c.in-Failed-put-2.ensures.cause refl)))
