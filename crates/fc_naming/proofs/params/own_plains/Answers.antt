use Rattle.std.proofs.Common.{◌≡◌, ◌∷◌, ap, arith, rules}
use Rattle.fc_syntax.specs.Hints.{plain_hint}
use Rattle.fc_syntax.specs.View.{plain_of}
use Rattle.fc_model.specs.Resolution.{Words}
use Rattle.fc_model.specs.Worded.{bare_plain}
use Rattle.fc_naming.proofs.NamedDeclarations.{took_all, took_start, took_step}
use Rattle.fc_naming.proofs.params.own_plains.Goals as goal

pub loop-plain-init : goal.loop-plain-init
loop-plain-init c = took_start plain_of plain_hint bare_plain c.args.plains.now _ _ _ (search rules) (search rules) (ap (λ (ws : Words). ws.types) c.new-taken.ensures)

pub loop-plain-preserved : goal.loop-plain-preserved
loop-plain-preserved c =
    let added : c.add.new.self ≡ c.in_ok-name.name ∷ c.loop-plain.names = search rules in
    took_step plain_of plain_hint bare_plain c.args.plains.now c.loop-plain.plain-index c.plain-item.result _ _ (record { name = c.in_ok-name.name; kind = c.in_ok-kind.kind }) _ _ _ _ (omega arith) c.plain-item.is
    c.loop-plain.invariant (search rules) c.in_ok-name.ensures.chosen
    (ap (λ (ws : Words). ws.types) c.in_ok-name.ensures.taken) (search rules) added

pub returns : goal.returns
returns c = took_all plain_of plain_hint bare_plain c.args.plains.now c.loop-plain.plain-index _ _ _ c.loop-plain-test.false c.loop-plain.invariant
