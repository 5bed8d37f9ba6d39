use Rattle.std.proofs.Common.{◌≡◌, ◌∷◌, arith, ap, rules}
use Rattle.fc_model.specs.Resolution.{Words}
use Rattle.fc_naming.proofs.Groups.{group_all, group_start, group_step}
use Rattle.fc_naming.proofs.members.named_group.Goals as goal

pub loop-member-init : goal.loop-member-init
loop-member-init g c = group_start _ c.args.members.now _ _ c.new-words.ensures c.new-names.ensures

pub loop-member-preserved : goal.loop-member-preserved
loop-member-preserved g c =
    let added : c.add.new.self ≡ c.in_ok-word.word ∷ c.loop-member.names = search rules in
    group_step _ _ _ c.args.members.now c.loop-member.member-index c.member-item.result _ _ _ _ c.in_ok-word.word (omega arith) c.member-item.is c.loop-member.invariant
    c.in_ok-word.ensures.chosen (ap (λ (ws : Words). ws.terms) c.in_ok-word.ensures.taken) (search rules) added

pub returns : goal.returns
returns g c = group_all c.args.members.now c.loop-member.member-index c.loop-member-test.false c.loop-member.invariant
