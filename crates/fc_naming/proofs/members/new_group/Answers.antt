use Rattle.std.proofs.Common.{◌≡◌, ◌∷◌, ◌∙◌, arith, ap, rules}
use Rattle.fc_model.specs.DeclaredWords.{top_by}
use Rattle.fc_model.specs.Resolution.{Words}
use Rattle.fc_scope.specs.ScopeWords.{locals_of, with_values}
use Rattle.fc_naming.specs.Taken.{words_around}
use Rattle.fc_naming.proofs.Groups.{group_all, group_start_at, group_step}
use Rattle.fc_naming.proofs.NewWords.{around_value}
use Rattle.fc_naming.proofs.members.new_group.Goals as goal

pub loop-member-init : goal.loop-member-init
loop-member-init g c =
    let s = locals_of c.args.scope.now in
    group_start_at (λ ns. (words_around (top_by c.args.top.now) (with_values ns s)).terms) c.args.members.now _ _ c.new-words.ensures c.new-names.ensures

pub loop-member-preserved : goal.loop-member-preserved
loop-member-preserved g c =
    let t = top_by c.args.top.now in
    let s = locals_of c.args.scope.now in
    let before = with_values c.loop-member.names s in
    let added : c.add.new.self ≡ c.in-Some.word ∷ c.loop-member.names = search rules in
    group_step _ _ _ c.args.members.now c.loop-member.member-index c.member-item.result _ _ _ _ c.in-Some.word (omega arith) c.member-item.is c.loop-member.invariant
    (rw c.in-Some.is at c.in_ok-word.ensures)
    (ap (λ ns. (words_around t (with_values ns s)).terms) added ∙ ap (λ (ws : Words). ws.terms) (around_value t before c.in-Some.word)) (search rules) added

pub returns : goal.returns
returns g c = group_all c.args.members.now c.loop-member.member-index c.loop-member-test.false c.loop-member.invariant
