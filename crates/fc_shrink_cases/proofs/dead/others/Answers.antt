use Rattle.std.proofs.Common.{◌≡◌, ◌++◌, ◌+◌, ◌-◌, ◌∙◌, length, take, drop, sym, ap, take_all, arith, length-drop}
use Rattle.fc_model.specs.NamelessView.{nalts_of}
use Rattle.fc_model.specs.Worded.{bare_alts}
use Rattle.fc_shrink_cases.proofs.Rows.{step_behind, without_is}
use Rattle.fc_shrink_cases.proofs.dead.others.Goals as goal

pub loop-alternative-preserved : goal.loop-alternative-preserved
loop-alternative-preserved c =
    let alts = c.args.alternatives.now in
    let n = c.args.number in
    step_behind (take n alts) (take (length alts - (n + 1)) (drop (n + 1) alts)) c.loop-alternative.copies c.push.new.self c.loop-alternative.alternative-index c.alternative-item.result c.in_ok-copy_alt.field-0
    c.in_ok-push.ensures.ok c.in_ok-copy_alt.ensures (omega arith) c.alternative-item.is c.loop-alternative.invariant

pub returns : goal.returns
returns c =
    let alts = c.args.alternatives.now in
    let n = c.args.number in
    let after = take (length alts - (n + 1)) (drop (n + 1) alts) in
    let whole : after ≡ drop (n + 1) alts = take_all (length alts - (n + 1)) (drop (n + 1) alts) (omega (arith, length-drop (n + 1) alts)) in
    let read : take c.loop-alternative.alternative-index after ≡ after = take_all c.loop-alternative.alternative-index after (omega arith) in
    ap bare_alts c.loop-alternative.invariant ∙ ap (λ z. nalts_of (take n alts ++ z)) (read ∙ whole) ∙ sym (without_is alts n c.requires)
