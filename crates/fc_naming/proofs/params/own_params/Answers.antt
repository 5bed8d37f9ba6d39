use Rattle.std.proofs.Common.{◌≡◌, ◌∷◌, ap, arith, rules}
use Rattle.fc_syntax.specs.Hints.{param_hint}
use Rattle.fc_syntax.specs.View.{param_of}
use Rattle.fc_model.specs.Resolution.{Words}
use Rattle.fc_model.specs.Worded.{bare_param}
use Rattle.fc_naming.proofs.NamedDeclarations.{took_all, took_start, took_step}
use Rattle.fc_naming.proofs.params.own_params.Goals as goal

pub loop-param-init : goal.loop-param-init
loop-param-init c = took_start param_of param_hint bare_param c.args.params.now _ _ _ (search rules) (search rules) (ap (λ (ws : Words). ws.types) c.new-taken.ensures)

pub loop-param-preserved : goal.loop-param-preserved
loop-param-preserved c =
    let added : c.add.new.self ≡ c.in_ok-name.name ∷ c.loop-param.names = search rules in
    took_step param_of param_hint bare_param c.args.params.now c.loop-param.param-index c.param-item.result _ _ (record { name = c.in_ok-name.name; kind = c.in_ok-kind.kind; role = c.param-item.result.role }) _ _ _ _ (omega arith) c.param-item.is
    c.loop-param.invariant (search rules) c.in_ok-name.ensures.chosen
    (ap (λ (ws : Words). ws.types) c.in_ok-name.ensures.taken) (search rules) added

pub returns : goal.returns
returns c = took_all param_of param_hint bare_param c.args.params.now c.loop-param.param-index _ _ _ c.loop-param-test.false c.loop-param.invariant
