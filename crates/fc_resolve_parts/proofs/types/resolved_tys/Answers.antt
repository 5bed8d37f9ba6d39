use Rattle.std.proofs.Common.{arith, ◌≡◌, ◌+◌, ◌∷◌, Ok, drop, ap, ◌∙◌}
use Rattle.std.proofs.lemmas.List.{drop_all}
use Rattle.fc_syntax.specs.View.{ty_of, tys_of}
use Rattle.fc_model.specs.DeclaredWords.{top_by}
use Rattle.fc_model.specs.NamelessView.{nty_of}
use Rattle.fc_model.specs.Resolution.{resolved_tys}
use Rattle.fc_model.specs.Worded.{bare_ty}
use Rattle.fc_model.proofs.Lists.{drop_item}
use Rattle.fc_scope.specs.ScopeWords.{locals_of}
use Rattle.fc_resolve_parts.specs.Building.{with_items}
use Rattle.fc_resolve_parts.proofs.Building.{with_items_end}
use Rattle.fc_resolve_parts.proofs.ListSteps.{map_twice, tys_more}
use Rattle.fc_resolve_parts.proofs.WordSteps.{tys_keep}
use Rattle.fc_resolve_parts.proofs.types.resolved_tys.Goals as goal

pub loop-t-preserved : goal.loop-t-preserved
loop-t-preserved c =
    let top = top_by c.args.top.now in
    let ws = (locals_of c.args.scope.now).types in
    let rest = drop (c.loop-t.t-index + 1) c.args.types.now in
    let here : drop c.loop-t.t-index c.args.types.now ≡ c.t-item.result ∷ rest = drop_item c.args.types.now c.loop-t.t-index c.t-item.result (omega arith) c.t-item.is in record {
      whole =
          c.loop-t.invariant.whole
          ∙ ap (λ ts. with_items nty_of c.loop-t.out (resolved_tys top ws c.loop-t.at (tys_of ts))) here
          ∙ tys_more top ws c.loop-t.out c.push.new.self c.loop-t.at c.in_ok-at.at c.t-item.result rest c.in_ok-next.next c.in_ok-next.ensures.form c.in_ok-push.ensures.ok c.in_ok-at.ensures.next;
      words =
          tys_keep c.args.types.now c.loop-t.out c.push.new.self c.loop-t.t-index c.t-item.result c.in_ok-next.next c.in_ok-push.ensures.ok c.in_ok-next.ensures.words (omega arith) c.t-item.is c.loop-t.invariant.words;
    }

pub returns-clause-form : goal.returns-clause-form
returns-clause-form c =
    let top = top_by c.args.top.now in
    let ws = (locals_of c.args.scope.now).types in
    c.loop-t.invariant.whole
    ∙ ap (λ ts. with_items nty_of c.loop-t.out (resolved_tys top ws c.loop-t.at (tys_of ts))) (drop_all c.loop-t.t-index c.args.types.now (omega arith))
    ∙ with_items_end nty_of c.loop-t.out
    ∙ ap (λ ts. Ok ts) (map_twice bare_ty ty_of c.loop-t.out)
