use Rattle.std.proofs.Common.{arith, rules, ◌≡◌, ◌+◌, ◌∷◌, Ok, Err, drop, ap, sym, subst, ◌∙◌}
use Rattle.std.proofs.lemmas.List.{drop_all}
use Rattle.fc_syntax.specs.Hints.{binders_hints}
use Rattle.fc_syntax.specs.View.{binder_of, binders_of}
use Rattle.fc_model.specs.DeclaredWords.{top_by}
use Rattle.fc_model.specs.NamelessView.{nbinder_of, nbinders_of}
use Rattle.fc_model.specs.Resolution.{enter_all, no_words, resolved_binders}
use Rattle.fc_model.specs.Says.{Refuses, Says}
use Rattle.fc_model.specs.Worded.{bare_binder}
use Rattle.fc_model.proofs.Lists.{drop_item}
use Rattle.fc_scope.specs.ScopeWords.{locals_of, with_binders}
use Rattle.fc_resolve_parts.specs.Building.{with_items}
use Rattle.fc_resolve_parts.specs.Entered.{words_of}
use Rattle.fc_resolve_parts.proofs.Building.{with_items_end, with_items_none}
use Rattle.fc_resolve_parts.proofs.ListSteps.{binders_more, binders_refused, entered_scope, map_twice}
use Rattle.fc_resolve_parts.proofs.WordSteps.{binders_keep}
use Rattle.fc_resolve_parts.proofs.binders.resolved_binders.Goals as goal

pub loop-binder-init : goal.loop-binder-init
loop-binder-init c =
    let top = top_by c.args.top.now in
    let s = locals_of c.args.scope.now in
    let bs = binders_of c.args.binders.now in record {
      whole =
          sym (with_items_none nbinder_of (resolved_binders top s no_words 0 bs))
          ∙ ap (λ out. with_items nbinder_of out (resolved_binders top s no_words 0 bs)) (sym c.new-out.ensures)
          ∙ ap (λ ns. with_items nbinder_of c.new-out.result (resolved_binders top (with_binders ns s) (words_of ns) 0 bs)) (sym c.new-names.ensures);
      behind = ap (λ ns. enter_all bs (with_binders ns s)) c.new-names.ensures;
      words = ap (λ out. binders_hints (binders_of out)) c.new-out.ensures;
    }

pub loop-binder-preserved : goal.loop-binder-preserved
loop-binder-preserved c =
    let top = top_by c.args.top.now in
    let s = locals_of c.args.scope.now in
    let b = c.binder-item.result in
    let rest = drop (c.loop-binder.binder-index + 1) c.args.binders.now in
    let here : drop c.loop-binder.binder-index c.args.binders.now ≡ b ∷ rest = drop_item c.args.binders.now c.loop-binder.binder-index b (omega arith) c.binder-item.is in record {
      whole =
          c.loop-binder.invariant.whole
          ∙ ap (λ bs. with_items nbinder_of c.loop-binder.out (resolved_binders top (with_binders c.loop-binder.names s) (words_of c.loop-binder.names) c.loop-binder.at (binders_of bs))) here
          ∙ binders_more top s c.loop-binder.names c.enter.new.names c.loop-binder.out c.push.new.self c.loop-binder.at c.in_ok-at.at b rest c.in_ok-next.next
          c.in_ok-next.ensures.form c.in_ok-enter.ensures c.in_ok-push.ensures.ok c.in_ok-at.ensures.next;
      behind =
          ap (λ ns. enter_all (binders_of rest) (with_binders ns s)) c.in_ok-enter.ensures
          ∙ ap (enter_all (binders_of rest)) (entered_scope (binder_of b) c.loop-binder.names s)
          ∙ ap (λ bs. enter_all (binders_of bs) (with_binders c.loop-binder.names s)) (sym here)
          ∙ c.loop-binder.invariant.behind;
      words =
          binders_keep c.args.binders.now c.loop-binder.out c.push.new.self c.loop-binder.binder-index b c.in_ok-next.next c.in_ok-push.ensures.ok c.in_ok-next.ensures.words (omega arith) c.binder-item.is c.loop-binder.invariant.words;
    }

pub returns-in_err-next-clause-form : goal.returns-in_err-next-clause-form
returns-in_err-next-clause-form c =
    let top = top_by c.args.top.now in
    let s = locals_of c.args.scope.now in
    let b = c.binder-item.result in
    let rest = drop (c.loop-binder.binder-index + 1) c.args.binders.now in
    let here : drop c.loop-binder.binder-index c.args.binders.now ≡ b ∷ rest = drop_item c.args.binders.now c.loop-binder.binder-index b (omega arith) c.binder-item.is in
    let whole = resolved_binders top s no_words 0 (binders_of c.args.binders.now) in
    let so_far = c.loop-binder.invariant.whole
    ∙ ap (λ bs. with_items nbinder_of c.loop-binder.out (resolved_binders top (with_binders c.loop-binder.names s) (words_of c.loop-binder.names) c.loop-binder.at (binders_of bs))) here in
    let refused : Refuses c.in_err-next.field-0.0 whole = subst (Refuses c.in_err-next.field-0.0) (sym so_far)
    (binders_refused top s c.loop-binder.names c.loop-binder.out c.loop-binder.at b rest c.in_err-next.field-0.0 c.in_err-next.ensures.form) in
    let given : c.from_residual.result ≡ Err c.in_err-next.field-0.0 = search rules in
    subst (λ r. Says (λ e. nbinders_of e.binders) r whole) (sym given) refused

pub returns-clause-form : goal.returns-clause-form
returns-clause-form c =
    let top = top_by c.args.top.now in
    let s = locals_of c.args.scope.now in
    c.loop-binder.invariant.whole
    ∙ ap (λ bs. with_items nbinder_of c.loop-binder.out (resolved_binders top (with_binders c.loop-binder.names s) (words_of c.loop-binder.names) c.loop-binder.at (binders_of bs))) (drop_all c.loop-binder.binder-index c.args.binders.now (omega arith))
    ∙ with_items_end nbinder_of c.loop-binder.out
    ∙ ap (λ bs. Ok bs) (map_twice bare_binder binder_of c.loop-binder.out)
