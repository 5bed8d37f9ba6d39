use Rattle.std.proofs.Common.{arith, ◌≡◌, ◌+◌, ◌∷◌, Ok, drop, sym, ap, ◌∙◌}
use Rattle.std.proofs.lemmas.List.{drop_all}
use Rattle.fc_syntax.specs.View.{con_of, cons_of}
use Rattle.fc_model.specs.DeclaredWords.{top_by}
use Rattle.fc_model.specs.Declaring.{con_words}
use Rattle.fc_model.specs.NamelessView.{ncon_of}
use Rattle.fc_model.specs.Resolution.{plus_all, resolved_cons}
use Rattle.fc_model.specs.WordSets.{set_of}
use Rattle.fc_model.specs.Worded.{bare_con}
use Rattle.fc_model.proofs.Lists.{drop_item}
use Rattle.fc_scope.specs.ScopeWords.{locals_of}
use Rattle.fc_resolve_parts.specs.Building.{with_items}
use Rattle.fc_resolve_parts.proofs.Building.{with_items_end}
use Rattle.fc_resolve_parts.proofs.ListSteps.{map_twice}
use Rattle.fc_resolve.proofs.GroupSteps.{constructor_more}
use Rattle.fc_resolve.proofs.WordSteps.{cons_keep}
use Rattle.fc_resolve.proofs.constructors.constructors.Goals as goal

pub loop-con-preserved : goal.loop-con-preserved
loop-con-preserved c =
    let top = top_by c.args.top.now in
    let s = locals_of c.args.scope.now in
    let rest = drop (c.loop-con.con-index + 1) c.args.cons.now in
    let here : drop c.loop-con.con-index c.args.cons.now ≡ c.con-item.result ∷ rest = drop_item c.args.cons.now c.loop-con.con-index c.con-item.result (omega arith) c.con-item.is in record {
      whole =
          c.loop-con.invariant.whole
          ∙ ap (λ cs. with_items ncon_of c.loop-con.out (resolved_cons top s (set_of c.loop-con.earlier) c.loop-con.at (cons_of cs))) here
          ∙ constructor_more top s (set_of c.loop-con.earlier) (set_of c.add.new.self) c.loop-con.out c.push.new.self c.loop-con.at c.in_ok-at.at c.con-item.result rest c.in_ok-next.next
          c.in_ok-next.ensures.form c.in_ok-add.ensures.ok c.in_ok-push.ensures.ok c.in_ok-at.ensures.next;
      words =
          ap (λ s. plus_all (con_words (cons_of rest)) s) c.in_ok-add.ensures.ok
          ∙ ap (λ cs. plus_all (con_words (cons_of cs)) (set_of c.loop-con.earlier)) (sym here)
          ∙ c.loop-con.invariant.words;
      kept =
          cons_keep c.args.cons.now c.loop-con.out c.push.new.self c.loop-con.con-index c.con-item.result c.in_ok-next.next c.in_ok-push.ensures.ok c.in_ok-next.ensures.words (omega arith) c.con-item.is c.loop-con.invariant.kept;
    }

pub returns-clause-form : goal.returns-clause-form
returns-clause-form c =
    let top = top_by c.args.top.now in
    let s = locals_of c.args.scope.now in
    c.loop-con.invariant.whole
    ∙ ap (λ cs. with_items ncon_of c.loop-con.out (resolved_cons top s (set_of c.loop-con.earlier) c.loop-con.at (cons_of cs))) (drop_all c.loop-con.con-index c.args.cons.now (omega arith))
    ∙ with_items_end ncon_of c.loop-con.out
    ∙ ap (λ cs. Ok cs) (map_twice bare_con con_of c.loop-con.out)
