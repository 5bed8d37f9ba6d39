use Rattle.std.proofs.Common.{arith, ◌≡◌, ◌+◌, ◌∷◌, Ok, drop, ap, ◌∙◌}
use Rattle.std.proofs.lemmas.List.{drop_all}
use Rattle.fc_syntax.specs.View.{decl_of, decls_of}
use Rattle.fc_model.specs.DeclaredWords.{top_by, words_by_space}
use Rattle.fc_model.specs.NamelessView.{ndecl_of}
use Rattle.fc_model.specs.Resolution.{resolved_decls}
use Rattle.fc_model.specs.Worded.{bare_decl}
use Rattle.fc_model.proofs.Lists.{drop_item}
use Rattle.fc_resolve_parts.specs.Building.{with_items}
use Rattle.fc_resolve_parts.proofs.Building.{with_items_end}
use Rattle.fc_resolve_parts.proofs.ListSteps.{map_twice}
use Rattle.fc_resolve.proofs.GroupSteps.{declaration_more}
use Rattle.fc_resolve.proofs.WordSteps.{decls_keep}
use Rattle.fc_resolve.proofs.declarations.resolved_decls.Goals as goal

pub loop-decl-preserved : goal.loop-decl-preserved
loop-decl-preserved c =
    let rest = drop (c.loop-decl.decl-index + 1) c.args.decls.now in
    let here : drop c.loop-decl.decl-index c.args.decls.now ≡ c.decl-item.result ∷ rest = drop_item c.args.decls.now c.loop-decl.decl-index c.decl-item.result (omega arith) c.decl-item.is in record {
      whole =
          c.loop-decl.invariant.whole
          ∙ ap (λ ds. with_items ndecl_of c.loop-decl.out (resolved_decls (top_by c.args.top.now) (words_by_space c.loop-decl.earlier) (decls_of ds))) here
          ∙ declaration_more (top_by c.args.top.now) (words_by_space c.loop-decl.earlier) _ c.loop-decl.out _ c.decl-item.result rest c.in_ok-next.next
          c.in_ok-next.ensures.form c.in_ok-next.ensures.behind c.in_ok-push.ensures.ok;
      words =
          decls_keep c.args.decls.now c.loop-decl.out c.push.new.self c.loop-decl.decl-index c.decl-item.result c.in_ok-next.next c.in_ok-push.ensures.ok c.in_ok-next.ensures.words (omega arith) c.decl-item.is c.loop-decl.invariant.words;
    }

pub returns-clause-form : goal.returns-clause-form
returns-clause-form c =
    c.loop-decl.invariant.whole
    ∙ ap (λ ds. with_items ndecl_of c.loop-decl.out (resolved_decls (top_by c.args.top.now) (words_by_space c.loop-decl.earlier) (decls_of ds))) (drop_all c.loop-decl.decl-index c.args.decls.now (omega arith))
    ∙ with_items_end ndecl_of c.loop-decl.out
    ∙ ap (λ ds. Ok ds) (map_twice bare_decl decl_of c.loop-decl.out)
