use Rattle.std.proofs.Common.{◌≡◌, Ok, subst}
use Rattle.fc_syntax.specs.View.{decls_of}
use Rattle.fc_model.specs.DeclaredWords.{top_by}
use Rattle.fc_model.specs.Faulting.{and_then}
use Rattle.fc_model.specs.Nameless.{NModuleOf}
use Rattle.fc_model.specs.NamelessView.{nmodule_of}
use Rattle.fc_model.specs.Resolution.{Top, Words, no_words, resolved_decls}
use Rattle.fc_model.specs.Says.{Refuses}
use Rattle.fc_resolve.proofs.resolve_among.Goals as goal

pub returns-in-Ok-clause-form : goal.returns-in-Ok-clause-form
returns-in-Ok-clause-form c =
    let whole = λ (top : Top) (earlier : Words). and_then (resolved_decls top earlier (decls_of c.args.m.now.decls))
    (λ ds. Ok (NModuleOf c.args.m.now.name c.args.m.now.imports c.args.m.now.exports c.args.m.now.hidden ds)) ≡ Ok (nmodule_of c.in-Ok.form) in
    subst (λ top. whole top no_words) c.in_ok-top.ensures.top (subst (λ earlier. whole (top_by c.in_ok-top.top) earlier) c.new-earlier.ensures c.in-Ok.ensures.form)

pub returns-in-Err-clause-form : goal.returns-in-Err-clause-form
returns-in-Err-clause-form c =
    let whole = λ (top : Top) (earlier : Words). Refuses c.in-Err.flawed (and_then (resolved_decls top earlier (decls_of c.args.m.now.decls))
    (λ ds. Ok (NModuleOf c.args.m.now.name c.args.m.now.imports c.args.m.now.exports c.args.m.now.hidden ds))) in
    subst (λ top. whole top no_words) c.in_ok-top.ensures.top (subst (λ earlier. whole (top_by c.in_ok-top.top) earlier) c.new-earlier.ensures c.in-Err.ensures.form)
