use Rattle.std.proofs.Common.{◌≡◌, ◌∙◌, sym, true, rules}
use Rattle.fc_syntax.specs.View.{module_of}
use Rattle.fc_model.specs.DeclaredWords.{top_by}
use Rattle.fc_model.specs.NamelessView.{ndecls_of, nmodule_of}
use Rattle.fc_model.specs.Resolution.{no_words, ntop_of}
use Rattle.fc_model.proofs.Declares.{bare_top}
use Rattle.fc_scoped.specs.Testing.{declare_distinct}
use Rattle.fc_scoped.proofs.declarations.is_scoped.Goals as goal

pub returns : goal.returns
returns c =
    let distinct : declare_distinct no_words (ndecls_of c.args.m.now.decls) ≡ true = search rules in
    let top : top_by c.in_ok-top.top ≡ ntop_of (nmodule_of c.args.m.now) = c.in_ok-top.ensures ∙ sym (bare_top (module_of c.args.m.now)) in
    rw (distinct, ← top) (rw c.as_slice-2.ensures at c.decls.ensures)
