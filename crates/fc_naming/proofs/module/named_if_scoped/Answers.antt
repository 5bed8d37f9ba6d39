use Rattle.std.proofs.Common.{sym, ◌∙◌}
use Rattle.fc_syntax.specs.View.{module_of}
use Rattle.fc_model.specs.NamelessView.{nmodule_of}
use Rattle.fc_model.proofs.Declares.{bare_top}
use Rattle.fc_model.proofs.Sameness.{false_true}
use Rattle.fc_scoped.proofs.Tested.{scoped_is_tested}
use Rattle.fc_naming.proofs.module.named_if_scoped.Goals as goal

pub returns-then-not-branch : goal.returns-then-not-branch
returns-then-not-branch c = λ h. false_true (sym c.if-not-branch.true ∙ c.in_ok-is_scoped.ensures ∙ (scoped_is_tested (nmodule_of c.args.m.now)).0 h)

pub returns : goal.returns
returns c =
    let s = (scoped_is_tested (nmodule_of c.args.m.now)).1 (sym c.in_ok-is_scoped.ensures ∙ c.if-not-branch.false) in
    (s, c.in_ok-named.ensures.resolves (c.in_ok-top.ensures ∙ sym (bare_top (module_of c.args.m.now))) s, c.in_ok-named.ensures.formed)
