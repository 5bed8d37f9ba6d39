use Rattle.std.proofs.Common.{IfSome, sym, subst}
use Rattle.std.proofs.lemmas.Result.{IfOk-weaker}
use Rattle.fc_model.specs.NamelessView.{nmodules_of}
use Rattle.fc_apply.specs.Definitions.{HasDecl, with_decl}
use Rattle.fc_apply.specs.Steps.{FirstFits, Makes}
use Rattle.fc_apply.proofs.Applied.{makes_once, makes_takes, takes_makes}
use Rattle.fc_apply.proofs.applying.apply_at_place.Goals as goal

pub returns-in-Some-clause-taken : goal.returns-in-Some-clause-taken
returns-in-Some-clause-taken c =
    let some = subst (λ o. IfSome o (λ x. HasDecl x.0 c.args.modules.now × Makes c.args.step.now (nmodules_of c.args.modules.now) (nmodules_of (with_decl x.0 x.1 c.args.modules.now)))) c.in-Some.is c.in_ok-number.ensures.some in
    IfOk-weaker c.put_in_first.result _ _ (λ b h true.
    let put = h true in
    makes_takes c.args.step.now (nmodules_of c.args.modules.now) (nmodules_of c.put_in_first.new.modules)
    (subst (λ ms. Makes c.args.step.now (nmodules_of c.args.modules.now) (nmodules_of ms)) (sym put.0) some.1) put.1) c.put_in_first.ensures.put

pub returns-in-Some-clause-refused : goal.returns-in-Some-clause-refused
returns-in-Some-clause-refused c =
    let some = subst (λ o. IfSome o (λ x. HasDecl x.0 c.args.modules.now × Makes c.args.step.now (nmodules_of c.args.modules.now) (nmodules_of (with_decl x.0 x.1 c.args.modules.now)))) c.in-Some.is c.in_ok-number.ensures.some in
    IfOk-weaker c.put_in_first.result _ _ (λ b h false is after takes.
    let both = takes_makes c.args.step.now (nmodules_of c.args.modules.now) after is takes in
    h false (subst FirstFits (makes_once c.args.step.now (nmodules_of c.args.modules.now) after _ both.0 some.1) both.1)) c.put_in_first.ensures.beyond

pub returns-in-None-clause-refused : goal.returns-in-None-clause-refused
returns-in-None-clause-refused c false is after takes =
    c.in_ok-number.ensures.none c.in-None.is is after (takes_makes c.args.step.now (nmodules_of c.args.modules.now) after is takes).0
