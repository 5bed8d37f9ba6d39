use Rattle.std.proofs.Common.{◌≡◌, ◌∙◌, ◌+◌, List, [], ◌∷◌, ◌++◌, Ok, ap, map, subst, sym, drop}
use Rattle.std.proofs.lemmas.List.{map-append}
use Rattle.fc_syntax.specs.View.{module_of}
use Rattle.fc_model.specs.Nameless.{NModule}
use Rattle.fc_model.specs.NamelessView.{nmodule_of, nmodules_of}
use Rattle.fc_model.specs.OfferViews.{HaveOffers}
use Rattle.fc_model.specs.Resolution.{Offers, resolved_among}
use Rattle.fc_model.proofs.Offered.{have_offers}
use Rattle.fc_plan.specs.Modules.{behind}
use Rattle.fc_lint_set.specs.Sets.{ResolveBehind, hints_kept}
use Rattle.fc_lint_set.proofs.Told.{named_all, named_step, words_step}
use Rattle.fc_lint_set.proofs.sets.named_forms.Goals as goal

pub returns-clause-forms : goal.returns-clause-forms
returns-clause-forms c = named_all c.args.modules.now (nmodules_of c.loop-m.forms.items) c.loop-m.m-index c.loop-m-test.false c.loop-m.invariant.whole

pub loop-m-preserved : goal.loop-m-preserved
loop-m-preserved c =
    let before : List NModule = nmodules_of c.loop-m.forms.items in
    let form : NModule = nmodule_of c.in-Ok.found.0 in
    let more : nmodules_of c.push.new.self.items ≡ before ++ form ∷ [] = ap nmodules_of c.in_ok-push.ensures.items ∙ map-append nmodule_of c.loop-m.forms.items (c.in-Ok.found.0 ∷ []) in
    let named = subst (λ (o : Offers). resolved_among o (module_of c.m-item.result.now) ≡ Ok form) (have_offers before c.loop-m.offers c.loop-m.invariant.offers) c.in-Ok.ensures.form in
    record {
      whole = subst (λ (ns : List NModule). (ks : List NModule) → ResolveBehind ns (behind (drop (c.loop-m.m-index + 1) c.args.modules.now)) ks → ResolveBehind [] (behind c.args.modules.now) (ns ++ ks)) (sym more)
          (named_step c.args.modules.now before c.loop-m.m-index c.m-item.result form c.loop-m-test.true c.m-item.is named c.loop-m.invariant.whole);
      words = ap (map hints_kept) c.in_ok-push.ensures.items ∙ words_step c.args.modules.now c.loop-m.forms.items c.loop-m.m-index c.m-item.result c.in-Ok.found.0 c.loop-m-test.true c.m-item.is c.loop-m.invariant.words c.in-Ok.ensures.words;
      offers = subst (λ (ns : List NModule). HaveOffers ns c.add.new.self) (sym more) (c.in_ok-add.ensures before (subst (HaveOffers before) (sym c.in-Ok.ensures.offers) c.loop-m.invariant.offers));
    }
