use Rattle.std.proofs.Common.{rules, arith, ◌≡◌, ◌∷◌, ◌+◌, ◌-◌, [], None, drop, length, sym, subst}
use Rattle.std.specs.HashMap.{get_by_text}
use Rattle.std.proofs.lemmas.List.{drop_all}
use Rattle.fc_syntax.specs.Tree.{Word}
use Rattle.fc_model.specs.NamelessView.{nmodules_of}
use Rattle.fc_model.specs.OfferViews.{AreOffersOf, Offered}
use Rattle.fc_model.proofs.Lists.{drop_item}
use Rattle.fc_model.proofs.offers.offers_by_name.Goals as goal

pub loop-behind-init : goal.loop-behind-init
loop-behind-init c =
    let all = c.args.modules.now in
    let none : drop (length all - 0) all ≡ [] = drop_all (length all - 0) all (omega arith) in
    let empty : (w : Word) → get_by_text c.new-offers.result w ≡ None = λ w. search rules in
    subst (λ ms. AreOffersOf (nmodules_of ms) c.new-offers.result) (sym none) (λ w. subst (λ o. Offered None o) (sym (empty w)) tt)

pub loop-behind-preserved : goal.loop-behind-preserved
loop-behind-preserved c =
    let all = c.args.modules.now in
    let at = (length all - 1) - c.loop-behind.behind in
    let rest : (length all - c.loop-behind.behind) ≡ at + 1 = omega arith in
    let here : (length all - (c.loop-behind.behind + 1)) ≡ at = omega arith in
    let item : drop at all ≡ c.index-modules-count.result ∷ drop (at + 1) all = drop_item all at c.index-modules-count.result (omega arith) c.index-modules-count.is in
    subst (λ k. AreOffersOf (nmodules_of (drop k all)) c.put_offer.new.offers) (sym here)
    (subst (λ ms. AreOffersOf (nmodules_of ms) c.put_offer.new.offers) (sym item)
    (c.in_ok-put_offer.ensures (nmodules_of (drop (at + 1) all)) (subst (λ k. AreOffersOf (nmodules_of (drop k all)) c.loop-behind.offers) rest c.loop-behind.invariant)))

pub returns : goal.returns
returns c =
    let all = c.args.modules.now in
    let whole : length all - c.loop-behind.behind ≡ 0 = omega arith in
    subst (λ k. AreOffersOf (nmodules_of (drop k all)) c.loop-behind.offers) whole c.loop-behind.invariant
