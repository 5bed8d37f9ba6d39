-- Sets that lint are those of which the rules hold.
use Rattle.std.proofs.Common.{◌≡◌, ◌∙◌, ◌↔◌, List, [], ◌∷◌, Result, Ok, refl, sym, subst}
use Rattle.fc_syntax.specs.Tree.{Module, ModuleOf}
use Rattle.fc_model.specs.Faulting.{F, and_then}
use Rattle.fc_model.specs.Headers.{name_of, ndecls_in}
use Rattle.fc_model.specs.Kinding.{decls_at}
use Rattle.fc_model.specs.Linting.{Done, done, SetLints, declarations_judged, exports_judged, lint_or_fault, module_judged, modules_judged, nameless_forms, offers_of}
use Rattle.fc_model.specs.Nameless.{NModule, NModuleOf}
use Rattle.fc_model.specs.Resolution.{Offers, no_words, offers_all, resolved_among, resolved_decls, resolved_or_fault, top_among}
use Rattle.fc_model.proofs.LintedIs.{lint_is}
use Rattle.fc_model.proofs.Parts.{and_then_inv, ok_ok}
use Rattle.fc_model.proofs.ResolvedMore.{OffersMore, resolved_more}
use Rattle.fc_model.proofs.ResolvedModulesAre.{decls_are_resolved, module_is_resolved, resolved_decls_are, resolved_module_is}
use Rattle.fc_model.proofs.SetWritten.{judged_first}
use Rattle.fc_set_rules.specs.SetRules.{AllHold, HoldsInSet, ResolvesAmong, SetHolds, no_modules, one_module, resolves_among}

is_done : (r : Result Done F) (d : Done) → r ≡ Ok d → r ≡ Ok done
is_done r done h = h

-- ---- resolution among modules

among_is_resolved : {offers : Offers} {m : Module} {n : NModule} → ResolvesAmong offers m n → resolved_among offers m ≡ Ok n
among_is_resolved {offers = offers} (resolves_among {m = m} {imports = imports} {exports = exports} {hidden = hidden} {ds = ds} rules) =
    rw (decls_are_resolved (top_among offers (ModuleOf m imports exports hidden ds)) rules) refl

resolved_among_is : (offers : Offers) (m : Module) (n : NModule) → resolved_among offers m ≡ Ok n → ResolvesAmong offers m n
resolved_among_is offers (ModuleOf m imports exports hidden ds) n h =
    let top = top_among offers (ModuleOf m imports exports hidden ds) in
    let p = and_then_inv (resolved_decls top no_words ds) _ n h in
    subst (λ x. ResolvesAmong offers (ModuleOf m imports exports hidden ds) x) (ok_ok p.2) (resolves_among (resolved_decls_are top no_words ds p.0 p.1))

-- ---- a module

all_more : (offers : Offers) → OffersMore offers offers_all
all_more offers = record { types = λ m w h. refl; terms = λ m w h. refl; coercions = λ m w h. refl }

lints_by_parts : (ns : List NModule) (n : NModule) → exports_judged n ≡ Ok done → declarations_judged (decls_at ns) (ndecls_in n) ≡ Ok done → lint_or_fault (decls_at ns) n ≡ Ok done
lints_by_parts ns (NModuleOf m imports exports hidden ds) e d = rw (e, d) refl

parts_by_lint : (ns : List NModule) (n : NModule) → lint_or_fault (decls_at ns) n ≡ Ok done → (exports_judged n ≡ Ok done) × (declarations_judged (decls_at ns) (ndecls_in n) ≡ Ok done)
parts_by_lint ns (NModuleOf m imports exports hidden ds) h = let p = and_then_inv (exports_judged (NModuleOf m imports exports hidden ds)) _ done h in (is_done (exports_judged (NModuleOf m imports exports hidden ds)) p.0 p.1, p.2)

-- a module that is judged well, with the form that it has
judged_holds : (ns : List NModule) (m : Module) (n : NModule) → resolved_or_fault m ≡ Ok n → module_judged ns m ≡ Ok done → HoldsInSet ns m n
judged_holds ns m n form h =
    let e = subst (λ o. and_then o (λ k. and_then (exports_judged k) (λ x. and_then (resolved_among (offers_of ns) m) (λ y. declarations_judged (decls_at ns) (ndecls_in k)))) ≡ Ok done) form h in
    let p = and_then_inv (exports_judged n) _ done e in
    let q = and_then_inv (resolved_among (offers_of ns) m) _ done p.2 in
    let same : q.0 ≡ n = ok_ok (sym (resolved_more (offers_of ns) offers_all (all_more (offers_of ns)) m q.0 q.1) ∙ form) in
    record {
      resolves = resolved_module_is m n form;
      offered = subst (ResolvesAmong (offers_of ns) m) same (resolved_among_is (offers_of ns) m q.0 q.1);
      holds = (lint_is (decls_at ns) n).0 (lints_by_parts ns n (is_done (exports_judged n) p.0 p.1) q.2);
    }

holds_judged : (ns : List NModule) (m : Module) (n : NModule) → HoldsInSet ns m n → module_judged ns m ≡ Ok done
holds_judged ns m n h =
    let p = parts_by_lint ns n ((lint_is (decls_at ns) n).1 h.holds) in
    rw (module_is_resolved h.resolves, p.0, among_is_resolved h.offered, p.1) refl

-- ---- a set

pub all_hold : (ns : List NModule) (ms : List Module) → modules_judged ns ms ≡ Ok done → AllHold ns ms (nameless_forms ms)
all_hold ns [] h = no_modules
all_hold ns (m ∷ ms) h =
    let p = judged_first (module_judged ns m) (name_of m) (modules_judged ns ms) h in
    let q = and_then_inv (resolved_or_fault m) _ done p.0 in
    rw q.1 (one_module (judged_holds ns m q.0 q.1 p.0) (all_hold ns ms p.1))

pub hold_forms : {ns ks : List NModule} {ms : List Module} → AllHold ns ms ks → nameless_forms ms ≡ ks
hold_forms no_modules = refl
hold_forms (one_module h rest) = rw (module_is_resolved h.resolves, hold_forms rest) refl

hold_judged : {ns ks : List NModule} {ms : List Module} → AllHold ns ms ks → modules_judged ns ms ≡ Ok done
hold_judged no_modules = refl
hold_judged {ns = ns} (one_module {m = m} {n = n} h rest) = rw (holds_judged ns m n h, hold_judged rest) refl

pub set_is_by_cases : (ms : List Module) → SetLints ms ↔ SetHolds ms
set_is_by_cases ms =
    (λ h. record { forms = nameless_forms ms; all = all_hold (nameless_forms ms) ms h }, λ s. subst (λ ns. modules_judged ns ms ≡ Ok done) (sym (hold_forms s.all)) (hold_judged s.all))
