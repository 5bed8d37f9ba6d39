-- What holds of the nameless forms of a set of modules, and of what they declare: where the set lints, each form holds against all.
use Rattle.std.proofs.Common.{◌≡◌, All, List, [], ◌∷◌, Result, Ok, Err, refl, ap, subst, ◌∙◌}
use Rattle.std.proofs.lemmas.List.Elements.{All-nil, All-cons, All-head, All-tail}
use Rattle.fc_syntax.specs.Tree.{Module}
use Rattle.fc_model.specs.Faulting.{F, and_then}
use Rattle.fc_model.specs.Headers.{name_of, ndecls_in}
use Rattle.fc_model.specs.Kinding.{decls_at}
use Rattle.fc_model.specs.Linting.{done, SetLints, declarations_judged, exports_judged, form_before, lint_or_fault, module_judged, modules_judged, nameless_forms, offers_of}
use Rattle.fc_model.specs.LintingRules.{ModuleHolds}
use Rattle.fc_model.specs.Nameless.{NModule, NModuleOf}
use Rattle.fc_model.specs.Resolution.{resolved_among, resolved_or_fault}
use Rattle.fc_model.specs.TypingLaws.{HasDistinctTypes}
use Rattle.fc_model.proofs.DeclaredKinded.{resolved_have_distinct_types}
use Rattle.fc_model.proofs.LintedIs.{lint_is}
use Rattle.fc_model.proofs.Parts.{and_then_inv}
use Rattle.fc_model.proofs.ResolvedModulesAre.{resolved_module_is}
use Rattle.fc_model.proofs.SetWritten.{judged_first}
use Rattle.fc_meaning.proofs.HeldDeclarations.{AreHeld, modules_are_held}

-- FORMS

-- what holds of a form, where there is one, and of all forms behind it
before_have : (P : NModule → Type 0) (r : Result NModule F) (ns : List NModule) → ((n : NModule) → r ≡ Ok n → P n) → All P ns → All P (form_before r ns)
before_have P (Ok n) ns here there = All-cons P n ns (here n refl) there
before_have P (Err f) ns here there = All-nil P

-- what each module gives its nameless form holds of all nameless forms
pub forms_have : (Q : Module → Type 0) (P : NModule → Type 0) → ((m : Module) (n : NModule) → Q m → resolved_or_fault m ≡ Ok n → P n) → (ms : List Module) → All Q ms
    → All P (nameless_forms ms)
forms_have Q P give [] all = All-nil P
forms_have Q P give (m ∷ ms) all =
    before_have P (resolved_or_fault m) (nameless_forms ms) (λ n form. give m n (All-head Q m ms all) form) (forms_have Q P give ms (All-tail Q m ms all))

-- the types of each form have words that are all different
pub set_has_distinct_types : (ms : List Module) → All HasDistinctTypes (nameless_forms ms)
set_has_distinct_types ms = forms_have (λ m. Unit {0}) HasDistinctTypes (λ m n u form. resolved_have_distinct_types m n (resolved_module_is m n form)) ms (λ k d l. tt)

-- JUDGED SETS

-- where a set has no fault, none of its modules has
all_judged : (ns : List NModule) (ms : List Module) → modules_judged ns ms ≡ Ok done → All (λ m. module_judged ns m ≡ Ok done) ms
all_judged ns [] h = All-nil (λ m. module_judged ns m ≡ Ok done)
all_judged ns (m ∷ ms) h =
    let p = judged_first (module_judged ns m) (name_of m) (modules_judged ns ms) h in All-cons (λ k. module_judged ns k ≡ Ok done) m ms p.0 (all_judged ns ms p.1)

-- the nameless form of a module that has no fault among modules has none either
form_lints : (ns : List NModule) (m : Module) (n : NModule) → module_judged ns m ≡ Ok done → resolved_or_fault m ≡ Ok n → lint_or_fault (decls_at ns) n ≡ Ok done
form_lints ns m (NModuleOf own imports exports hidden ds) h form =
    let n = NModuleOf own imports exports hidden ds in
    let e = subst (λ o. and_then o (λ k. and_then (exports_judged k) (λ x. and_then (resolved_among (offers_of ns) m) (λ y. declarations_judged (decls_at ns) (ndecls_in k)))) ≡ Ok done) form h in
    let p = and_then_inv (exports_judged n) _ done e in
    let q = and_then_inv (resolved_among (offers_of ns) m) _ done p.2 in
    ap (λ o. and_then o (λ x. declarations_judged (decls_at ns) ds)) p.1 ∙ q.2

-- each nameless form of a set that lints holds against all
pub set_holds : (ms : List Module) → SetLints ms → All (ModuleHolds (decls_at (nameless_forms ms))) (nameless_forms ms)
set_holds ms h =
    let ns = nameless_forms ms in
    forms_have (λ m. module_judged ns m ≡ Ok done) (ModuleHolds (decls_at ns)) (λ m n judged form. (lint_is (decls_at ns) n).0 (form_lints ns m n judged form)) ms (all_judged ns ms h)

-- what a set that lints declares holds against the set
pub set_is_held : (ms : List Module) → SetLints ms → AreHeld (decls_at (nameless_forms ms))
set_is_held ms h = modules_are_held (nameless_forms ms) (set_holds ms h)
