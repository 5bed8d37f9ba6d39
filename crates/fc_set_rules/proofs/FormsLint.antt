-- Whether a set lints, its nameless forms decide alone.
use Rattle.std.proofs.Common.{All, List, refl, sym, subst}
use Rattle.std.proofs.lemmas.List.Elements.{All-head, All-tail}
use Rattle.fc_syntax.specs.Tree.{Module, ModuleOf}
use Rattle.fc_model.specs.Linting.{nameless_forms, offers_of}
use Rattle.fc_model.specs.Nameless.{NModule}
use Rattle.fc_model.specs.Resolution.{Offers, no_word, top_among, top_of}
use Rattle.fc_model.specs.ResolutionRules.{Resolves, resolves_module}
use Rattle.fc_resolved_names.specs.ResolvedNames.{ImportsOthers}
use Rattle.fc_resolved_names.proofs.NamesHold.{names_hold}
use Rattle.fc_resolved_names.proofs.Scoped.{in_none}
use Rattle.fc_set_rules.specs.FormsDecide.{AllResolve, FormsDecideLint, none_resolve, offered_names, one_resolves}
use Rattle.fc_set_rules.specs.SetRules.{AllHold, HoldsInSet, ResolvesAmong, no_modules, one_module, resolves_among}
use Rattle.fc_set_rules.proofs.FoundAmong.{decls_among}
use Rattle.fc_set_rules.proofs.NamesOffered.{offered_goes, offered_own, offered_said}
use Rattle.fc_set_rules.proofs.SetsAre.{hold_forms, set_is_by_cases}

-- names of other modules are among what they have for others, whatever words binders have
offered_alike : (offers : Offers) {m k : Module} {n : NModule} → ImportsOthers n → ResolvesAmong offers m n → Resolves k n → ResolvesAmong offers k n
offered_alike offers others (resolves_among {m = m} {imports = imports} {exports = exports} {hidden = hidden} {ds = ds} rules) (resolves_module {ds = es} alone) =
    let top = top_among offers (ModuleOf m imports exports hidden ds) in
    resolves_among (decls_among (top_of (ModuleOf m imports exports hidden es)) offers (in_none imports no_word m others refl) alone
    (names_hold top (offered_names top.own top.offers) (offered_goes top) (offered_said top) (offered_own top) rules))

all_alike : (forms : List NModule) {ms ks : List Module} {ns : List NModule} → AllHold forms ms ns → All ImportsOthers ns → AllResolve ks ns → AllHold forms ks ns
all_alike forms no_modules others none_resolve = no_modules
all_alike forms (one_module {n = n} {ns = ns} h rest) others (one_resolves {m = k} r more) =
    let here : HoldsInSet forms k n = record { resolves = r; offered = offered_alike (offers_of forms) (All-head ImportsOthers n ns others) h.offered r; holds = h.holds } in
    one_module here (all_alike forms rest (All-tail ImportsOthers n ns others) more)

pub forms_decide_lint : FormsDecideLint
forms_decide_lint ms ks lints others resolve =
    let s = (set_is_by_cases ms).0 lints in
    let same = hold_forms s.all in
    let all = subst (λ ns. AllHold ns ms ns) (sym same) s.all in
    (set_is_by_cases ks).1 (record { forms = nameless_forms ms; all = all_alike (nameless_forms ms) all others resolve })
