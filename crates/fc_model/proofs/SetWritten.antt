-- A set that lints does so as it is written: under their written headers its modules import no others, hide more words, and declare the same.
use Rattle.std.proofs.Common.{◌≡◌, Bool, true, false, not, ◌&&◌, bytes_eq, if◌then◌else◌, List, [], ◌∷◌, ◌++◌, Option, Some, None, Result, Ok, Err, map, append-nil, refl, sym, ap, ◌∙◌, subst}
use Rattle.std.proofs.Math.Path.{fun_ext}
use Rattle.std.proofs.lemmas.Bool.{and_parts}
use Rattle.std.specs.List.{list_all}
use Rattle.fc_syntax.specs.declared.fault.FaultKind.TheVariants.{ExportUnknown}
use Rattle.fc_syntax.specs.Tree.{Word, Decl, Module, ModuleOf}
use Rattle.fc_model.specs.Declaring.{declared_words, ncoercion_words, ndeclared_words, nterm_words, ntype_words, nwords_by}
use Rattle.fc_model.specs.Faulting.{F, and_then}
use Rattle.fc_model.specs.Headers.{hidden_of, imports_among, name_of, ndecls_in, others, set_written, words_but, written_among, written_of}
use Rattle.fc_model.specs.Kinding.{decls_at, decls_of_module}
use Rattle.fc_model.specs.Linting.{Done, done, SetLints, InModule, declarations_judged, exports_judged, form_before, in_module, module_judged, modules_judged, nameless_forms, offered_by, offers_of, told_by}
use Rattle.fc_model.specs.Mentioning.{mentioned_in}
use Rattle.fc_model.specs.Nameless.{NDecl, NModule, NModuleOf}
use Rattle.fc_model.specs.Resolution.{WordSet, no_word, no_words, plus, plus_all, resolved_among, resolved_decls, resolved_or_fault, top_among, top_of}
use Rattle.fc_model.proofs.MentionedImported.{mentioned_are_imported}
use Rattle.fc_model.proofs.Parts.{and_then_inv, need_inv, ok_ok}
use Rattle.fc_model.proofs.Resolved.{decls_have_words}
use Rattle.fc_model.proofs.ResolvedModulesAre.{resolved_decls_are}
use Rattle.fc_model.proofs.ResolvedMore.{HasMore, OffersMore, resolved_more}
use Rattle.fc_model.proofs.Sameness.{bytes_eq_eq, false_true}
use Rattle.fc_model.proofs.UnderHeader.{all_are_in, all_keep, hidden_are_declared}

-- IMPORTS

-- a set with one word more
pub plus_in : (p s : WordSet) (v w : Word) (b : Bool) → bytes_eq v w ≡ b → p v ≡ true → (s w ≡ true → p w ≡ true) → (if b then true else s w) ≡ true → p w ≡ true
plus_in p s v w true same here there h = subst (λ x. p x ≡ true) (bytes_eq_eq v w same) here
plus_in p s v w false same here there h = there h

-- a word of a set holds, where all that were put in do, and all that were there
pub in_all : (p s : WordSet) (ws : List Word) → list_all p ws ≡ true → ((w : Word) → s w ≡ true → p w ≡ true) → (w : Word) → plus_all ws s w ≡ true → p w ≡ true
in_all p s [] all rest w h = rest w h
in_all p s (v ∷ ws) all rest w h =
    let a = and_parts (p v) (list_all p ws) all in in_all p (plus v s) ws a.1 (λ u g. plus_in p s v u (bytes_eq v u) refl a.0 (rest u) g) w h

-- nothing is chosen that is left out
skipped : (b c : Bool) (w : Word) (ws vs : List Word) → (b ≡ true → c ≡ true) → ws ≡ vs → (if b && not c then w ∷ ws else ws) ≡ vs
skipped true true w ws vs h rest = rest
skipped false true w ws vs h rest = rest
skipped false false w ws vs h rest = rest
skipped true false w ws vs h rest = false_true (h refl)

pub none_chosen : (chosen but : WordSet) (ws : List Word) → ((w : Word) → chosen w ≡ true → but w ≡ true) → words_but chosen but ws ≡ []
none_chosen chosen but [] within = refl
none_chosen chosen but (w ∷ ws) within = skipped (chosen w) (but w) w (words_but chosen but ws) [] (within w) (none_chosen chosen but ws within)

-- the imports of a module that resolves are written as they are read
imports_kept : (order : List Word) (m : Word) (imports exports hidden : List Word) (ds : List Decl) (cs : List NDecl)
    → resolved_decls (top_of (ModuleOf m imports exports hidden ds)) no_words ds ≡ Ok cs → imports_among order (ModuleOf m imports exports hidden ds) ≡ imports
imports_kept order m imports exports hidden ds cs h =
    let top = top_of (ModuleOf m imports exports hidden ds) in
    let all = mentioned_are_imported top (resolved_decls_are top no_words ds cs h) in
    ap (λ ws. imports ++ ws) (none_chosen (plus_all (mentioned_in ds) no_word) (plus_all imports no_word) order (in_all (plus_all imports no_word) no_word (mentioned_in ds) all (λ w g. false_true g)))
    ∙ append-nil imports

-- HIDDEN WORDS

-- a set with words put in is larger where the set is
plus_more : (b c d : Bool) → (c ≡ true → d ≡ true) → (if b then true else c) ≡ true → (if b then true else d) ≡ true
plus_more true c d more h = refl
plus_more false c d more h = more h

all_more : (vs : List Word) (s t : WordSet) → ((w : Word) → s w ≡ true → t w ≡ true) → (w : Word) → plus_all vs s w ≡ true → plus_all vs t w ≡ true
all_more [] s t more w h = more w h
all_more (v ∷ vs) s t more w h = all_more vs (plus v s) (plus v t) (λ u g. plus_more (bytes_eq v u) (s u) (t u) (more u) g) w h

all_of_parts : (vs ws : List Word) (s : WordSet) → plus_all (vs ++ ws) s ≡ plus_all ws (plus_all vs s)
all_of_parts [] ws s = refl
all_of_parts (v ∷ vs) ws s = all_of_parts vs ws (plus v s)

-- the words of a longer list
longer : (vs more : List Word) (s : WordSet) (w : Word) → plus_all vs s w ≡ true → plus_all (vs ++ more) s w ≡ true
longer vs more s w h = ap (λ (r : WordSet). r w) (all_of_parts vs more s) ∙ all_keep more (plus_all vs s) w h

-- the same modules, which may hide more words
pub data HideMore : List NModule → List NModule → Type 0 where
  no_modules : HideMore [] []
  one_module : {m : Word} {imports exports hidden : List Word} (more : List Word) {ds : List NDecl} {ns ks : List NModule} → HideMore ns ks
      → HideMore (NModuleOf m imports exports hidden ds ∷ ns) (NModuleOf m imports exports (hidden ++ more) ds ∷ ks)

-- they declare the same
same_of_module : {ns ks : List NModule} → HideMore ns ks → (w : Word) → decls_of_module ns w ≡ decls_of_module ks w
same_of_module no_modules w = refl
same_of_module (one_module {m = m} more {ds = ds} rest) w = ap (λ x. if bytes_eq m w then ds else x) (same_of_module rest w)

same_at : {ns ks : List NModule} → HideMore ns ks → (o : Option Word) → decls_at ns o ≡ decls_at ks o
same_at h None = refl
same_at h (Some w) = same_of_module h w

pub same_declared : {ns ks : List NModule} → HideMore ns ks → decls_at ns ≡ decls_at ks
same_declared h = fun_ext (same_at h)

-- and have as much for others
one_or_other : (b c d e f : Bool) → (c ≡ true → d ≡ true) → (e ≡ true → f ≡ true) → (if b then c else e) ≡ true → (if b then d else f) ≡ true
one_or_other true c d e f here there h = here h
one_or_other false c d e f here there h = there h

told_more : {ns ks : List NModule} → HideMore ns ks → (m w : Word) → told_by ns m w ≡ true → told_by ks m w ≡ true
told_more no_modules m w h = h
told_more (one_module {m = n} {exports = exports} {hidden = hidden} more {ns = ns} {ks = ks} rest) m w h =
    one_or_other (bytes_eq n m) (plus_all exports (plus_all hidden no_word) w) (plus_all exports (plus_all (hidden ++ more) no_word) w) (told_by ns m w) (told_by ks m w)
    (λ g. all_more exports (plus_all hidden no_word) (plus_all (hidden ++ more) no_word) (longer hidden more no_word) w g) (λ g. told_more rest m w g) h

offered_more : {ns ks : List NModule} → HideMore ns ks → (words : NDecl → List Word) → HasMore (offered_by words ns) (offered_by words ks)
offered_more {ns = ns} {ks = ks} h words m w g =
    let a = and_parts (told_by ns m w) (plus_all (nwords_by words (decls_of_module ns m)) no_word w) g in
    rw (told_more h m w a.0) (ap (λ ds. plus_all (nwords_by words ds) no_word w) (sym (same_of_module h m)) ∙ a.1)

offers_more : {ns ks : List NModule} → HideMore ns ks → OffersMore (offers_of ns) (offers_of ks)
offers_more h = record { types = offered_more h ntype_words; terms = offered_more h nterm_words; coercions = offered_more h ncoercion_words }

-- MODULES

done_is : (d : Done) → d ≡ done
done_is done = refl

-- the written header of a module that resolves
header_is : (order : List Word) (m : Word) (imports exports hidden : List Word) (ds : List Decl) (cs : List NDecl)
    → resolved_decls (top_of (ModuleOf m imports exports hidden ds)) no_words ds ≡ Ok cs
    → written_among order (ModuleOf m imports exports hidden ds) ≡ ModuleOf m imports exports (hidden_of (ModuleOf m imports exports hidden ds)) ds
header_is order m imports exports hidden ds cs h = ap (λ is. ModuleOf m is exports (hidden_of (ModuleOf m imports exports hidden ds)) ds) (imports_kept order m imports exports hidden ds cs h)

-- the words that are hidden under it are declared
hidden_stand : (m : Word) (imports exports hidden : List Word) (ds : List Decl) (cs : List NDecl) → resolved_decls (top_of (ModuleOf m imports exports hidden ds)) no_words ds ≡ Ok cs
    → list_all (plus_all (ndeclared_words cs) no_word) hidden ≡ true
    → list_all (plus_all (ndeclared_words cs) no_word) (hidden_of (ModuleOf m imports exports hidden ds)) ≡ true
hidden_stand m imports exports hidden ds cs h old =
    let words = plus_all (ndeclared_words cs) no_word in
    let among = subst (λ ws. list_all words ws ≡ true) (sym (decls_have_words (top_of (ModuleOf m imports exports hidden ds)) no_words ds cs h)) (all_are_in (ndeclared_words cs) no_word) in
    hidden_are_declared words hidden exports ds old among

-- a module that holds among modules holds under its written header among the same modules that hide more
module_written : (order : List Word) {ns ks : List NModule} → HideMore ns ks → (m : Module) → module_judged ns m ≡ Ok done → module_judged ks (written_among order m) ≡ Ok done
module_written order {ns = ns} {ks = ks} hide (ModuleOf m imports exports hidden ds) h =
    let read = ModuleOf m imports exports hidden ds in
    let p = and_then_inv (resolved_or_fault read) _ done h in
    let e = and_then_inv (resolved_decls (top_of read) no_words ds) _ p.0 p.1 in
    let form : NModuleOf m imports exports hidden e.0 ≡ p.0 = ok_ok e.2 in
    let judged = subst (λ n. and_then (exports_judged n) (λ _. and_then (resolved_among (offers_of ns) read) (λ _. declarations_judged (decls_at ns) (ndecls_in n))) ≡ Ok done) (sym form) p.2 in
    let words = plus_all (ndeclared_words e.0) no_word in
    let q = and_then_inv (exports_judged (NModuleOf m imports exports hidden e.0)) _ done judged in
    let x = need_inv (list_all words exports && list_all words hidden) ExportUnknown _ q.0 q.1 in
    let y = and_parts (list_all words exports) (list_all words hidden) x.0 in
    let r = and_then_inv (resolved_among (offers_of ns) read) _ done q.2 in
    let f = and_then_inv (resolved_decls (top_among (offers_of ks) read) no_words ds) _ r.0 (resolved_more (offers_of ns) (offers_of ks) (offers_more hide) read r.0 r.1) in
    let declared : declarations_judged (decls_at ks) e.0 ≡ Ok done = subst (λ ms. declarations_judged ms e.0 ≡ Ok done) (same_declared hide) r.2 in
    ap (λ k. module_judged ks k) (header_is order m imports exports hidden ds e.0 e.1)
    ∙ rw (e.1, y.0, hidden_stand m imports exports hidden ds e.0 e.1 y.1, f.1) declared

-- SETS

pub judged_first : (r : Result Done F) (m : Word) (rest : Result Done InModule) → in_module m r rest ≡ Ok done → (r ≡ Ok done) × (rest ≡ Ok done)
judged_first (Ok done) m rest h = (refl, h)
judged_first (Err f) m rest h = absurd cc

-- each module of a set that holds has a nameless form
form_of : (ns : List NModule) (m : Module) → module_judged ns m ≡ Ok done → (n : NModule) × (resolved_or_fault m ≡ Ok n)
form_of ns m h = let p = and_then_inv (resolved_or_fault m) _ done h in (p.0, p.1)

all_written : (order : List Word) {ns ks : List NModule} → HideMore ns ks → (ms : List Module) → modules_judged ns ms ≡ Ok done → modules_judged ks (map (written_among order) ms) ≡ Ok done
all_written order hide [] h = refl
all_written order {ns = ns} {ks = ks} hide (m ∷ ms) h =
    let p = judged_first (module_judged ns m) (name_of m) (modules_judged ns ms) h in
    rw (module_written order hide m p.0) (all_written order hide ms p.1)

forms_first : (m : Module) (ms : List Module) (n : NModule) → resolved_or_fault m ≡ Ok n → nameless_forms (m ∷ ms) ≡ n ∷ nameless_forms ms
forms_first m ms n h = ap (λ r. form_before r (nameless_forms ms)) h

-- the nameless forms of what is written hide more
forms_hide : (order : List Word) (ns : List NModule) (ms : List Module) → modules_judged ns ms ≡ Ok done → HideMore (nameless_forms ms) (nameless_forms (map (written_among order) ms))
forms_hide order ns [] h = no_modules
forms_hide order ns (ModuleOf m imports exports hidden ds ∷ ms) h =
    let read = ModuleOf m imports exports hidden ds in
    let p = judged_first (module_judged ns read) m (modules_judged ns ms) h in
    let f = form_of ns read p.0 in
    let e = and_then_inv (resolved_decls (top_of read) no_words ds) _ f.0 f.1 in
    let there : resolved_or_fault (written_among order read) ≡ Ok (NModuleOf m imports exports (hidden_of read) e.0) =
    ap (λ k. resolved_or_fault k) (header_is order m imports exports hidden ds e.0 e.1) ∙ ap (λ r. and_then r (λ cs. Ok (NModuleOf m imports exports (hidden_of read) cs))) e.1 in
    let here : resolved_or_fault read ≡ Ok (NModuleOf m imports exports hidden e.0) = ap (λ r. and_then r (λ cs. Ok (NModuleOf m imports exports hidden cs))) e.1 in
    subst (λ ks. HideMore (nameless_forms (read ∷ ms)) ks) (sym (forms_first (written_among order read) (map (written_among order) ms) (NModuleOf m imports exports (hidden_of read) e.0) there))
    (subst (λ ks. HideMore ks (NModuleOf m imports exports (hidden_of read) e.0 ∷ nameless_forms (map (written_among order) ms))) (sym (forms_first read ms (NModuleOf m imports exports hidden e.0) here))
    (one_module (others (plus_all hidden (plus_all exports no_word)) (declared_words ds)) (forms_hide order ns ms p.1)))

-- the nameless forms of a set that lints, and of the set as it is written, which hides more
pub set_forms_hide : (ms : List Module) → SetLints ms → HideMore (nameless_forms ms) (nameless_forms (set_written ms))
set_forms_hide ms h = forms_hide (map name_of ms) (nameless_forms ms) ms h

-- a module with a nameless form is written as it is alone
pub written_alone : (order : List Word) (m : Module) (n : NModule) → resolved_or_fault m ≡ Ok n → written_among order m ≡ written_of m
written_alone order (ModuleOf m imports exports hidden ds) n h =
    let e = and_then_inv (resolved_decls (top_of (ModuleOf m imports exports hidden ds)) no_words ds) _ n h in header_is order m imports exports hidden ds e.0 e.1

-- each module of a set that lints has a nameless form, and is written as it is alone
pub all_written_alone : (order : List Word) (ns : List NModule) (ms : List Module) → modules_judged ns ms ≡ Ok done → map (written_among order) ms ≡ map written_of ms
all_written_alone order ns [] h = refl
all_written_alone order ns (m ∷ ms) h =
    let p = judged_first (module_judged ns m) (name_of m) (modules_judged ns ms) h in
    let f = form_of ns m p.0 in
    ap (λ k. k ∷ map (written_among order) ms) (written_alone order m f.0 f.1) ∙ ap (λ ks. written_of m ∷ ks) (all_written_alone order ns ms p.1)

-- a set that lints does so as it is written
pub set_written_lints : (ms : List Module) → SetLints ms → SetLints (set_written ms)
set_written_lints ms h = all_written (map name_of ms) (forms_hide (map name_of ms) (nameless_forms ms) ms h) ms h
