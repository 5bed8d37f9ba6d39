-- What holds of a module holds of it under the written header: every word is one of its form, and every premise holds.
use Rattle.std.proofs.Common.{◌≡◌, Bool, true, false, ◌&&◌, ◌||◌, bytes_eq, is_none, if◌then◌else◌, List, [], ◌∷◌, ◌++◌, Option, Some, None, Result, Ok, refl, sym, ap, ◌∙◌, subst}
use Rattle.std.proofs.Math.Path.{fun_ext}
use Rattle.std.proofs.lemmas.Bool.{and_parts}
use Rattle.std.specs.List.{list_all}
use Rattle.std.proofs.lemmas.List.Concat.{flat_map-cons}
use Rattle.std.proofs.lemmas.List.Folds.{list_all-append}
use Rattle.fc_syntax.specs.declared.fault.FaultKind.TheVariants.{ExportUnknown}
use Rattle.fc_syntax.specs.Tokens.{is_lower_name, is_module_name, is_upper_name}
use Rattle.fc_syntax.specs.Tree.{Word, ConDecl, ConOf, Decl, DData, DNew, DFamily, DAxiom, DDef, DWrap, Module, ModuleOf}
use Rattle.fc_model.specs.Formed.{IsFormed, are_field_binders, is_param_formed, is_plain_formed, is_con_formed, is_decl_formed, is_expr_formed, is_lower_word, is_type_formed, is_upper_word, is_word}
use Rattle.fc_model.specs.Declaring.{con_words, decl_words, declared_words, ndeclared_words}
use Rattle.fc_model.specs.Faulting.{F, need, and_then}
use Rattle.fc_model.specs.Headers.{others, written_of}
use Rattle.fc_model.specs.Kinding.{decls_at}
use Rattle.fc_model.specs.Linting.{Done, done, Lints, declarations_judged, exports_judged, lint_or_fault}
use Rattle.fc_model.specs.Nameless.{NDecl, NModuleOf}
use Rattle.fc_model.specs.Resolution.{WordSet, no_word, no_words, plus, plus_all, resolved_decls, resolved_or_fault, top_of}
use Rattle.fc_model.specs.Words.{keyword_of}
use Rattle.fc_model.proofs.Parts.{and_then_inv, need_inv, ok_ok}
use Rattle.fc_model.proofs.Resolved.{decls_have_words}
use Rattle.fc_model.proofs.Sameness.{bytes_eq_refl, false_true}

pub both : (a b : Bool) → a ≡ true → b ≡ true → a && b ≡ true
both a b p q = rw (p, q) refl

-- SETS OF WORDS

when : (b c : Bool) → c ≡ true → (if b then true else c) ≡ true
when true c h = refl
when false c h = h

-- a set with more words has those that it had
pub all_keep : (vs : List Word) (s : WordSet) (w : Word) → s w ≡ true → plus_all vs s w ≡ true
all_keep [] s w h = h
all_keep (v ∷ vs) s w h = all_keep vs (plus v s) w (when (bytes_eq v w) (s w) h)

-- and each of the words put in
pub all_are_in : (vs : List Word) (s : WordSet) → list_all (plus_all vs s) vs ≡ true
all_are_in [] s = refl
all_are_in (v ∷ vs) s =
    both (plus_all vs (plus v s) v) (list_all (plus_all vs (plus v s)) vs) (all_keep vs (plus v s) v (ap (λ b. if b then true else s v) (bytes_eq_refl v))) (all_are_in vs (plus v s))

others_if : (b : Bool) (p : WordSet) (w : Word) (skipped taken : List Word) → p w ≡ true → list_all p skipped ≡ true → list_all p taken ≡ true
    → list_all p (if b then skipped else w ∷ taken) ≡ true
others_if true p w skipped taken h s t = s
others_if false p w skipped taken h s t = both (p w) (list_all p taken) h t

-- the other words are among the words
pub others_are_among : (p : WordSet) (seen : WordSet) (ws : List Word) → list_all p ws ≡ true → list_all p (others seen ws) ≡ true
others_are_among p seen [] h = refl
others_are_among p seen (w ∷ ws) h =
    let a = and_parts (p w) (list_all p ws) h in
    others_if (seen w) p w (others seen ws) (others (plus w seen) ws) a.0 (others_are_among p seen ws a.1) (others_are_among p (plus w seen) ws a.1)

pub all_of_both : (p : WordSet) (vs ws : List Word) → list_all p vs ≡ true → list_all p ws ≡ true → list_all p (vs ++ ws) ≡ true
all_of_both p vs ws g h = list_all-append p vs ws ∙ both (list_all p vs) (list_all p ws) g h

-- WORDS OF THEIR FORM

upper_is_plain : (l u k : Bool) → u && k ≡ true → (l || u) && k ≡ true
upper_is_plain true u k h = let a = and_parts u k h in a.1
upper_is_plain false u k h = h

lower_is_plain : (l u k : Bool) → l && k ≡ true → (l || u) && k ≡ true
lower_is_plain true u k h = h
lower_is_plain false u k h = false_true h

upper_is_word : (w : Word) → is_upper_word w ≡ true → is_word w ≡ true
upper_is_word w h = upper_is_plain (is_lower_name w) (is_upper_name w) (is_none (keyword_of w)) h

lower_is_word : (w : Word) → is_lower_word w ≡ true → is_word w ≡ true
lower_is_word w h = lower_is_plain (is_lower_name w) (is_upper_name w) (is_none (keyword_of w)) h

cons_are_words : (cs : List ConDecl) → list_all is_con_formed cs ≡ true → list_all is_word (con_words cs) ≡ true
cons_are_words [] h = refl
cons_are_words (ConOf n bs fields ∷ cs) h =
    let a = and_parts (is_con_formed (ConOf n bs fields)) (list_all is_con_formed cs) h in
    let b = and_parts (is_upper_word n) (are_field_binders bs && list_all is_type_formed fields) a.0 in
    both (is_word n) (list_all is_word (con_words cs)) (upper_is_word n b.0) (cons_are_words cs a.1)

decl_has_words : (d : Decl) → is_decl_formed d ≡ true → list_all is_word (decl_words d) ≡ true
decl_has_words (DData n ps cs) h =
    let a = and_parts (is_upper_word n) (list_all is_param_formed ps && list_all is_con_formed cs) h in
    let b = and_parts (list_all is_param_formed ps) (list_all is_con_formed cs) a.1 in
    both (is_word n) (list_all is_word (con_words cs)) (upper_is_word n a.0) (cons_are_words cs b.1)
decl_has_words (DNew n ps t c) h =
    let a = and_parts (is_upper_word n && is_upper_word c) (list_all is_param_formed ps && is_type_formed t) h in
    let b = and_parts (is_upper_word n) (is_upper_word c) a.0 in
    both (is_word n) (is_word c && true) (upper_is_word n b.0) (both (is_word c) true (upper_is_word c b.1) refl)
decl_has_words (DFamily n ps k) h = let a = and_parts (is_upper_word n) (list_all is_plain_formed ps) h in both (is_word n) true (upper_is_word n a.0) refl
decl_has_words (DAxiom n ps t u) h =
    let a = and_parts (is_upper_word n) (list_all is_plain_formed ps && (is_type_formed t && is_type_formed u)) h in both (is_word n) true (upper_is_word n a.0) refl
decl_has_words (DDef n t e) h =
    let a = and_parts (is_lower_word n) (is_type_formed t && is_expr_formed e) h in both (is_word n) true (lower_is_word n a.0) refl
decl_has_words (DWrap n t e) h =
    let a = and_parts (is_lower_word n) (is_type_formed t && is_expr_formed e) h in both (is_word n) true (lower_is_word n a.0) refl

decls_have_formed_words : (ds : List Decl) → list_all is_decl_formed ds ≡ true → list_all is_word (declared_words ds) ≡ true
decls_have_formed_words [] h = refl
decls_have_formed_words (d ∷ ds) h =
    let a = and_parts (is_decl_formed d) (list_all is_decl_formed ds) h in
    ap (list_all is_word) (flat_map-cons decl_words d ds) ∙ all_of_both is_word (decl_words d) (declared_words ds) (decl_has_words d a.0) (decls_have_formed_words ds a.1)

pub written_is_formed : (m : Module) → IsFormed m → IsFormed (written_of m)
written_is_formed (ModuleOf m imports exports hidden ds) h =
    let seen = plus_all hidden (plus_all exports no_word) in
    let a = and_parts (is_module_name m && list_all is_module_name imports) ((list_all is_word exports && list_all is_word hidden) && list_all is_decl_formed ds) h in
    let b = and_parts (list_all is_word exports && list_all is_word hidden) (list_all is_decl_formed ds) a.1 in
    let c = and_parts (list_all is_word exports) (list_all is_word hidden) b.0 in
    let more = all_of_both is_word hidden (others seen (declared_words ds)) c.1 (others_are_among is_word seen (declared_words ds) (decls_have_formed_words ds b.1)) in
    rw (a.0, c.0, more, b.1) refl

-- other hidden words leave the declarations as they are
at_hidden : (m : Word) (imports exports h g : List Word) (ds : List NDecl) (o : Option Word) → decls_at (NModuleOf m imports exports h ds ∷ []) o ≡ decls_at (NModuleOf m imports exports g ds ∷ []) o
at_hidden m imports exports h g ds None = refl
at_hidden m imports exports h g ds (Some w) = refl

need_is_done : (b : Bool) (r : Result Done F) (d : Done) → need b ExportUnknown r ≡ Ok d → b ≡ true
need_is_done b r d h = (need_inv b ExportUnknown r d h).0

-- a nameless module lints with other hidden words that are declared
hidden_lints : (m : Word) (imports exports h g : List Word) (ds : List NDecl) → list_all (plus_all (ndeclared_words ds) no_word) g ≡ true
    → lint_or_fault (decls_at (NModuleOf m imports exports h ds ∷ [])) (NModuleOf m imports exports h ds) ≡ Ok done
    → lint_or_fault (decls_at (NModuleOf m imports exports g ds ∷ [])) (NModuleOf m imports exports g ds) ≡ Ok done
hidden_lints m imports exports h g ds declared lint =
    let same = fun_ext (at_hidden m imports exports h g ds) in
    let p = and_then_inv (exports_judged (NModuleOf m imports exports h ds)) _ done lint in
    let a = and_parts (list_all (plus_all (ndeclared_words ds) no_word) exports) (list_all (plus_all (ndeclared_words ds) no_word) h) (need_is_done _ _ p.0 p.1) in
    rw (a.0, declared) (ap (λ ms. declarations_judged ms ds) (sym same) ∙ p.2)

-- hidden words that are kept are declared
hidden_were_declared : (m : Word) (imports exports h : List Word) (ds : List NDecl)
    → lint_or_fault (decls_at (NModuleOf m imports exports h ds ∷ [])) (NModuleOf m imports exports h ds) ≡ Ok done
    → list_all (plus_all (ndeclared_words ds) no_word) h ≡ true
hidden_were_declared m imports exports h ds lint =
    let p = and_then_inv (exports_judged (NModuleOf m imports exports h ds)) _ done lint in
    let a = and_parts (list_all (plus_all (ndeclared_words ds) no_word) exports) (list_all (plus_all (ndeclared_words ds) no_word) h) (need_is_done _ _ p.0 p.1) in
    a.1

pub written_lints : (m : Module) → Lints m → Lints (written_of m)
written_lints (ModuleOf m imports exports hidden ds) lint =
    let read = ModuleOf m imports exports hidden ds in
    let seen = plus_all hidden (plus_all exports no_word) in
    let more = hidden ++ others seen (declared_words ds) in
    let p = and_then_inv (resolved_or_fault read) (λ n. lint_or_fault (decls_at (n ∷ [])) n) done lint in
    let q = and_then_inv (resolved_decls (top_of read) no_words ds) _ p.0 p.1 in
    let lints = subst (λ n. lint_or_fault (decls_at (n ∷ [])) n ≡ Ok done) (sym (ok_ok q.2)) p.2 in
    let words = plus_all (ndeclared_words q.0) no_word in
    let among = subst (λ ws. list_all words ws ≡ true) (sym (decls_have_words (top_of read) no_words ds q.0 q.1)) (all_are_in (ndeclared_words q.0) no_word) in
    let declared = all_of_both words hidden (others seen (declared_words ds)) (hidden_were_declared m imports exports hidden q.0 lints) (others_are_among words seen (declared_words ds) among) in
    ap (λ r. and_then (and_then r (λ cs. Ok (NModuleOf m imports exports more cs))) (λ n. lint_or_fault (decls_at (n ∷ [])) n)) q.1
    ∙ hidden_lints m imports exports hidden more q.0 declared lints

-- hidden words that are written are declared, where those are that were read
pub hidden_are_declared : (words : WordSet) (hidden exports : List Word) (ds : List Decl) → list_all words hidden ≡ true → list_all words (declared_words ds) ≡ true
    → list_all words (hidden ++ others (plus_all hidden (plus_all exports no_word)) (declared_words ds)) ≡ true
hidden_are_declared words hidden exports ds old all =
    let seen = plus_all hidden (plus_all exports no_word) in
    all_of_both words hidden (others seen (declared_words ds)) old (others_are_among words seen (declared_words ds) all)
