-- Which definitions are needed, by what is reached from the words that others may use.
use Rattle.std.proofs.Common.{◌≡◌, ◌∙◌, ◌&&◌, ◌||◌, ℕ, Bool, true, false, not, if◌then◌else◌, List, [], ◌∷◌, ◌++◌, length, map, refl, sym, ap, subst}
use Rattle.std.specs.List.{list_all, list_any}
use Rattle.std.specs.Str.{bytes_eq}
use Rattle.std.proofs.lemmas.List.{length-map}
use Rattle.fc_syntax.specs.Tree.{Word}
use Rattle.fc_syntax.specs.declared.ty.Ref.{Ref}
use Rattle.fc_syntax.specs.declared.module.Decl as RustDecl
use Rattle.fc_syntax.specs.declared.module.Module as RustModule
use Rattle.fc_model.proofs.Sameness.{false_true}
use Rattle.fc_model.specs.Nameless.{NDecl, NData, NNew, NFamily, NAxiom, NDef, NWrap, NModule, NModuleOf}
use Rattle.fc_model.specs.NamelessView.{ndecls_of, nmodule_of}
use Rattle.fc_syntax.specs.View.{decl_of}
use Rattle.fc_model.specs.Worded.{bare_decl}
use Rattle.fc_model.specs.Planning.{is_among}
use Rattle.fc_reaching.specs.Reaching.{defined_words}
use Rattle.fc_reaching.specs.Remaining.{AreUnreached, IsReachedFrom, as_root, defines_other, from_root}
use Rattle.fc_rows.specs.Dropping.{DropsDead, IsNeeded, is_offered, needed_by_one, needed_by_others}
use Rattle.fc_rows.specs.Rewriting.{without_definitions}
use Rattle.fc_def_dead.specs.Dead.{AreDead, offered_words, without_marked}
use Rattle.fc_def_dead.proofs.Moved.{without-map}

-- OFFERED WORDS

or_both : (b c d : Bool) → (b || (c || d)) ≡ ((b || c) || d)
or_both true c d = refl
or_both false c d = refl

among_both : (vs ws : List Word) (w : Word) → is_among (vs ++ ws) w ≡ (is_among vs w || is_among ws w)
among_both [] ws w = refl
among_both (v ∷ vs) ws w = ap (λ b. bytes_eq v w || b) (among_both vs ws w) ∙ or_both (bytes_eq v w) (is_among vs w) (is_among ws w)

offered_is : (n : NModule) (w : Word) → is_among (offered_words n) w ≡ is_offered n w
offered_is (NModuleOf m imports exports hidden ds) w = among_both exports hidden w

reached_needed : (n : NModule) (w : Word) → IsReachedFrom n (offered_words n) w → IsNeeded n w
reached_needed n w (as_root u a) = needed_by_others u (sym (offered_is n u) ∙ a)
reached_needed n w (from_root v u a r) = needed_by_one v u (sym (offered_is n v) ∙ a) r

needed_reached : (n : NModule) (w : Word) → IsNeeded n w → IsReachedFrom n (offered_words n) w
needed_reached n w (needed_by_others u a) = as_root u (offered_is n u ∙ a)
needed_reached n w (needed_by_one v u a r) = from_root v u (offered_is n v ∙ a) r

-- what offered words do not reach is not needed
pub unreached_dead : (n : NModule) (roots : List Word) (marks : List Bool) → roots ≡ offered_words n → AreUnreached n roots marks → AreDead n marks
unreached_dead n roots marks are a =
    let from = subst (λ ws. AreUnreached n ws marks) are a in
    record { keep = from.is_reached; needed = λ w. (λ h. reached_needed n w ((from.reached w).0 h), λ h. (from.reached w).1 (needed_reached n w h)); in_order = from.in_order }

-- WHAT IS LEFT

one_left : (b : Bool) (d : NDecl) (bs : List Bool) (ds es : List NDecl) → without_marked bs ds ≡ es → without_marked (not b ∷ bs) (d ∷ ds) ≡ (if b then d ∷ es else es)
one_left true d bs ds es is = ap (λ xs. d ∷ xs) is
one_left false d bs ds es is = is

left_is : (keep : Word → Bool) (ds : List NDecl) → without_marked (map (defines_other keep) ds) ds ≡ without_definitions keep ds
left_is keep [] = refl
left_is keep (NData n ps cs ∷ ds) = ap (λ es. NData n ps cs ∷ es) (left_is keep ds)
left_is keep (NNew n ps t con ∷ ds) = ap (λ es. NNew n ps t con ∷ es) (left_is keep ds)
left_is keep (NFamily n ps k ∷ ds) = ap (λ es. NFamily n ps k ∷ es) (left_is keep ds)
left_is keep (NAxiom n ps t u ∷ ds) = ap (λ es. NAxiom n ps t u ∷ es) (left_is keep ds)
left_is keep (NDef n t e ∷ ds) = one_left (keep n) (NDef n t e) (map (defines_other keep) ds) ds (without_definitions keep ds) (left_is keep ds)
left_is keep (NWrap n t e ∷ ds) = one_left (keep n) (NWrap n t e) (map (defines_other keep) ds) ds (without_definitions keep ds) (left_is keep ds)

ndecls_left : (marks : List Bool) (ds : List (RustDecl.Decl ℕ Ref)) → ndecls_of (without_marked marks ds) ≡ without_marked marks (ndecls_of ds)
ndecls_left marks ds = ap (map bare_decl) (without-map decl_of marks ds) ∙ without-map bare_decl marks (map decl_of ds)

and_not : (b c d : Bool) → c ≡ not d → (b && c) ≡ not (not b || d)
and_not true c d is = is
and_not false c d is = refl

-- all words that are defined pass a test where no definition is of another
all_pass : (keep : Word → Bool) (ds : List NDecl) → list_all keep (defined_words ds) ≡ not (list_any (λ b. b) (map (defines_other keep) ds))
all_pass keep [] = refl
all_pass keep (NData n ps cs ∷ ds) = all_pass keep ds
all_pass keep (NNew n ps t con ∷ ds) = all_pass keep ds
all_pass keep (NFamily n ps k ∷ ds) = all_pass keep ds
all_pass keep (NAxiom n ps t u ∷ ds) = all_pass keep ds
all_pass keep (NDef n t e ∷ ds) = and_not (keep n) (list_all keep (defined_words ds)) (list_any (λ b. b) (map (defines_other keep) ds)) (all_pass keep ds)
all_pass keep (NWrap n t e ∷ ds) = and_not (keep n) (list_all keep (defined_words ds)) (list_any (λ b. b) (map (defines_other keep) ds)) (all_pass keep ds)

same_test : (b c : Bool) → (b ≡ true → c ≡ true) → (c ≡ true → b ≡ true) → b ≡ c
same_test true c h g = sym (h refl)
same_test false true h g = g refl
same_test false false h g = refl

all_same : (f g : Word → Bool) (ws : List Word) → ((w : Word) → f w ≡ g w) → list_all f ws ≡ list_all g ws
all_same f g [] same = refl
all_same f g (w ∷ ws) same = ap (λ b. b && list_all f ws) (same w) ∙ ap (λ b. g w && b) (all_same f g ws same)

module _ (m : RustModule.Module ℕ Ref) (marks : List Bool) (a : AreDead (nmodule_of m) marks) where
  -- each declaration has a mark
  pub mark_count : length marks ≡ length m.decls
  mark_count = ap length a.in_order ∙ length-map (ndecls_of m.decls) (defines_other a.keep) ∙ length-map (map decl_of m.decls) bare_decl ∙ length-map m.decls decl_of

  pub drops : (k : RustModule.Module ℕ Ref) → list_any (λ b. b) marks ≡ true → k ≡ record m { decls = without_marked marks m.decls } → DropsDead (nmodule_of m) (nmodule_of k)
  drops k any is = record {
    keep = a.keep;
    needed = a.needed;
    some = all_pass a.keep (ndecls_of m.decls) ∙ ap (λ bs. not (list_any (λ b. b) bs)) (sym a.in_order) ∙ ap not any;
    left = ap nmodule_of is
        ∙ ap (λ ds. NModuleOf m.name m.imports m.exports m.hidden ds)
        (ndecls_left marks m.decls ∙ ap (λ bs. without_marked bs (ndecls_of m.decls)) a.in_order ∙ left_is a.keep (ndecls_of m.decls));
  }

  pub drops_none : list_any (λ b. b) marks ≡ false → (k : NModule) → DropsDead (nmodule_of m) k → ⊥
  drops_none none k d =
      let words = defined_words (ndecls_of m.decls) in
      let same = all_same a.keep d.keep words (λ w. same_test (a.keep w) (d.keep w) (λ h. (d.needed w).1 ((a.needed w).0 h)) (λ h. (a.needed w).1 ((d.needed w).0 h))) in
      let all : list_all a.keep words ≡ true = all_pass a.keep (ndecls_of m.decls) ∙ ap (λ bs. not (list_any (λ b. b) bs)) (sym a.in_order) ∙ ap not none in
      false_true (sym d.some ∙ sym same ∙ all)
